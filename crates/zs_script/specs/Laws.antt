-- What the definitions of this crate mean, in the words of texts and numbers.
use Rattle.std.specs.Prelude.{◌≡◌, ℕ, ◌^◌, ◌<◌, ◌≤◌, List, Ok}
use Rattle.std.specs.Fmt.{decimal}
use Rattle.zs_script.specs.Fields.{number_of}

-- a word that is read as a number is that number's decimal, and the number is in range
pub record IsNumberWord (low high n : ℕ) (word : List ℕ) : Type 0 where
  pub text : word ≡ decimal n
  pub least : low ≤ n
  pub most : n ≤ high

abbrev pub NumbersRead : Type 0
NumbersRead = (low high n : ℕ) (word : List ℕ) → number_of low high word ≡ Ok n → IsNumberWord low high n word

-- and each such word is read
abbrev pub NumbersReadAgain : Type 0
NumbersReadAgain = (low high n : ℕ) → low ≤ n → n ≤ high → n < 2 ^ 64 → number_of low high (decimal n) ≡ Ok n
