-- The words behind a command word: numbers and names.
use Rattle.std.specs.Prelude.{ℕ, ◌+◌, ◌-◌, ◌*◌, ◌^◌, ◌%◌, ◌==◌, nat_lt, nat_le, ◌&&◌, ◌||◌, Bool, false, List, [], ◌∷◌, ◌++◌, length, if◌then◌else◌, Result, Ok, Err, replicate, slice_index, position, Option, None, Some, take, drop}
use Rattle.std.specs.Char.{is_ascii_digit}
use Rattle.std.specs.List.{list_all}
use Rattle.std.specs.Int.{is_power_of_two}
use Rattle.zs_ids.specs.declared.dataset.Name.{Name}
use Rattle.zs_ids.specs.declared.dataset.DsName.{DsName}
use Rattle.zs_ids.specs.declared.limits.TheConstants.{BLOCK_BYTES, BLOCKS, LEAST_BLOCKS, SECTOR}
use Rattle.zs_script.specs.Faults.{◌>>=◌}
use Rattle.zs_script.specs.declared.command.Why.{Why}
use Rattle.zs_script.specs.declared.command.Why.TheVariants as why

-- the value of the digits of n and these behind them, below 2 ^ 64
abbrev pub digits_from : ℕ → List ℕ → Result ℕ Why
digits_from n [] = Ok n
digits_from n (b ∷ bs) =
    if is_ascii_digit b && nat_lt (n * 10 + (b - 48)) (2 ^ 64) then digits_from (n * 10 + (b - 48)) bs else Err why.Number

-- a number from low to high: decimal digits, of which the first is no zero unless it stands alone
unfoldable pub number_of : ℕ → ℕ → List ℕ → Result ℕ Why
number_of low high word =
    if length word == 0 || nat_lt 1 (length word) && slice_index word 0 == 48 then Err why.Number
    else (digits_from 0 word >>= λ n. if nat_lt n low || nat_lt high n then Err why.Number else Ok n)

-- the bytes of a record: a power of two from 512 to 131,072
unfoldable pub size_of : List ℕ → Result ℕ Why
size_of word = number_of SECTOR BLOCK_BYTES word >>= λ n. if is_power_of_two n then Ok n else Err why.Number

-- how many blocks a pool may have: a multiple of 4 from 64 to 65,536
unfoldable pub blocks_of : List ℕ → Result ℕ Why
blocks_of word = number_of LEAST_BLOCKS BLOCKS word >>= λ n. if n % 4 == 0 then Ok n else Err why.Number

-- a lower-case letter or a digit
abbrev pub is_name_byte : ℕ → Bool
is_name_byte b = nat_le 97 b && nat_le b 122 || nat_le 48 b && nat_le b 57

-- 1 to 12 such bytes
abbrev pub is_name_word : List ℕ → Bool
is_name_word word = if length word == 0 || nat_lt 12 (length word) then false else list_all is_name_byte word

-- a name
unfoldable pub name_of : List ℕ → Result Name Why
name_of word =
    if is_name_word word then Ok (record { len = length word; bytes = word ++ replicate (12 - length word) 0 }) else Err why.Name

-- no name, as a head has no label
abbrev pub no_name : Name
no_name = record { len = 0; bytes = replicate 12 0 }

-- a head's name
abbrev pub head_of : List ℕ → Result DsName Why
head_of word = name_of word >>= λ owner. Ok (record { owner = owner; label = no_name })

-- a snapshot's owner and label
abbrev pub snapshot_of : List ℕ → List ℕ → Result DsName Why
snapshot_of before behind =
    name_of before >>= λ owner. name_of behind >>= λ label. Ok (record { owner = owner; label = label })

-- a name that has its first `@`, if any, at this place
abbrev pub ds_cut : List ℕ → Option ℕ → Result DsName Why
ds_cut word None = head_of word
ds_cut word (Some at) = snapshot_of (take at word) (drop (at + 1) word)

-- a dataset's name: `NAME`, or `OWNER@LABEL`
unfoldable pub ds_of : List ℕ → Result DsName Why
ds_of word = ds_cut word (position (λ b. b == 64) word)
