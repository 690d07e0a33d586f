-- What an object says of its content: `None` where it tells nothing, as a file or a stream, else the content.
use Rattle.std.specs.Prelude.{◌≡◌, ◌⊎◌, ℕ, ◌+◌, ◌<◌, List, ◌++◌, length, take, drop, slice_index, All, Option}
use Rattle.std.specs.Prelude.{None, Some}

-- P of the content, where it is told
abbrev pub Told : {A : Type 0} → Option A → (A → Type 0) → Type 0
Told {A} told P = (content : A) → told ≡ Some content → P content

-- telling stays as it is, and R of both contents where they are told
abbrev pub BothTold : {A : Type 0} → (A → A → Type 0) → Option A → Option A → Type 0
BothTold R None None = Unit {0}
BothTold R (Some old) (Some new) = R old new
BothTold R None (Some new) = ⊥
BothTold R (Some old) None = ⊥

-- each of the numbers is a byte
abbrev pub AreBytes : List ℕ → Type 0
AreBytes numbers = All (λ b. b < 256) numbers

-- the old bytes with these written over them from this offset on
abbrev pub over : ℕ → List ℕ → List ℕ → List ℕ
over at bytes old = take at old ++ bytes ++ drop (at + length bytes) old

-- What is left open by a write that failed, or by one that a crash cuts short: the bytes of its range, and no other.
-- A write of one byte leaves the old byte or the new one. Where bytes stood and bytes were written, bytes stand.
pub record Torn (at : ℕ) (bytes old new : List ℕ) : Type 0 where
  pub long : length new ≡ length old
  pub before : take at new ≡ take at old
  pub after : drop (at + length bytes) new ≡ drop (at + length bytes) old
  pub single : length bytes ≡ 1 → (slice_index new at ≡ slice_index old at) ⊎ (slice_index new at ≡ slice_index bytes 0)
  pub values : AreBytes bytes → AreBytes old → AreBytes new
