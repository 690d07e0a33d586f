-- The free sectors of a mirror, in a list that says of each whether it is free.
use Rattle.std.specs.Prelude.{◌≡◌, ◌<◌, ◌≤◌, ◌+◌, ℕ, Bool, false, ◌&&◌, cond, nat_le, nat_lt, List, slice_index_or, Option, Some, None}

-- the sector lies from `first` on and below `end`
abbrev pub is_within : ℕ → ℕ → ℕ → Bool
is_within first end s = nat_le first s && nat_lt s end

-- 1 where the sector lies there, 0 elsewhere
unfoldable pub hits : ℕ → ℕ → ℕ → ℕ
hits first end s = cond (is_within first end s) 1 0

-- 1 where the sector is free, 0 elsewhere
abbrev pub free_count : List Bool → ℕ → ℕ
free_count free s = cond (slice_index_or free s false) 1 0

-- no sector from `first` on and below `end` is free
pub record AreTaken (free : List Bool) (first end : ℕ) : Type 0 where
  pub each : (s : ℕ) → first ≤ s → s < end → free_count free s ≡ 0

-- each sector from `first` on and below `end` is free
pub record AreFree (free : List Bool) (first end : ℕ) : Type 0 where
  pub each : (s : ℕ) → first ≤ s → s < end → 1 ≤ free_count free s

-- the first of the lowest n free sectors that follow each other
abbrev pub IsFirstFit : List Bool → ℕ → Option ℕ → Type 0
IsFirstFit free n None = (s : ℕ) → AreFree free s (s + n) → ⊥
IsFirstFit free n (Some first) = AreFree free first (first + n) × ((s : ℕ) → AreFree free s (s + n) → first ≤ s)

-- the free sectors without those from `first` on and below `end`, which were free
pub record IsCut (old : List Bool) (first end : ℕ) (new : List Bool) : Type 0 where
  pub count : (s : ℕ) → free_count new s + hits first end s ≡ free_count old s

-- the free sectors with those from `first` on and below `end`, none of which was free
pub record IsPut (old : List Bool) (first end : ℕ) (new : List Bool) : Type 0 where
  pub count : (s : ℕ) → free_count new s ≡ free_count old s + hits first end s
