-- What becomes of a set whose lowest intervals are joined.
use Rattle.std.specs.Prelude.{◌≡◌, ◌⊎◌, ◌≤◌, ◌<◌, ◌+◌, ◌-◌, ℕ, true, List, length, take}
use Rattle.zs_ranges.specs.declared.set.Interval.{Interval}
use Rattle.zs_ranges.specs.Set.{has_txg, IsCanonical, joined_to}

-- the set has the group, and no lesser one
abbrev pub IsLeast : List Interval → ℕ → Type 0
IsLeast spans m = (has_txg spans m ≡ true) × ((t : ℕ) → has_txg spans t ≡ true → m ≤ t)

-- the set has the group, and no greater one
abbrev pub IsGreatest : List Interval → ℕ → Type 0
IsGreatest spans m = (has_txg spans m ≡ true) × ((t : ℕ) → has_txg spans t ≡ true → t ≤ m)

-- the intervals that become one where at most `most` are left
abbrev pub lowest : ℕ → List Interval → List Interval
lowest most spans = take (length spans + 1 - most) spans

-- the group lies between two groups of the intervals
pub record LiesBetween (spans : List Interval) (t : ℕ) : Type 0 where
  pub lower : ℕ
  pub upper : ℕ
  pub has_lower : has_txg spans lower ≡ true
  pub has_upper : has_txg spans upper ≡ true
  pub above : lower < t
  pub below : t < upper

-- The joined set has each group of the old one, and besides them just those between two groups of the intervals that
-- became one: the gaps. The least group and the greatest stay.
pub record IsJoined (most : ℕ) (old new : List Interval) : Type 0 where
  pub keeps : (t : ℕ) → has_txg old t ≡ true → has_txg new t ≡ true
  pub fills : (t : ℕ) → LiesBetween (lowest most old) t → has_txg new t ≡ true
  pub no_more : (t : ℕ) → has_txg new t ≡ true → (has_txg old t ≡ true) ⊎ LiesBetween (lowest most old) t
  pub least : (m : ℕ) → IsLeast old m → IsLeast new m
  pub greatest : (m : ℕ) → IsGreatest old m → IsGreatest new m

-- so is each set whose lowest intervals are joined
abbrev pub JoinedLaw : Type 0
JoinedLaw = (most : ℕ) (spans : List Interval) → IsCanonical spans → IsJoined most spans (joined_to most spans)
