-- Sets of transaction groups as rising lists of intervals, after `range_tree_t` of OpenZFS (the dirty time logs
-- of `vdev.c`).
use Rattle.std.specs.Prelude.{◌≡◌, ◌≤◌, ◌+◌, ◌-◌, ℕ, Bool, nat_le, ◌&&◌, ◌||◌, not, List, [], ◌∷◌, zero, suc, length}
use Rattle.std.specs.List.{list_any}
use Rattle.zs_ranges.specs.declared.set.Interval.{Interval}

-- the interval from one group to another has the group
abbrev pub is_between : ℕ → ℕ → ℕ → Bool
is_between first last t = nat_le first t && nat_le t last

-- the intervals have the group
abbrev pub has_txg : List Interval → ℕ → Bool
has_txg spans t = list_any (λ s. is_between s.first s.last t) spans

-- the intervals begin at `from` or later, are not empty, and rise with a group missing between each two
abbrev pub RisesFrom : ℕ → List Interval → Type 0
RisesFrom from [] = Unit {0}
RisesFrom from (s ∷ ss) = (from ≤ s.first) × (s.first ≤ s.last) × RisesFrom (s.last + 2) ss

-- the one list of intervals of a set of groups: rising, with a group missing between each two
abbrev pub IsCanonical : List Interval → Type 0
IsCanonical spans = RisesFrom 0 spans

-- the new set is the old one with the groups of a test
abbrev pub IsWith : List Interval → (ℕ → Bool) → List Interval → Type 0
IsWith old more new = (t : ℕ) → has_txg new t ≡ (has_txg old t || more t)

-- the new set is the old one without the groups of a test
abbrev pub IsWithout : List Interval → (ℕ → Bool) → List Interval → Type 0
IsWithout old less new = (t : ℕ) → has_txg new t ≡ (has_txg old t && not (less t))

-- an interval joined with the `k` intervals after it, gaps included
abbrev pub joined_with_next : ℕ → Interval → List Interval → List Interval
joined_with_next zero s ss = s ∷ ss
joined_with_next (suc k) s [] = s ∷ []
joined_with_next (suc k) s (n ∷ ss) = joined_with_next k (record { first = s.first; last = n.last }) ss

-- the two lowest intervals are joined, gap included, until there are at most `most` (not 0)
abbrev pub joined_to : ℕ → List Interval → List Interval
joined_to most [] = []
joined_to most (s ∷ ss) = joined_with_next (suc (length ss) - most) s ss

-- equal sets have equal lists of intervals
abbrev pub SameSetLaw : Type 0
SameSetLaw = (a b : List Interval) → IsCanonical a → IsCanonical b → ((t : ℕ) → has_txg a t ≡ has_txg b t) → a ≡ b
