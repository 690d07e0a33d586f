-- Lists of intervals built in rising order.
use Rattle.std.specs.Prelude.{◌≡◌, ◌≤◌, ◌||◌, ◌&&◌, not, ℕ, Bool, List, [], ◌∷◌}
use Rattle.zs_ranges.specs.declared.set.Interval.{Interval}
use Rattle.zs_ranges.specs.Set.{has_txg, is_between, IsCanonical, RisesFrom}

-- no interval begins above the group
abbrev pub BeginBy : ℕ → List Interval → Type 0
BeginBy top [] = Unit {0}
BeginBy top (s ∷ ss) = (s.first ≤ top) × BeginBy top ss

-- the new intervals are those of the old ones and of one more, above which none begins
pub record IsPutBehind (old : List Interval) (s : Interval) (new : List Interval) : Type 0 where
  pub canonical : IsCanonical new
  pub has : (t : ℕ) → has_txg new t ≡ (has_txg old t || is_between s.first s.last t)
  pub behind : BeginBy s.first new

-- the intervals are those of two sets
pub record IsUnion (a b out : List Interval) : Type 0 where
  pub canonical : IsCanonical out
  pub has : (t : ℕ) → has_txg out t ≡ (has_txg a t || has_txg b t)

-- no interval of the first list begins above one of the second, and both are in form
pub record StartsBelow (out rest : List Interval) : Type 0 where
  pub top : ℕ
  pub canonical : IsCanonical out
  pub behind : BeginBy top out
  pub rises : RisesFrom top rest

-- two sets are put into one list: what is left of each begins above all that is there
pub record IsMerging (a b rest_a rest_b out : List Interval) : Type 0 where
  pub top : ℕ
  pub canonical : IsCanonical out
  pub behind : BeginBy top out
  pub rises_a : RisesFrom top rest_a
  pub rises_b : RisesFrom top rest_b
  pub has : (t : ℕ) → (has_txg out t || (has_txg rest_a t || has_txg rest_b t)) ≡ (has_txg a t || has_txg b t)

-- the new intervals are those of the old ones and the groups of an interval that pass the test
pub record IsPutPart (old : List Interval) (s : Interval) (test : ℕ → Bool) (top : ℕ) (new : List Interval) : Type 0 where
  pub canonical : IsCanonical new
  pub has : (t : ℕ) → has_txg new t ≡ (has_txg old t || (is_between s.first s.last t && test t))
  pub behind : BeginBy top new

-- the groups from first to last are cut out of a set: what is left of it begins above all that is there
pub record IsCutting (first last : ℕ) (spans rest out : List Interval) : Type 0 where
  pub top : ℕ
  pub canonical : IsCanonical out
  pub behind : BeginBy top out
  pub rises : RisesFrom top rest
  pub has : (t : ℕ) → (has_txg out t || (has_txg rest t && not (is_between first last t))) ≡ (has_txg spans t && not (is_between first last t))
