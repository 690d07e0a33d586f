-- The blocks that a write of a block changes: the block itself and all above it.
use Rattle.std.specs.Prelude.{◌≡◌, ℕ, List, [], ◌∷◌, Some, None}
use Rattle.zs_ids.specs.declared.key.Key.{Key}
use Rattle.zs_ids.specs.Key.{parent_of}

-- the keys lead from k upwards, each to its parent, in an object of that many levels; the last has none
abbrev pub IsLineUp : ℕ → Key → List Key → Type 0
IsLineUp levels k [] = ⊥
IsLineUp levels k (x ∷ []) = (x ≡ k) × (parent_of k levels ≡ None)
IsLineUp levels k (x ∷ y ∷ ys) = (x ≡ k) × (parent_of k levels ≡ Some y) × IsLineUp levels y (y ∷ ys)
