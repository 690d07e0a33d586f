-- The law of a block's parent.
use Rattle.std.specs.Prelude.{◌≡◌, ◌≤◌, ℕ, Some}
use Rattle.std.specs.declared.cmp.Ordering.TheVariants.{Less}
use Rattle.zs_ids.specs.declared.key.Key.{Key}
use Rattle.zs_ids.specs.Key.{key_cmp, parent_of}

-- in an object of at most four levels the block that has a block's pointer comes before it in the order of keys
abbrev pub ParentLaw : Type 0
ParentLaw = (k p : Key) (levels : ℕ) → levels ≤ 4 → parent_of k levels ≡ Some p → key_cmp p k ≡ Less
