-- What a map has while changes of some keys are taken back.
use Rattle.std.specs.Prelude.{◌≡◌, ◌⊎◌, ◌∷◌, List, IsSome, Option, map}
use Rattle.std.specs.BTreeMap.{BTreeMap, IsOrdered}
use Rattle.std.specs.Map.{keys_of}
use Rattle.zs_ids.specs.declared.key.Key.{Key}
use Rattle.zs_ids.specs.declared.block.Bp.{Bp}
use Rattle.zs_ids.specs.Key.{key_cmp}
use Rattle.zs_ids.specs.Blocks.{bp_at}
use Rattle.zs_ids.specs.Graph.{Has}

-- the entries are those before, but for the keys of these changes, and no key is lost
pub record Differs (before now changes : List (Key × Bp)) : Type 0 where
  pub same : (q : Key) → (bp_at now q ≡ bp_at before q) ⊎ Has (keys_of changes) q
  pub kept : (q : Key) → IsSome (bp_at before q) → IsSome (bp_at now q)

-- what stood at a key in the map before is there again
abbrev pub Restores : BTreeMap Key Bp → Key → Option Bp → BTreeMap Key Bp → Type 0
Restores old key was new =
    (before : List (Key × Bp)) (bp : Bp) (left : List (Key × Bp)) → was ≡ bp_at before key → Differs before old.entries ((key, bp) ∷ left)
    → Differs before new.entries left

-- with these pointers, which stood at the keys of the changes before, the map is as it was before
abbrev pub TakesBack : BTreeMap Key Bp → List (Key × Bp) → List (Option Bp) → BTreeMap Key Bp → Type 0
TakesBack old changes was new =
    (before : BTreeMap Key Bp) → IsOrdered key_cmp before → Differs before.entries old.entries changes
    → was ≡ map (λ c. bp_at before.entries c.0) changes → new.entries ≡ before.entries
