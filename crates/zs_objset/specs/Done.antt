-- The blocks that are made so far, from the greatest key down.
use Rattle.std.specs.Prelude.{◌≡◌, ℕ, List, ◌++◌, Option, reverse}
use Rattle.std.specs.BTreeMap.{insert_entry}
use Rattle.zs_ids.specs.declared.key.Key.{Key}
use Rattle.zs_ids.specs.Key.{key_cmp}
use Rattle.zs_ids.specs.declared.block.Bp.{Bp}
use Rattle.zs_txg.specs.declared.staged.StagedEntry.{StagedEntry}
use Rattle.zs_objset.specs.declared.block.StagedBlock.{StagedBlock}
use Rattle.zs_objset.specs.Staged.{AreBlocksOf, AreSized, pointers_of}

-- the pointers with that to one block more
abbrev pub with_listed : List (Key × Bp) → StagedBlock → List (Key × Bp)
with_listed pointers b = insert_entry key_cmp pointers b.key b.bp

-- of the entries `all` the blocks of all but `todo` are made, with the pointers among them put over `get`
pub record AreDone (get : Key → Option Bp) (t : ℕ) (all todo : List StagedEntry) (pointers : List (Key × Bp)) (blocks : List StagedBlock) : Type 0 where
  pub rest : List StagedEntry
  pub split : todo ++ rest ≡ all
  pub made : AreBlocksOf get t rest (reverse blocks)
  pub sized : AreSized rest (reverse blocks)
  pub listed : pointers ≡ pointers_of (reverse blocks)
