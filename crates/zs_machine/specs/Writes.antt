-- The blocks that a sync writes.
use Rattle.std.specs.Prelude.{◌≡◌, ◌*◌, ◌++◌, List, [], ◌∷◌, length}
use Rattle.zs_ids.specs.Blocks.{bp_at}
use Rattle.zs_ids.specs.Graph.{Graph, Has, pieces_of}
use Rattle.zs_ids.specs.GraphValid.{Room, Overlap}
use Rattle.zs_txg.specs.Txg.{entries_for}
use Rattle.zs_objset.specs.declared.block.StagedBlock.{StagedBlock}
use Rattle.zs_scan.specs.Covered.{IsInRoom}
use Rattle.zs_scan.specs.Walks.{item_of}
use Rattle.zs_objset.specs.Staged.{AreBlocksOf}
use Rattle.zs_machine.specs.Machine.{Txg}

-- the blocks of a transaction group, dataset after dataset: those of each are what is staged for it, over its entries
abbrev pub AreStagedBlocks : Graph → Txg → List StagedBlock → Type 0
AreStagedBlocks [] txg blocks = blocks ≡ []
AreStagedBlocks (d ∷ ds) txg blocks =
    (own : List StagedBlock) × (rest : List StagedBlock) × (blocks ≡ own ++ rest)
    × AreBlocksOf (bp_at d.entries) txg.txg (entries_for txg.staged d.id) own × AreStagedBlocks ds txg rest

-- a block lies in the space of its mirror at its first place, with all its bytes, and has the size of a block
pub record IsBlockInRoom (room : Room) (block : StagedBlock) : Type 0 where
  pub placed : Has (pieces_of block.bp) (item_of block.bp).piece
  pub lies : IsInRoom room (item_of block.bp)
  pub size : length block.bytes ≡ 512 * block.bp.sectors

-- so does each block
abbrev pub AreInRoom : Room → List StagedBlock → Type 0
AreInRoom room blocks = (b : StagedBlock) → Has blocks b → IsBlockInRoom room b

-- no two of these blocks share a sector
abbrev pub AreApart : List StagedBlock → Type 0
AreApart [] = Unit {0}
AreApart (b ∷ bs) = ((c : StagedBlock) → Has bs c → Overlap b.bp c.bp → ⊥) × AreApart bs
