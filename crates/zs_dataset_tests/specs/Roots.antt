-- Datasets that hold no block but a root: with them the tests put blocks over those of a head.
use Rattle.std.specs.Prelude.{◌≡◌, ◌≤◌, ◌<◌, ◌+◌, ℕ}
use Rattle.zs_ids.specs.declared.key.Key.{Key}
use Rattle.zs_ids.specs.declared.block.Bp.{Bp}
use Rattle.zs_ids.specs.declared.block.Piece.{Piece}
use Rattle.zs_ids.specs.Key.{root_key}
use Rattle.zs_ids.specs.Graph.{Has, Dataset, Graph, pieces_of}

-- each block is a root that lies before the sector, and each block and snapshot is older than the transaction group t
pub record HoldRoots (g : Graph) (sector t : ℕ) : Type 0 where
  pub keys : (d : Dataset) (e : Key × Bp) → Has g d → Has d.entries e → e.0 ≡ root_key
  pub births : (d : Dataset) (e : Key × Bp) → Has g d → Has d.entries e → e.1.birth < t
  pub places : (d : Dataset) (e : Key × Bp) (p : Piece) → Has g d → Has d.entries e → Has (pieces_of e.1) p → p.place.sector + e.1.sectors ≤ sector
  pub creations : (d : Dataset) → Has g d → d.creation < t

-- the pointer is a root's, at the sector alone, born in t
pub record IsRootAt (bp : Bp) (sector t : ℕ) : Type 0 where
  pub count : bp.count ≡ 1
  pub place : (p : Piece) → Has (pieces_of bp) p → p.place.sector ≡ sector
  pub sectors : bp.sectors ≡ 8
  pub level : bp.level ≡ 1
  pub birth : bp.birth ≡ t
