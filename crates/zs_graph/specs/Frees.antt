-- What a change of the datasets frees, block by block.
use Rattle.std.specs.Prelude.{◌≡◌, ℕ, List, [], Option, Some, None}
use Rattle.zs_ids.specs.declared.key.Key.{Key}
use Rattle.zs_ids.specs.declared.block.Bp.{Bp}
use Rattle.zs_ids.specs.declared.block.Piece.{Piece}
use Rattle.zs_ids.specs.declared.dataset.DsId.{DsId}
use Rattle.zs_ids.specs.Graph.{Has, Dataset, Graph, pieces_of}
use Rattle.zs_ids.specs.GraphTree.{dataset_at, entries_of, IsHome}

-- the piece is one of the entry's block, with the block's size and sum
pub record IsPieceOf (e : Key × Bp) (piece : Piece) (sectors : ℕ) (sum : List ℕ) : Type 0 where
  pub is_piece : Has (pieces_of e.1) piece
  pub size : sectors ≡ e.1.sectors
  pub same_sum : sum ≡ e.1.sum

-- one of the entries has the piece
pub record IsPieceIn (entries : List (Key × Bp)) (piece : Piece) : Type 0 where
  pub entry : Key × Bp
  pub here : Has entries entry
  pub is_piece : Has (pieces_of entry.1) piece

-- what the dataset with this id holds, where there is one
abbrev pub held_by : Graph → Option DsId → List (Key × Bp)
held_by g None = []
held_by g (Some id) = entries_of (dataset_at g id)

-- a destroyed dataset, whose one child is `next`, frees the pieces of its entries at home that the child does not hold
pub record IsFreedByDestroy (g : Graph) (gone : Dataset) (next : Option DsId) (piece : Piece) (sectors : ℕ) (sum : List ℕ) : Type 0 where
  pub entry : Key × Bp
  pub home : IsHome g gone entry
  pub unheld : Has (held_by g next) entry → ⊥
  pub of : IsPieceOf entry piece sectors sum

-- blocks that are applied to a head free the pieces of the head's entries at home that they replace, but those that are
-- pieces of the blocks too
pub record IsFreedByApply (g : Graph) (head : Dataset) (changes : List (Key × Bp)) (piece : Piece) (sectors : ℕ) (sum : List ℕ) : Type 0 where
  pub entry : Key × Bp
  pub home : IsHome g head entry
  pub change : Key × Bp
  pub is_change : Has changes change
  pub same_key : change.0 ≡ entry.0
  pub of : IsPieceOf entry piece sectors sum
  pub unkept : IsPieceIn changes piece → ⊥
