-- The pieces that a sync brings forth.
use Rattle.std.specs.Prelude.{◌≡◌, ℕ, List, true}
use Rattle.std.specs.List.Sorted.{IsStrictlySortedBy}
use Rattle.zs_ids.specs.declared.block.Item.{Item}
use Rattle.zs_ids.specs.declared.block.Piece.{Piece}
use Rattle.zs_ids.specs.Graph.{Graph, Has, IsLive, IsOfBlock}
use Rattle.zs_ids.specs.Piece.{piece_cmp}
use Rattle.zs_scan.specs.View.{pieces_in, has_item}

-- the items are those of the pieces that are born in the transaction group and live, with their sizes and sums, in order
-- of place
pub record AreBornItems (g : Graph) (t : ℕ) (items : List Item) : Type 0 where
  pub in_order : IsStrictlySortedBy piece_cmp (pieces_in items)
  pub each : (i : Item) → Has items i → IsOfBlock g i.piece i.sectors i.sum
  pub births : (i : Item) → Has items i → i.piece.birth ≡ t
  pub all : (p : Piece) → IsLive g p → p.birth ≡ t → has_item items p ≡ true
