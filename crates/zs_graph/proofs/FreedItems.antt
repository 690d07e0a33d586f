-- The items that a change of the datasets frees, from the laws of what it frees.
use Rattle.std.proofs.Common.{◌⊎◌, ℕ, List, map}
use Rattle.std.specs.Prelude.{◌↔◌}
use Rattle.std.specs.List.Sorted.{IsStrictlySortedBy}
use Rattle.zs_ids.specs.declared.block.Piece.{Piece}
use Rattle.zs_ids.specs.declared.block.Item.{Item}
use Rattle.zs_ids.specs.Piece.{piece_cmp}
use Rattle.zs_ids.specs.Graph.{Has, Graph, IsLive, IsOfBlock}
use Rattle.zs_ids.specs.GraphChange.{AreFreed}
use Rattle.zs_graph.proofs.Lists.{has-map}
use mathlib.Core.Logic.{inl, inr}

-- The items of what a change frees: sorted by piece, they are just those that the change frees, where what it frees was
-- of a block and is live no more, and each block that was there is freed or stays.
pub freed_items : (old new : Graph) (IsFreed : Piece → ℕ → List ℕ → Type 0) (items : List Item)
    → ((p : Piece) (sectors : ℕ) (sum : List ℕ) → IsFreed p sectors sum → IsOfBlock old p sectors sum)
    → ((p : Piece) (sectors : ℕ) (sum : List ℕ) → IsFreed p sectors sum → IsLive new p → ⊥)
    → ((p : Piece) (sectors : ℕ) (sum : List ℕ) → IsOfBlock old p sectors sum → IsFreed p sectors sum ⊎ IsOfBlock new p sectors sum)
    → IsStrictlySortedBy piece_cmp (map (λ (i : Item). i.piece) items)
    → ((i : Item) → Has items i ↔ IsFreed i.piece i.sectors i.sum)
    → AreFreed old new items
freed_items old new IsFreed items was gone rest sorted are = record {
  in_order = sorted;
  was_live = λ i h. was i.piece i.sectors i.sum ((are i).0 h);
  is_gone = λ i h. gone i.piece i.sectors i.sum ((are i).0 h);
  rest = λ p sectors sum b. elim (rest p sectors sum b) [
    | inl freed ↦ inl (has-map (λ (i : Item). i.piece) items (record { piece = p; sectors = sectors; sum = sum }) ((are (record { piece = p; sectors = sectors; sum = sum })).1 freed))
    | inr stays ↦ inr stays
  ];
}
