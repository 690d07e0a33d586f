-- Where each dataset holds what one held before, and nothing is staged, the datasets stay formed and placed.
use Rattle.std.proofs.Common.{ℕ, List, [], refl, sym, subst}
use Rattle.std.specs.List.Sorted.{IsStrictlySortedBy}
use Rattle.zs_ids.specs.declared.key.Key.{Key}
use Rattle.zs_ids.specs.declared.block.Bp.{Bp}
use Rattle.zs_ids.specs.declared.block.Piece.{Piece}
use Rattle.zs_ids.specs.declared.dataset.DsId.{DsId}
use Rattle.zs_ids.specs.Graph.{Has, Graph, IsOfBlock}
use Rattle.zs_graph.proofs.Kept.{Holds}
use Rattle.zs_core.specs.Placed.{AreFormed, AreStaged}
use Rattle.zs_core.specs.Datasets.{AreDatasets}
use mathlib.Core.Logic.{inl}

-- nothing is staged, with any record sizes
pub none_staged : (size : ℕ → ℕ) (id : DsId) → AreStaged size id []
unfolding IsStrictlySortedBy
none_staged size id = record { in_order = tt; for_head = λ e h. absurd h; formed = λ e h. absurd h; sized = λ e h. absurd h; parents = λ e h. absurd h }

-- no blocks are formed, each record of one sector
pub none_formed : (n : ℕ) → AreFormed (λ _. 1) n []
unfolding IsStrictlySortedBy
none_formed n = record { sizes = λ object. inl refl; in_order = tt; each = λ e h. absurd h; parents = λ e h k is. absurd h }

-- each block was one before
pub carried_block : (old new : Graph) → Holds old new → (p : Piece) (sectors : ℕ) (sum : List ℕ) → IsOfBlock new p sectors sum → IsOfBlock old p sectors sum
carried_block old new holds p sectors sum b =
    let was = holds b.holder b.is_dataset in
    record { holder = was.0; is_dataset = was.1; at = b.at; is_entry = subst (λ (es : List (Key × Bp)). Has es b.at) was.2 b.is_entry; is_piece = b.is_piece; size = b.size; same_sum = b.same_sum }

-- the datasets stay formed and placed
pub carried : (old new : Graph) (t start next : ℕ) → Holds old new → AreDatasets old t start next [] → AreDatasets new t start next []
carried old new t start next holds a = record {
  in_order = a.in_order;
  heads = λ e h. absurd h;
  formed = λ d h.
      let was = holds d h in
      let f = a.formed was.0 was.1 in
      record { size = f.size; formed = subst (λ (es : List (Key × Bp)). AreFormed f.size t es) (sym was.2) f.formed; staged = none_staged f.size d.id };
  live = λ p sectors sum b. a.live p sectors sum (carried_block old new holds p sectors sum b);
  new = λ e h. absurd h;
  new_apart = λ e f h. absurd h;
  between = λ e p sectors sum h. absurd h;
}
