-- What stays of coverage where entries at home were at home.
use Rattle.std.proofs.Common.{◌≡◌, Bool, subst}
use Rattle.std.specs.Prelude.{IsTrue}
use Rattle.zs_ids.specs.declared.key.Key.{Key}
use Rattle.zs_ids.specs.declared.block.Bp.{Bp}
use Rattle.zs_ids.specs.declared.block.Piece.{Piece}
use Rattle.zs_ids.specs.Graph.{Has, Dataset, Graph, pieces_of}
use Rattle.zs_ids.specs.GraphTree.{IsHome}
use Rattle.zs_phys.specs.declared.scope.Scope.{Scope}
use Rattle.zs_phys.specs.declared.phys.Phys.{Phys}
use Rattle.zs_phys.specs.Scope.{in_scope}
use Rattle.zs_phys.specs.Ahead.{Ahead, Covers, claims}
use Rattle.zs_cover.specs.Laws.{StaysDone}
use Rattle.zs_graph.proofs.Homes.{home-live}
use mathlib.Core.Logic.{inl, inr}

-- a state covers where entries at home were at home, and what was ahead of them is ahead
pub covers_kept : (g g' : Graph) (scope : Scope) (s t : Phys) (done more : Piece → Bool) → Covers g scope s done → t.status ≡ s.status → StaysDone g' done more → ((x : Dataset) (e : Key × Bp) (p : Piece) → IsHome g' x e → Has (pieces_of e.1) p → IsTrue (in_scope scope p) → IsTrue (claims s.status) → (y : Dataset) × IsHome g y e × (Ahead g s y.id e → Ahead g' t x.id e)) → Covers g' scope t more
covers_kept g g' scope s t done more covers status stays back = record {
  covered = λ claim d e p home piece in_range.
      let was : IsTrue (claims s.status) = subst (λ x. IsTrue (claims x)) status claim in
      let b = back d e p home piece in_range was in
      elim (covers.covered was b.0 e p b.1 piece in_range) [
        | inl is_done ↦ inl (stays p (home-live g' d e p home piece) is_done)
        | inr ahead ↦ inr (b.2 ahead)
      ];
}
