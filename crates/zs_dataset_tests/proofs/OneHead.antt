-- The graph of one head on the origin: nothing in it is later than the origin.
use Rattle.std.proofs.Common.{◌≡◌, ◌≤◌, ◌∷◌, [], ℕ, ap, sym, subst, ◌∙◌, arith}
use Rattle.zs_ids.specs.declared.key.Key.{Key}
use Rattle.zs_ids.specs.declared.block.Bp.{Bp}
use Rattle.zs_ids.specs.declared.dataset.DsId.{DsId}
use Rattle.zs_ids.specs.declared.dataset.Name.{Name}
use Rattle.zs_ids.specs.Graph.{Has, Dataset, Graph}
use Rattle.zs_ids.specs.GraphValid.{origin}
use Rattle.zs_ids.specs.GraphChange.{with_fs}
use Rattle.zs_graph.specs.View.{GraphView}
use Rattle.zs_graph.specs.Made.{IsFsMade, IsUpTo}
use mathlib.Core.Logic.{inl, inr}

pub one_head : (id : DsId) (name : Name) (t : ℕ) → 1 ≤ t → IsUpTo (with_fs (origin ∷ []) id name) t
one_head id name t from = record {
  births = λ d e i h. absurd (none d e i h);
  creations = created;
}
  where
    none : (d : Dataset) (e : Key × Bp) → Has (with_fs (origin ∷ []) id name) d → Has d.entries e → ⊥
    none d e (inl is) h = subst (λ (x : Dataset). Has x.entries e) (sym is) h
    none d e (inr (inl is)) h = subst (λ (x : Dataset). Has x.entries e) (sym is) h
    none d e (inr (inr no_more)) h = absurd no_more

    created : (d : Dataset) → Has (with_fs (origin ∷ []) id name) d → d.creation ≤ t
    created d (inl is) = let c : 1 ≡ d.creation = ap (λ (x : Dataset). x.creation) is in omega (arith, c, from)
    created d (inr (inl is)) = let c : 0 ≡ d.creation = ap (λ (x : Dataset). x.creation) is in omega (arith, c)
    created d (inr (inr no_more)) = absurd no_more

-- the datasets once a filesystem was made on the origin alone
pub one_head_made : (old new : GraphView) (id : DsId) (name : Name) → old ≡ record { sets = origin ∷ []; next = 1 } → IsFsMade old name id new → IsUpTo new.sets 2
one_head_made old new id name e made =
    subst (λ (g : Graph). IsUpTo g 2) (sym (made.now ∙ ap (λ (v : GraphView). with_fs v.sets id name) e)) (one_head id name 2 (omega arith))
