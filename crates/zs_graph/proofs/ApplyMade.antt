-- Blocks are applied to a head that is named by its index: the datasets stay valid.
use Rattle.std.proofs.Common.{◌≡◌, ◌<◌, ◌+◌, ℕ, Bool, true, false, List, length, refl, sym, ap, subst, ◌∙◌, arith}
use Rattle.std.specs.Prelude.{slice_get, Some, None, if◌then◌else◌}
use Rattle.zs_ids.specs.declared.key.Key.{Key}
use Rattle.zs_ids.specs.declared.block.Bp.{Bp}
use Rattle.zs_ids.specs.declared.dataset.DsId.{DsId}
use Rattle.zs_ids.specs.Blocks.{entries_with, IsInKeyOrder}
use Rattle.zs_ids.specs.Graph.{Dataset, Graph}
use Rattle.zs_ids.specs.GraphTree.{dataset_at}
use Rattle.zs_ids.specs.GraphChange.{MayPut, AreFreed, applied}
use Rattle.zs_graph.specs.declared.fault.GraphFault.TheVariants.{NotHead}
use Rattle.zs_graph.specs.declared.freed.Freed.{Freed}
use Rattle.zs_graph.specs.View.{GraphView, IsGraph}
use Rattle.zs_graph.specs.ByIndex.{applied_at}
use Rattle.zs_graph.specs.Refusals.{apply_refusal}
use Rattle.zs_graph.specs.Made.{IsApplied, MayPutAt}
use Rattle.zs_graph.proofs.Lists.{some≢none}
use Rattle.zs_graph.proofs.ApplyTree.{new_valid, was}
use Rattle.zs_graph.proofs.Seen.{at_index}
use Rattle.zs_graph.proofs.Searches.{changed_at}

is_true : (b : Bool) → (if b then None else Some NotHead) ≡ None → b ≡ true
is_true true e = refl
is_true false e = absurd (some≢none NotHead e)

module _ (v : GraphView) (facts : IsGraph v) (head : DsId) (at : ℕ) (within : at < length v.sets) (place : slice_get v.sets at ≡ dataset_at v.sets head) (changes : List (Key × Bp)) (t : ℕ) (may : MayPutAt v.sets head changes t) (none : apply_refusal v head ≡ None) where
  -- to what stands there the blocks may be put
  pub may_put : (d : Dataset) → slice_get v.sets at ≡ Some d → MayPut v.sets d changes t
  may_put d is =
      let here : dataset_at v.sets head ≡ Some d = sym place ∙ is in
      let step : (if d.head then None else Some NotHead) ≡ None = rw here at none in
      may d here (is_true d.head step)

  abbrev to : Dataset
  to = (at_index v.sets at within).0

  there : slice_get v.sets at ≡ Some to
  there = (at_index v.sets at within).1

  pub rises : IsInKeyOrder changes
  rises = (may_put to there).in_order

  abbrev now : GraphView
  now = record v { sets = applied_at v.sets at changes }

  by_id : applied_at v.sets at changes ≡ applied v.sets to changes
  by_id =
      rw there (changed_at v.sets facts.valid.tree.in_order at to (λ d. record d { entries = entries_with to.entries changes }) there)

  is_applied : now ≡ record v { sets = applied v.sets to changes }
  is_applied = ap (λ (g : Graph). let w : GraphView = record v { sets = g } in w) by_id

  kept : IsGraph (record v { sets = applied v.sets to changes })
  kept = record {
    last = facts.last + t;
    valid = new_valid v.sets facts.last t (facts.last + t) (omega arith) (omega arith) facts.valid to changes (may_put to there);
    below = λ d h.
        let w = was v.sets facts.last t (facts.last + t) (omega arith) (omega arith) facts.valid to changes (may_put to there) d h in
        let b : w.old.id.0 < v.next = facts.below w.old w.here in
        let e : d.id.0 ≡ w.old.id.0 = ap (λ (z : DsId). z.0) w.id in
        omega (arith, b, e);
  }

  pub apply_kept : IsGraph now
  apply_kept = subst IsGraph (sym is_applied) kept

  pub apply_made : (freed : Freed) (new : GraphView) → new ≡ now → AreFreed v.sets (applied_at v.sets at changes) freed.items → freed.next ≡ None → IsApplied v head changes t freed new
  apply_made freed new e items no_child = record {
    to = to;
    here = sym place ∙ there;
    may = may_put to there;
    now = e ∙ is_applied;
    items = subst (λ (w : GraphView). AreFreed v.sets w.sets freed.items) (sym e) items;
    no_child = no_child;
  }
