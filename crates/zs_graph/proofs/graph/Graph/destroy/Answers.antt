-- The dataset is taken out, and its child gets its parent.
use Rattle.std.proofs.Common.{ap, sym, subst, ◌∙◌, refl}
use Rattle.zs_ids.specs.GraphChange.{AreFreed, destroyed}
use Rattle.zs_graph.specs.View.{GraphView, IsGraph}
use Rattle.zs_graph.specs.ByIndex.{removed_at}
use Rattle.zs_graph.proofs.DestroyMade.{may_take, taken_kept, taken_made}
use Rattle.zs_graph.proofs.graph.Graph.destroy.Goals as goal

pub freed_by_removal-requires-clause-only : goal.freed_by_removal-requires-clause-only
freed_by_removal-requires-clause-only g c =
    may_take c.args.self.now (subst IsGraph c.self.view_is c.self.invariant) c.args.id c.in_ok-at.at c.in_ok-at.ensures.place.0 c.in_ok-at.ensures.place.1 c.in_ok-at.ensures.ok c.child_after-next.result c.child_after-next.ensures

pub invariant_of-self : goal.invariant_of-self
invariant_of-self g c =
    rw c.take_out.ensures (subst (λ v. IsGraph (record { sets = removed_at v.sets c.in_ok-at.at c.place_of-child.result; next = v.next })) (sym c.self.view_is) (taken_kept c.args.self.now (subst IsGraph c.self.view_is c.self.invariant) c.args.id c.in_ok-at.at c.in_ok-at.ensures.place.0 c.in_ok-at.ensures.place.1 c.in_ok-at.ensures.ok c.child_after-next.result c.child_after-next.ensures c.place_of-child.result c.place_of-child.ensures))

pub returns-clause-made : goal.returns-clause-made
returns-clause-made g c =
    taken_made c.args.self.now (subst IsGraph c.self.view_is c.self.invariant) c.args.id c.in_ok-at.at c.in_ok-at.ensures.place.0 c.in_ok-at.ensures.place.1 c.in_ok-at.ensures.ok c.child_after-next.result c.child_after-next.ensures c.place_of-child.result c.place_of-child.ensures _ _ (ap (λ g'. let w : GraphView = record { sets = g'; next = c.self.inside.next } in w) c.take_out.ensures ∙ ap (λ v. let w : GraphView = record { sets = removed_at v.sets c.in_ok-at.at c.place_of-child.result; next = v.next } in w) c.self.view_is) (λ d is. subst (λ l. AreFreed c.args.self.now.sets (destroyed c.args.self.now.sets d) l) (sym c.from_vec.ensures) (c.in_ok-items.ensures d is)) refl
