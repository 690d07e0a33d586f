-- The head has the blocks, and the datasets stay valid.
use Rattle.std.proofs.Common.{ap, sym, subst, ◌∙◌, refl}
use Rattle.zs_ids.specs.GraphChange.{AreFreed}
use Rattle.zs_graph.specs.View.{GraphView, IsGraph}
use Rattle.zs_graph.specs.ByIndex.{applied_at}
use Rattle.zs_graph.proofs.ApplyMade.{may_put, rises, apply_kept, apply_made}
use Rattle.zs_graph.proofs.graph.Graph.apply.Goals as goal

pub put_blocks-requires-clause-rise : goal.put_blocks-requires-clause-rise
put_blocks-requires-clause-rise g c =
    rises c.args.self.now (subst IsGraph c.self.view_is c.self.invariant) c.args.head c.in_ok-at.at c.in_ok-at.ensures.place.0 c.in_ok-at.ensures.place.1 c.args.changes.now c.args.t c.requires.may c.in_ok-at.ensures.ok

pub freed_by_put-requires-clause-may : goal.freed_by_put-requires-clause-may
freed_by_put-requires-clause-may g c =
    may_put c.args.self.now (subst IsGraph c.self.view_is c.self.invariant) c.args.head c.in_ok-at.at c.in_ok-at.ensures.place.0 c.in_ok-at.ensures.place.1 c.args.changes.now c.args.t c.requires.may c.in_ok-at.ensures.ok

pub invariant_of-self-2 : goal.invariant_of-self-2
invariant_of-self-2 g c =
    rw c.in_ok-put_blocks.ensures.ok (subst (λ v. IsGraph (record { sets = applied_at v.sets c.in_ok-at.at c.args.changes.now; next = v.next })) (sym c.self.view_is) (apply_kept c.args.self.now (subst IsGraph c.self.view_is c.self.invariant) c.args.head c.in_ok-at.at c.in_ok-at.ensures.place.0 c.in_ok-at.ensures.place.1 c.args.changes.now c.args.t c.requires.may c.in_ok-at.ensures.ok))

pub invariant_of-self : goal.invariant_of-self
invariant_of-self g c = rw c.in_err-put_blocks.ensures.err c.self.invariant

pub returns-clause-made : goal.returns-clause-made
returns-clause-made g c =
    apply_made c.args.self.now (subst IsGraph c.self.view_is c.self.invariant) c.args.head c.in_ok-at.at c.in_ok-at.ensures.place.0 c.in_ok-at.ensures.place.1 c.args.changes.now c.args.t c.requires.may c.in_ok-at.ensures.ok _ _ (ap (λ g'. let w : GraphView = record { sets = g'; next = c.self.inside.next } in w) c.in_ok-put_blocks.ensures.ok ∙ ap (λ v. let w : GraphView = record { sets = applied_at v.sets c.in_ok-at.at c.args.changes.now; next = v.next } in w) c.self.view_is) (subst (λ l. AreFreed c.args.self.now.sets (applied_at c.args.self.now.sets c.in_ok-at.at c.args.changes.now) l) (sym c.from_vec.ensures) c.in_ok-items.ensures) refl
