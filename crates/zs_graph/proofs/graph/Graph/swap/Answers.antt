-- The two heads are exchanged at their indices.
use Rattle.std.proofs.Common.{ap, sym, subst, ◌∙◌}
use Rattle.zs_graph.specs.View.{GraphView, IsGraph}
use Rattle.zs_graph.specs.ByIndex.{swapped_at}
use Rattle.zs_graph.proofs.SwapMade.{swap_at_kept, swap_at_made, indices_differ}
use Rattle.zs_graph.proofs.graph.Graph.swap.Goals as goal

pub swap_maps-requires-clause-two : goal.swap_maps-requires-clause-two
swap_maps-requires-clause-two g c = indices_differ c.args.self.now (subst IsGraph c.self.view_is c.self.invariant) c.in_ok-first.first c.in_ok-first.second c.args.a c.args.b c.in_ok-first.ensures.first.0 c.in_ok-first.ensures.second.0 c.in_ok-first.ensures.first.1 c.in_ok-first.ensures.second.1 c.in_ok-first.ensures.ok

pub invariant_of-self : goal.invariant_of-self
invariant_of-self g c =
    rw c.swap_maps.ensures (subst (λ v. IsGraph (record { sets = swapped_at v.sets c.in_ok-first.first c.in_ok-first.second; next = v.next })) (sym c.self.view_is) (swap_at_kept c.args.self.now (subst IsGraph c.self.view_is c.self.invariant) c.in_ok-first.first c.in_ok-first.second c.args.a c.args.b c.in_ok-first.ensures.first.0 c.in_ok-first.ensures.second.0 c.in_ok-first.ensures.first.1 c.in_ok-first.ensures.second.1 c.in_ok-first.ensures.ok))

pub returns-clause-made : goal.returns-clause-made
returns-clause-made g c =
    swap_at_made c.args.self.now (subst IsGraph c.self.view_is c.self.invariant) c.in_ok-first.first c.in_ok-first.second c.args.a c.args.b c.in_ok-first.ensures.first.0 c.in_ok-first.ensures.second.0 c.in_ok-first.ensures.first.1 c.in_ok-first.ensures.second.1 c.in_ok-first.ensures.ok _ (ap (λ g'. let w : GraphView = record { sets = g'; next = c.self.inside.next } in w) c.swap_maps.ensures ∙ ap (λ v. let w : GraphView = record { sets = swapped_at v.sets c.in_ok-first.first c.in_ok-first.second; next = v.next } in w) c.self.view_is)
