-- A clone is a head on a snapshot, with a copy of its map.
use Rattle.std.proofs.Common.{◌≡◌, ◌<◌, length, Some, ap, sym, subst, ◌∙◌}
use Rattle.std.specs.Prelude.{slice_get}
use Rattle.zs_graph.specs.View.{dataset_of, IsGraph}
use Rattle.zs_graph.proofs.HeadMade.{clone_kept, clone_made}
use Rattle.zs_graph.proofs.Seen.{read_at}
use Rattle.zs_graph.proofs.graph.Graph.clone_of.Goals as goal

pub add-requires-clause-keeps : goal.add-requires-clause-keeps
add-requires-clause-keeps g c =
    clone_kept c.args.self.now (subst IsGraph c.self.view_is c.self.invariant) (record { 0 = c.self.inside.next }) c.args.name.now (ap (λ v. v.next) c.self.view_is) c.args.snap (dataset_of g.T.Blocks.entries c.index.result.now) (sym c.in_ok-at.ensures.place.1 ∙ subst (λ v. slice_get v.sets c.in_ok-at.at ≡ Some (dataset_of g.T.Blocks.entries c.index.result.now)) c.self.view_is (read_at (dataset_of g.T.Blocks.entries) c.self.inside.sets.items c.in_ok-at.at c.index.result.now c.index.ensures (subst (λ v. c.in_ok-at.at < length v.sets) (sym c.self.view_is) c.in_ok-at.ensures.place.0))) (g.T.Blocks.entries c.in_ok-map.map) c.in_ok-map.ensures c.in_ok-at.ensures.ok

pub returns-clause-made : goal.returns-clause-made
returns-clause-made g c =
    rw c.in_ok-add.ensures.ok (clone_made c.args.self.now (subst IsGraph c.self.view_is c.self.invariant) (record { 0 = c.self.inside.next }) c.args.name.now (ap (λ v. v.next) c.self.view_is) c.args.snap (dataset_of g.T.Blocks.entries c.index.result.now) (sym c.in_ok-at.ensures.place.1 ∙ subst (λ v. slice_get v.sets c.in_ok-at.at ≡ Some (dataset_of g.T.Blocks.entries c.index.result.now)) c.self.view_is (read_at (dataset_of g.T.Blocks.entries) c.self.inside.sets.items c.in_ok-at.at c.index.result.now c.index.ensures (subst (λ v. c.in_ok-at.at < length v.sets) (sym c.self.view_is) c.in_ok-at.ensures.place.0))) (g.T.Blocks.entries c.in_ok-map.map) c.in_ok-map.ensures c.in_ok-at.ensures.ok)
