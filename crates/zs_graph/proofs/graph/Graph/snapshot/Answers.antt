-- A snapshot stands between the head and its parent.
use Rattle.std.proofs.Common.{◌≡◌, ◌<◌, length, Some, ap, sym, subst}
use Rattle.std.specs.Prelude.{slice_get}
use Rattle.zs_graph.specs.View.{dataset_of, IsGraph}
use Rattle.zs_graph.proofs.SnapshotMade.{snapshot_at_kept, snapshot_at_made}
use Rattle.zs_graph.proofs.Seen.{read_at}
use Rattle.zs_graph.proofs.graph.Graph.snapshot.Goals as goal

pub add_below-requires-clause-keeps : goal.add_below-requires-clause-keeps
add_below-requires-clause-keeps g c =
    snapshot_at_kept c.args.self.now (subst IsGraph c.self.view_is c.self.invariant) c.args.head c.in_ok-at.at (dataset_of g.T.Blocks.entries c.index.result.now) (subst (λ v. slice_get v.sets c.in_ok-at.at ≡ Some (dataset_of g.T.Blocks.entries c.index.result.now)) c.self.view_is (read_at (dataset_of g.T.Blocks.entries) c.self.inside.sets.items c.in_ok-at.at c.index.result.now c.index.ensures (subst (λ v. c.in_ok-at.at < length v.sets) (sym c.self.view_is) c.in_ok-at.ensures.place.0))) c.in_ok-at.ensures.place.1 (record { 0 = c.self.inside.next }) c.args.label.now c.args.t (ap (λ v. v.next) c.self.view_is) c.requires.up_to c.in_ok-at.ensures.ok (g.T.Blocks.entries c.in_ok-map.map) c.in_ok-map.ensures

pub returns-clause-made : goal.returns-clause-made
returns-clause-made g c =
    snapshot_at_made c.args.self.now (subst IsGraph c.self.view_is c.self.invariant) c.args.head c.in_ok-at.at (dataset_of g.T.Blocks.entries c.index.result.now) (subst (λ v. slice_get v.sets c.in_ok-at.at ≡ Some (dataset_of g.T.Blocks.entries c.index.result.now)) c.self.view_is (read_at (dataset_of g.T.Blocks.entries) c.self.inside.sets.items c.in_ok-at.at c.index.result.now c.index.ensures (subst (λ v. c.in_ok-at.at < length v.sets) (sym c.self.view_is) c.in_ok-at.ensures.place.0))) c.in_ok-at.ensures.place.1 (record { 0 = c.self.inside.next }) c.args.label.now c.args.t (ap (λ v. v.next) c.self.view_is) c.requires.up_to c.in_ok-at.ensures.ok (g.T.Blocks.entries c.in_ok-map.map) c.in_ok-map.ensures c.add_below.new.self c.in_ok-add_below.ensures.ok
