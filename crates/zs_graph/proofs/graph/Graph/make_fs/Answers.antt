-- A filesystem is a head on the origin.
use Rattle.std.proofs.Common.{ap, subst}
use Rattle.zs_graph.specs.View.{IsGraph}
use Rattle.zs_graph.proofs.HeadMade.{fs_kept, fs_made}
use Rattle.zs_graph.proofs.graph.Graph.make_fs.Goals as goal

pub add-requires-clause-keeps : goal.add-requires-clause-keeps
add-requires-clause-keeps g c =
    fs_kept c.args.self.now (subst IsGraph c.self.view_is c.self.invariant) (record { 0 = c.self.inside.next }) c.args.name.now (ap (λ v. v.next) c.self.view_is) (g.T.Blocks.entries c.empty-map.result) c.empty-map.ensures c.in_ok-may_make.ensures.ok

pub returns-clause-made : goal.returns-clause-made
returns-clause-made g c =
    rw c.in_ok-add.ensures.ok (fs_made c.args.self.now (subst IsGraph c.self.view_is c.self.invariant) (record { 0 = c.self.inside.next }) c.args.name.now (ap (λ v. v.next) c.self.view_is) (g.T.Blocks.entries c.empty-map.result) c.empty-map.ensures c.in_ok-may_make.ensures.ok)
