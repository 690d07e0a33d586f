-- The items that were found at the keys of the changes are those that are freed.
use Rattle.std.proofs.Common.{ap, subst}
use Rattle.zs_graph.specs.View.{dataset_of, IsGraph}
use Rattle.zs_graph.proofs.ApplyItems.{put_items}
use Rattle.zs_graph.proofs.Seen.{set_at}
use Rattle.zs_graph.proofs.graph.Graph.freed_by_put.Goals as goal

pub returns : goal.returns
returns g c =
    let there = set_at g.T.Blocks.entries c.self.inside.sets.items c.args.self.now.sets (ap (λ v. v.sets) c.self.view_is) c.args.at c.index-head.result.now c.index-head.ensures c.requires.within in
    put_items c.args.self.now (subst IsGraph c.self.view_is c.self.invariant) c.args.at (dataset_of g.T.Blocks.entries c.index-head.result.now) there c.args.changes.now c.args.t (c.requires.may (dataset_of g.T.Blocks.entries c.index-head.result.now) there) c.start-start.result c.start-start.ensures c.in_ok-items.items.items c.in_order.result.items c.in_ok-items.ensures c.in_order.ensures.all c.in_order.ensures.sorted
