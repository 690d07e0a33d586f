-- The items that were found in the dataset, and that its child does not hold, are those that are freed.
use Rattle.std.proofs.Common.{ap, subst}
use Rattle.zs_graph.specs.View.{dataset_of, IsGraph}
use Rattle.zs_graph.proofs.DestroyItems.{removal_items}
use Rattle.zs_graph.proofs.NextBlocks.{shallow}
use Rattle.zs_graph.proofs.Seen.{has_at, set_at}
use Rattle.zs_graph.proofs.graph.Graph.freed_by_removal.Goals as goal

pub items_not_held-requires : goal.items_not_held-requires
items_not_held-requires g c =
    let there = set_at g.T.Blocks.entries c.self.inside.sets.items c.args.self.now.sets (ap (λ v. v.sets) c.self.view_is) c.args.at c.index-gone.result.now c.index-gone.ensures c.requires.within in
    let facts = subst IsGraph c.self.view_is c.self.invariant in
    shallow c.args.self.now.sets facts.last facts.valid (dataset_of g.T.Blocks.entries c.index-gone.result.now) (has_at c.args.self.now.sets c.args.at (dataset_of g.T.Blocks.entries c.index-gone.result.now) there)

pub returns : goal.returns
returns g c =
    let there = set_at g.T.Blocks.entries c.self.inside.sets.items c.args.self.now.sets (ap (λ v. v.sets) c.self.view_is) c.args.at c.index-gone.result.now c.index-gone.ensures c.requires.within in
    removal_items c.args.self.now (subst IsGraph c.self.view_is c.self.invariant) c.args.at (dataset_of g.T.Blocks.entries c.index-gone.result.now) there c.args.next (c.requires.only (dataset_of g.T.Blocks.entries c.index-gone.result.now) there) c.start-start.result c.start-start.ensures _ c.held.ensures c.in_ok-items.items.items c.in_order.result.items c.in_ok-items.ensures c.in_order.ensures.all c.in_order.ensures.sorted
