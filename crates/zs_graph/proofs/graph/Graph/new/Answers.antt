-- The origin alone is valid.
use Rattle.zs_graph.proofs.Origin.{origin_with}
use Rattle.zs_graph.proofs.graph.Graph.new.Goals as goal

pub invariant_of-result : goal.invariant_of-result
invariant_of-result g c =
    rw (c.in_ok-push.ensures.items, c.new-sets.ensures.items) (origin_with (g.T.Blocks.entries c.empty.result) c.empty.ensures)
