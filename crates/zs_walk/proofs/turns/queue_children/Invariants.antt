use Rattle.std.specs.Prelude.{filter, length}
use Rattle.zs_ids.specs.GraphTree.{children_of, is_above}
use Rattle.zs_walk.proofs.Children.{IsQueued}
use Rattle.zs_walk.proofs.turns.queue_children.Given as goal

abbrev pub invariant-loop-child : goal.invariant-loop-child
invariant-loop-child g l = IsQueued l.min (children_of (g.G.Datasets.datasets l.graph) l.id) l.fn.todo l.last l.todo

abbrev pub decreases-loop-child : goal.decreases-loop-child
decreases-loop-child g l = length (filter (is_above l.last) (children_of (g.G.Datasets.datasets l.graph) l.id))
