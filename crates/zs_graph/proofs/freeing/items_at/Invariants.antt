-- The items so far, and those of the changes that are left, are all.
use Rattle.std.proofs.Common.{◌≡◌, ◌++◌, drop}
use Rattle.zs_graph.specs.Freeing.{items_at}
use Rattle.zs_graph.proofs.freeing.items_at.Given as goal

abbrev pub invariant-loop-change : goal.invariant-loop-change
invariant-loop-change g l =
    l.items.items ++ items_at (g.T.Blocks.entries l.blocks) l.start (drop l.change-index l.changes) ≡ items_at (g.T.Blocks.entries l.blocks) l.start l.changes
