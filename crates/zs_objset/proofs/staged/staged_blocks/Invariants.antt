use Rattle.std.proofs.Common.{length}
use Rattle.zs_ids.specs.Blocks.{bp_at}
use Rattle.zs_txg.specs.Txg.{entries_for}
use Rattle.zs_objset.specs.Done.{AreDone}
use Rattle.zs_objset.proofs.staged.staged_blocks.Given as goal

abbrev pub invariant-loop-entry : goal.invariant-loop-entry
invariant-loop-entry g l = AreDone (bp_at (g.T.Blocks.entries l.map)) l.txg.txg (entries_for l.txg.staged l.fn.ds) l.todo.items l.pointers.entries l.blocks.items

abbrev pub decreases-loop-entry : goal.decreases-loop-entry
decreases-loop-entry g l = length l.todo.items
