-- The blocks and pointers of the datasets so far are made.
use Rattle.std.proofs.Common.{take}
use Rattle.zs_core.specs.Staging.{AreReady}
use Rattle.zs_core.proofs.present.staged_of_each.Given as goal

abbrev pub invariant-loop-ds : goal.invariant-loop-ds
invariant-loop-ds l = AreReady (take l.ds-index l.graph.sets) l.txg l.blocks.items l.changes.items
