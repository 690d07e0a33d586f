-- The blocks and pointers of one more dataset are made; at the end those of all are.
use Rattle.std.proofs.Common.{◌<◌, length, arith}
use Rattle.zs_core.proofs.Closing.{ready_next}
use Rattle.zs_core.proofs.present.staged_of_each.Goals as goal

pub loop-ds-preserved : goal.loop-ds-preserved
loop-ds-preserved c =
    let below : c.loop-ds.ds-index < length c.args.ids.now = omega arith in
    ready_next c.args.graph.now.sets c.requires.order c.args.txg.now c.args.ids.now c.requires.ids c.loop-ds.ds-index below _ c.loop-ds.blocks.items c.add_staged.new.blocks.items c.loop-ds.changes.items c.add_staged.new.changes.items c.loop-ds.invariant c.in_ok-add_staged.ensures
