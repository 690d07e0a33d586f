use Rattle.std.proofs.Common.{arith, ◌∙◌}
use Rattle.zs_alloc.proofs.Settling.{step_due, step_not, start_is, end_is}
use Rattle.zs_alloc.proofs.mirror.settle_waiting.Goals.{then-freeing-t, else-freeing-t}
use Rattle.zs_alloc.proofs.mirror.settle_waiting.Goals as goal

pub loop-freeing-init : goal.loop-freeing-init
loop-freeing-init c = start_is _ c.args.t c.requires

pub loop-freeing-preserved : goal.loop-freeing-preserved
loop-freeing-preserved c = elim c.if-freeing-t.branch [
  | then-freeing-t w ↦ w.ranges-is ∙ step_due _ _ _ c.args.waiting.now c.args.t c.loop-freeing.freeing-index (record { txg = 0; sector = 0 }) c.loop-freeing.invariant w.settle_range.ensures (omega arith) (omega arith)
  | else-freeing-t w ↦ w.ranges-is ∙ step_not _ _ c.args.waiting.now c.args.t c.loop-freeing.freeing-index (record { txg = 0; sector = 0 }) c.loop-freeing.invariant (omega arith) (omega arith)
]

pub returns : goal.returns
returns c = end_is _ _ c.args.waiting.now c.args.t c.loop-freeing.freeing-index (omega arith) c.loop-freeing.invariant
