use Rattle.std.proofs.Common.{arith}
use Rattle.zs_dtl.proofs.Cuts.{common_span}
use Rattle.zs_dtl.proofs.steps.cut_common.Goals as goal

pub loop-i-preserved : goal.loop-i-preserved
loop-i-preserved c = common_span _ _ _ _ _ _ _ _ _ _ _ (omega arith) c.span-span.ensures c.max.ensures c.min.ensures c.loop-i.invariant c.in_ok-cut.ensures.ok
