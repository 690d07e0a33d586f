use Rattle.std.proofs.Common.{arith}
use Rattle.zs_dtl.proofs.Cuts.{none_past, past_bits}
use Rattle.zs_dtl.proofs.steps.is_online.Goals as goal

pub returns-else-dev-lt32 : goal.returns-else-dev-lt32
returns-else-dev-lt32 c = past_bits _ _ c.ranges.mask.fits c.if-dev-lt32.false
