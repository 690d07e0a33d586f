-- One more was passed.
use Rattle.zs_core.proofs.Finding.{passed_one}
use Rattle.zs_core.proofs.read.find_read.Goals as goal

pub loop-i-preserved : goal.loop-i-preserved
loop-i-preserved c = passed_one _ _ _ _ _ _ c.loop-i-test.true c.is_read_of.ensures c.if-is_read_of.false c.loop-i.invariant
