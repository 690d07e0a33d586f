use Rattle.std.proofs.Common.{sym}
use Rattle.zs_txg.proofs.LateLaws.{late_first}
use Rattle.zs_txg.proofs.txg.first.Goals as goal

pub loop-entry-preserved : goal.loop-entry-preserved
loop-entry-preserved c = rw (c.lower-found.ensures, c.loop-entry.invariant) (sym (late_first _ _ _ _ _ c.loop-entry-test.true))
