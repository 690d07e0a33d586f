use Rattle.std.proofs.Common.{sym}
use Rattle.zs_txg.proofs.LateLaws.{late_at}
use Rattle.zs_txg.proofs.txg.at.Goals as goal

pub loop-entry-preserved : goal.loop-entry-preserved
loop-entry-preserved c = rw (c.over-found.ensures, c.loop-entry.invariant) (sym (late_at _ _ _ _ _ c.loop-entry-test.true))
