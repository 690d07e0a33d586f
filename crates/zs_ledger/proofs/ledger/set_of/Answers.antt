use Rattle.std.proofs.Common.{arith, refl}
use Rattle.zs_ledger.proofs.Births.{one_more_txg}
use Rattle.zs_ledger.proofs.ledger.set_of.Goals as goal

pub loop-txg-preserved : goal.loop-txg-preserved
loop-txg-preserved c = one_more_txg _ _ _ _ _ (omega arith) refl c.loop-txg.invariant c.in_ok-add.ensures.ok
