use Rattle.zs_txg.proofs.Order.{keys_rise}
use Rattle.zs_txg.proofs.txg.OpenTxg.entries_of.Goals as goal

pub returns-clause-order : goal.returns-clause-order
returns-clause-order c = rw c.in_ok-entries.ensures (keys_rise _ c.args.ds c.rises.ensures.order)
