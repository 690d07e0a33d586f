use Rattle.zs_txg.proofs.LateLaws.{above_is}
use Rattle.zs_txg.proofs.txg.above.Goals as goal

pub loop-at-init : goal.loop-at-init
loop-at-init c = rw (c.into_iter-at-iterator.ensures.into_iter_gives, c.range-at-items.ensures.between tt) (above_is c.args.map.now.entries c.args.slot)
