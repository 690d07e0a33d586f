use Rattle.zs_dtl.proofs.Bounds.{short_none}
use Rattle.zs_dtl.proofs.dirt.Dirt.new.Goals as goal

pub invariant_of-result : goal.invariant_of-result
invariant_of-result c = rw c.loop.invariant (short_none c.loop.counter)
