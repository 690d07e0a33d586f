use Rattle.zs_ranges.proofs.Rises.{first_below}
use Rattle.zs_ranges.proofs.set.TxgSet.least.Goals as goal

pub returns-clause-least : goal.returns-clause-least
returns-clause-least c = rw (← c.self.view_is) (first_below _ _ (rw c.deref.ensures.value at c.in_ok-lowest.ensures.value) c.self.invariant)
