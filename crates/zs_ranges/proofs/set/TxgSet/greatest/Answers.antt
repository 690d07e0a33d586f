use Rattle.zs_ranges.proofs.Rises.{has_last, last_above}
use Rattle.zs_ranges.proofs.set.TxgSet.greatest.Goals as goal

pub returns-clause-member : goal.returns-clause-member
returns-clause-member c = rw (← c.self.view_is) (has_last _ _ (rw c.deref.ensures.value at c.in_ok-highest.ensures.value) c.self.invariant)

pub returns-clause-greatest : goal.returns-clause-greatest
returns-clause-greatest c = rw (← c.self.view_is) (last_above _ _ (rw c.deref.ensures.value at c.in_ok-highest.ensures.value) c.self.invariant)
