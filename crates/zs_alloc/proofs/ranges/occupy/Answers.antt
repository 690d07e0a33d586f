use Rattle.zs_alloc.proofs.Halves.{cut_is}
use Rattle.zs_alloc.proofs.ranges.occupy.Goals as goal

pub returns-clause-free : goal.returns-clause-free
returns-clause-free c = cut_is _ _ _ _ c.requires.covered (rw c.from.ensures at c.set.ensures.set)
