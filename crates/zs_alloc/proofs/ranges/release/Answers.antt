use Rattle.zs_alloc.proofs.Halves.{put_is}
use Rattle.zs_alloc.proofs.ranges.release.Goals as goal

pub returns-clause-free : goal.returns-clause-free
returns-clause-free c = put_is _ _ _ _ c.requires.covered (rw c.from.ensures at c.set.ensures.set)
