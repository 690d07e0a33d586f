use Rattle.zs_alloc.proofs.Split.{laid_out}
use Rattle.zs_alloc.proofs.ranges.Ranges.facts.Goals as goal

pub returns : goal.returns
returns c = rw (← c.self.view_is) (laid_out (record { start = c.self.inside.start; end = c.self.inside.end; taken = c.self.inside.taken.entries }) _ c.self.invariant.split)
