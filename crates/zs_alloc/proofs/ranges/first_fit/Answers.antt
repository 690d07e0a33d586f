use Rattle.zs_alloc.proofs.Halves.{none_fits, some_fits, first_fits}
use Rattle.zs_alloc.proofs.ranges.first_fit.Goals as goal

pub returns-then-runs_of-size : goal.returns-then-runs_of-size
returns-then-runs_of-size c = λ s free. none_fits _ _ _ c.runs_of.ensures c.requires.some (rw c.from-size.ensures at c.if-runs_of-size.true) s free

pub returns : goal.returns
returns c = first_fits _ _ _ ((rw c.from-size.ensures at c.first_run.ensures.first) (some_fits _ _ _ c.runs_of.ensures (rw c.from-size.ensures at c.if-runs_of-size.false)))
