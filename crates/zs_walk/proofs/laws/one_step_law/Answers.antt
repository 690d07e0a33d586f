use Rattle.zs_walk.proofs.OneStep.{one_step}
use Rattle.zs_walk.proofs.laws.one_step_law.Goals as goal

pub returns : goal.returns
returns c = one_step
