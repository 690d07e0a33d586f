use Rattle.zs_machine.proofs.Finished.{finished_is}
use Rattle.zs_machine.proofs.laws.finished_law.Goals as goal

pub returns : goal.returns
returns c = finished_is
