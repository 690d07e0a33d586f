use Rattle.zs_machine.proofs.Histories.{run_push}
use Rattle.zs_machine.proofs.laws.run_law.Goals as goal

pub returns : goal.returns
returns c = run_push
