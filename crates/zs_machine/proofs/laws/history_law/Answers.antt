use Rattle.zs_machine.proofs.Histories.{history_is}
use Rattle.zs_machine.proofs.laws.history_law.Goals as goal

pub returns : goal.returns
returns c = history_is
