use Rattle.zs_machine.proofs.Histories.{text_is}
use Rattle.zs_machine.proofs.laws.text_law.Goals as goal

pub returns : goal.returns
returns c = text_is
