use Rattle.zs_cover.proofs.Turns.{turn_keeps}
use Rattle.zs_cover.proofs.laws.turn_law.Goals as goal

pub returns : goal.returns
returns c = turn_keeps
