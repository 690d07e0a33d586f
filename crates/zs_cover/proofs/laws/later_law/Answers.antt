use Rattle.zs_cover.proofs.Rests.{later_keeps}
use Rattle.zs_cover.proofs.laws.later_law.Goals as goal

pub returns : goal.returns
returns c = later_keeps
