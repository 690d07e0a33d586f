use Rattle.zs_cover.proofs.Rests.{end_keeps}
use Rattle.zs_cover.proofs.laws.end_law.Goals as goal

pub returns : goal.returns
returns c = end_keeps
