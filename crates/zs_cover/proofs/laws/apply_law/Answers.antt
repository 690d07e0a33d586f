use Rattle.zs_cover.proofs.Applies.{apply_keeps}
use Rattle.zs_cover.proofs.laws.apply_law.Goals as goal

pub returns : goal.returns
returns c = apply_keeps
