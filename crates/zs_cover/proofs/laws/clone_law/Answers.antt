use Rattle.zs_cover.proofs.Clones.{clone_keeps}
use Rattle.zs_cover.proofs.laws.clone_law.Goals as goal

pub returns : goal.returns
returns c = clone_keeps
