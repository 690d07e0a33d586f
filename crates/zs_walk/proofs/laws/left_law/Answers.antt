use Rattle.zs_walk.proofs.Left.{left_falls}
use Rattle.zs_walk.proofs.laws.left_law.Goals as goal

pub returns : goal.returns
returns c = left_falls
