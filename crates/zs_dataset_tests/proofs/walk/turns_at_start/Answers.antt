use Rattle.std.proofs.Common.{refl}
use Rattle.zs_walk.specs.Left.{turns_left}
use Rattle.zs_dataset_tests.proofs.walk.turns_at_start.Goals as goal

pub returns : goal.returns
unfolding turns_left
returns c = refl
