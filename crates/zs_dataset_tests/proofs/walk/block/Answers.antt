use Rattle.std.proofs.Common.{refl}
use Rattle.zs_dataset_tests.specs.Examples.{block}
use Rattle.zs_dataset_tests.proofs.walk.block.Goals as goal

pub returns : goal.returns
unfolding block
returns c = refl
