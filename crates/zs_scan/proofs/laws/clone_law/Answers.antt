use Rattle.zs_scan.proofs.Handling.{clone_untold}
use Rattle.zs_scan.proofs.laws.clone_law.Goals as goal

pub returns : goal.returns
returns c = clone_untold
