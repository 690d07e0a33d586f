use Rattle.zs_scan.proofs.Handling.{apply_untold}
use Rattle.zs_scan.proofs.laws.apply_law.Goals as goal

pub returns : goal.returns
returns c = apply_untold
