use Rattle.zs_scan.proofs.Changed.{none_freed}
use Rattle.zs_scan.proofs.laws.none_freed_law.Goals as goal

pub returns : goal.returns
returns c = none_freed
