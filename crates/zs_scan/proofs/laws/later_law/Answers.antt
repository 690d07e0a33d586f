use Rattle.zs_scan.proofs.Later.{later_keeps}
use Rattle.zs_scan.proofs.laws.later_law.Goals as goal

pub returns : goal.returns
returns c = later_keeps
