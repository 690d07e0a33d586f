use Rattle.std.proofs.Common.{rules}
use Rattle.zs_scan.proofs.Stops.{stop_keeps}
use Rattle.zs_scan.proofs.scan.Scan.stop.Goals as goal

pub returns-clause-keeps : goal.returns-clause-keeps
returns-clause-keeps c = stop_keeps _ _ (search rules) (search rules)
