-- The walk changes places with two heads.
use Rattle.std.proofs.Common.{rules}
use Rattle.zs_scan.proofs.Handling.{swap_told}
use Rattle.zs_scan.proofs.scan.Scan.swapped.Goals as goal

pub returns-clause-keeps : goal.returns-clause-keeps
returns-clause-keeps c = swap_told _ _ c.args.a c.args.b (record { run = search rules; kept = search rules; rest = search rules })
