-- The walk moves to the child of a destroyed snapshot, or leaves the dataset.
use Rattle.std.proofs.Common.{rules}
use Rattle.zs_scan.proofs.Handling.{destroy_told}
use Rattle.zs_scan.proofs.scan.Scan.destroyed.Goals as goal

pub returns-clause-keeps : goal.returns-clause-keeps
returns-clause-keeps c = destroy_told _ _ c.args.id c.args.next (record { run = search rules; kept = search rules; rest = search rules })
