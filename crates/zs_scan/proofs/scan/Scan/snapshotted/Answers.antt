-- The walk moves from the head to its snapshot.
use Rattle.std.proofs.Common.{rules}
use Rattle.zs_scan.proofs.Handling.{snapshot_told}
use Rattle.zs_scan.proofs.scan.Scan.snapshotted.Goals as goal

pub returns-clause-keeps : goal.returns-clause-keeps
returns-clause-keeps c = snapshot_told _ _ c.args.head c.args.snap (record { run = search rules; kept = search rules; rest = search rules })
