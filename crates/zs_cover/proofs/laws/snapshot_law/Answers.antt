use Rattle.zs_cover.proofs.Snapshots.{snapshot_keeps}
use Rattle.zs_cover.proofs.laws.snapshot_law.Goals as goal

pub returns : goal.returns
returns c = snapshot_keeps
