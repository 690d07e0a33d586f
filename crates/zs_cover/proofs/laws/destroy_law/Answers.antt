use Rattle.zs_cover.proofs.Drops.{destroy_keeps}
use Rattle.zs_cover.proofs.laws.destroy_law.Goals as goal

pub returns : goal.returns
returns c = destroy_keeps
