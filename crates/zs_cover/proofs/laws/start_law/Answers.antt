use Rattle.zs_cover.proofs.Starts.{start_keeps}
use Rattle.zs_cover.proofs.laws.start_law.Goals as goal

pub returns : goal.returns
returns c = start_keeps
