use Rattle.zs_cover.proofs.Clones.{away_keeps}
use Rattle.zs_cover.proofs.laws.away_law.Goals as goal

pub returns : goal.returns
returns c = away_keeps
