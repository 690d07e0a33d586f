use Rattle.zs_cover.proofs.Climbs.{home_is}
use Rattle.zs_cover.proofs.laws.home_law.Goals as goal

pub returns : goal.returns
returns c = home_is
