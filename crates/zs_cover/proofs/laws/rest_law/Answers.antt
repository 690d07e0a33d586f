use Rattle.zs_cover.proofs.Rests.{rest_is}
use Rattle.zs_cover.proofs.laws.rest_law.Goals as goal

pub returns : goal.returns
returns c = rest_is
