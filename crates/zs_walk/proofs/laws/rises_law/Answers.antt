use Rattle.zs_walk.proofs.Rising.{keys_rise}
use Rattle.zs_walk.proofs.laws.rises_law.Goals as goal

pub returns : goal.returns
returns c = keys_rise
