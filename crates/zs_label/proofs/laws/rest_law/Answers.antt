use Rattle.zs_label.proofs.Others.{rest_stays}
use Rattle.zs_label.proofs.laws.rest_law.Goals as goal

pub returns : goal.returns
returns c = rest_stays
