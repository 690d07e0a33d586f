use Rattle.zs_ids.proofs.Parents.{parent_below}
use Rattle.zs_ids.proofs.key.parent_law.Goals as goal

pub returns : goal.returns
returns c = parent_below
