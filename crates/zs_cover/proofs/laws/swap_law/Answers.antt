use Rattle.zs_cover.proofs.Swaps.{swap_keeps}
use Rattle.zs_cover.proofs.laws.swap_law.Goals as goal

pub returns : goal.returns
returns c = swap_keeps
