use Rattle.zs_ranges.proofs.Rises.{begin_by_last}
use Rattle.zs_ranges.proofs.merge.begin_by.Goals as goal

pub returns-in-Some : goal.returns-in-Some
returns-in-Some c = begin_by_last _ _ _ c.in-Some.ensures.value c.requires
