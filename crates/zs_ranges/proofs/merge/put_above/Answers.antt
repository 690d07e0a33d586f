use Rattle.std.proofs.Common.{arith}
use Rattle.zs_ranges.proofs.Rises.{by_weaker}
use Rattle.zs_ranges.proofs.Cutting.{put_none_above, put_part_above}
use Rattle.zs_ranges.proofs.merge.put_above.Goals as goal

pub returns-then-s-last : goal.returns-then-s-last
returns-then-s-last c = put_none_above _ _ _ c.requires.canonical c.requires.filled c.requires.behind c.if-s-last.true

pub put_behind-requires-clause-behind : goal.put_behind-requires-clause-behind
put_behind-requires-clause-behind c = by_weaker _ _ _ (omega arith) c.requires.behind

pub returns : goal.returns
returns c = put_part_above _ _ _ _ _ c.if-s-last.false c.requires.filled (grind arith) (grind arith) c.in_ok-put_behind.ensures.ok
