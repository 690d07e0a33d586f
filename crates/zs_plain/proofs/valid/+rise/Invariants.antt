use Rattle.std.proofs.Common.{length}
use Rattle.zs_plain.proofs.valid.+rise.Given as goal

abbrev pub decreases-rise : goal.decreases-rise
decreases-rise l = length l.g.now
