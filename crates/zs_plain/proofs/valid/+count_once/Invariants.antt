use Rattle.std.proofs.Common.{length}
use Rattle.zs_plain.proofs.valid.+count_once.Given as goal

abbrev pub decreases-count_once : goal.decreases-count_once
decreases-count_once l = length l.pieces.now
