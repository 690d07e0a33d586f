use Rattle.std.proofs.Common.{◌≡◌, false}
use Rattle.zs_label.specs.Best.{lacks_mirror}
use Rattle.zs_label.proofs.choosing.lacks_mirror.Given as goal

abbrev pub invariant-loop-mirror : goal.invariant-loop-mirror
invariant-loop-mirror l = lacks_mirror l.width l.found l.mirror ≡ false
