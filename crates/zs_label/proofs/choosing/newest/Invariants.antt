use Rattle.std.proofs.Common.{◌≡◌, max, drop}
use Rattle.zs_label.specs.Best.{newest}
use Rattle.zs_label.proofs.choosing.newest.Given as goal

abbrev pub invariant-loop-f : goal.invariant-loop-f
invariant-loop-f l = max l.txg (newest (drop l.f-index l.found)) ≡ newest l.found
