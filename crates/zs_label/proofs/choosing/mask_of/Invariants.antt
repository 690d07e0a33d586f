use Rattle.std.proofs.Common.{◌≡◌}
use Rattle.zs_label.specs.Best.{mask_of}
use Rattle.zs_label.proofs.choosing.mask_of.Given as goal

abbrev pub invariant-loop-image : goal.invariant-loop-image
invariant-loop-image l = l.mask ≡ mask_of l.txg l.found l.image
