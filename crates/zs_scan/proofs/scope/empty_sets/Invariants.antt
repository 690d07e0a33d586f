-- The sets so far are empty.
use Rattle.std.proofs.Common.{◌≡◌, [], replicate}
use Rattle.zs_scan.proofs.scope.empty_sets.Given as goal

abbrev pub invariant-loop-device : goal.invariant-loop-device
invariant-loop-device l = l.sets.items ≡ replicate l._device []
