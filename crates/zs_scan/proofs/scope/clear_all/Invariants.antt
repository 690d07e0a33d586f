-- The sets so far are empty, and the others as they were.
use Rattle.std.proofs.Common.{◌≡◌, ◌++◌, take, drop}
use Rattle.zs_scan.specs.Steps.{emptied}
use Rattle.zs_scan.proofs.scope.clear_all.Given as goal

abbrev pub invariant-loop-set : goal.invariant-loop-set
invariant-loop-set l = l.sets ≡ emptied (take l.set-index l.fn.sets) ++ drop l.set-index l.fn.sets
