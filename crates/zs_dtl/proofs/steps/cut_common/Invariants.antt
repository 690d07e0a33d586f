use Rattle.std.proofs.Common.{◌&&◌, take}
use Rattle.zs_ranges.specs.Set.{IsWithout, is_between, has_txg}
use Rattle.zs_dtl.proofs.steps.cut_common.Given as goal

abbrev pub invariant-loop-i : goal.invariant-loop-i
invariant-loop-i l = IsWithout l.fn.log (λ t. is_between l.first l.last t && has_txg (take l.i l.only) t) l.log
