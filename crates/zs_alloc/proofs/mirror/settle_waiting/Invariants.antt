-- the ranges of the list that were passed are settled
use Rattle.std.proofs.Common.{◌≡◌, take}
use Rattle.zs_alloc.specs.Kept.{settled_if, is_due}
use Rattle.zs_alloc.proofs.mirror.settle_waiting.Given as goal

abbrev pub invariant-loop-freeing : goal.invariant-loop-freeing
invariant-loop-freeing l = l.ranges ≡ record l.fn.ranges { taken = settled_if (is_due (take l.freeing-index l.waiting) l.t) l.t l.fn.ranges.taken }
