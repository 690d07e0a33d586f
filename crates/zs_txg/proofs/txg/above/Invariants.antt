use Rattle.std.proofs.Common.{◌≡◌, Some, find}
use Rattle.std.specs.Ordering.{is_lt}
use Rattle.zs_txg.specs.Txg.{slot_cmp, first_after}
use Rattle.zs_txg.proofs.txg.above.Given as goal

abbrev pub invariant-loop-at : goal.invariant-loop-at
invariant-loop-at l = find (λ e. is_lt (slot_cmp l.fn.slot e.0)) l.at-iterator ≡ first_after l.map.entries (Some l.fn.slot)
