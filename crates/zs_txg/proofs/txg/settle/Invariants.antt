use Rattle.std.proofs.Common.{◌≡◌, ◌≤◌, vec_len, vec_capacity}
use Rattle.zs_txg.specs.Late.{with_late}
use Rattle.zs_txg.proofs.txg.settle.Given as goal

abbrev pub invariant-loop-first : goal.invariant-loop-first
invariant-loop-first l =
    (with_late l.map.entries l.late.items ≡ with_late l.fn.map.entries l.fn.late.items)
    × (vec_len l.late ≤ vec_len l.fn.late) × (vec_capacity l.late ≡ vec_capacity l.fn.late)

abbrev pub decreases-loop-first : goal.decreases-loop-first
decreases-loop-first l = vec_len l.late
