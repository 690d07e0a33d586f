use Rattle.std.proofs.Common.{◌≡◌, ◌++◌, map, length, filter}
use Rattle.zs_txg.specs.Txg.{staged_for, is_after, entry_of}
use Rattle.zs_txg.specs.Late.{with_late}
use Rattle.zs_txg.proofs.txg.all_of.Given as goal

abbrev pub invariant-loop-e : goal.invariant-loop-e
invariant-loop-e l =
    l.found.items ++ map entry_of (staged_for (filter (λ y. is_after l.after y.0) (with_late l.over.entries l.late.items)) l.ds)
    ≡ map entry_of (staged_for (with_late l.over.entries l.late.items) l.ds)

abbrev pub decreases-loop-e : goal.decreases-loop-e
decreases-loop-e l = length (filter (λ y. is_after l.after y.0) (with_late l.over.entries l.late.items))
