use Rattle.std.proofs.Common.{◌≡◌, take}
use Rattle.zs_txg.specs.Txg.{first_after}
use Rattle.zs_txg.specs.Late.{with_late}
use Rattle.zs_txg.proofs.txg.first.Given as goal

abbrev pub invariant-loop-entry : goal.invariant-loop-entry
invariant-loop-entry l = l.found ≡ first_after (with_late l.map.entries (take l.entry-index l.late)) l.after
