use Rattle.std.proofs.Common.{◌≡◌, take}
use Rattle.zs_txg.specs.Txg.{staged_at}
use Rattle.zs_txg.specs.Late.{with_late}
use Rattle.zs_txg.proofs.txg.at.Given as goal

abbrev pub invariant-loop-entry : goal.invariant-loop-entry
invariant-loop-entry l = l.found ≡ staged_at (with_late l.map.entries (take l.entry-index l.late)) l.slot
