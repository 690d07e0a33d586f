-- The pieces of the items so far were freed.
use Rattle.std.proofs.Common.{take}
use Rattle.zs_scan.proofs.FreedPieces.{HaveFreed}
use Rattle.zs_scan.proofs.scan.Scan.freed_all.Given as goal

abbrev pub invariant-loop-item : goal.invariant-loop-item
invariant-loop-item l = HaveFreed l.fn.self (take l.item-index l.items) l.self
