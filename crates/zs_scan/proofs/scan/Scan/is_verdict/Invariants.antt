-- The batches so far are not that of the verdict.
use Rattle.std.proofs.Common.{take}
use Rattle.zs_scan.proofs.OfItems.{NoneIsOf}
use Rattle.zs_scan.proofs.scan.Scan.is_verdict.Given as goal

abbrev pub invariant-loop-i : goal.invariant-loop-i
invariant-loop-i l = NoneIsOf (take l.i l.self.flight) l.number l.entries
