-- The entries that are left are those of the items that are left just where all are those of all.
use Rattle.std.proofs.Common.{◌↔◌, drop}
use Rattle.zs_scan.specs.Steps.{AreOf}
use Rattle.zs_scan.proofs.flight.are_of.Given as goal

abbrev pub invariant-loop-i : goal.invariant-loop-i
invariant-loop-i l = AreOf (drop l.i l.items) (drop l.i l.entries) ↔ AreOf l.items l.entries
