-- The entries so far have landed.
use Rattle.std.proofs.Common.{◌≡◌, ◌≤◌, ◌++◌, length, filter, take}
use Rattle.zs_scan.specs.View.{is_flying}
use Rattle.zs_scan.specs.Steps.{still_flying}
use Rattle.zs_scan.proofs.Landings.{HaveLanded}
use Rattle.zs_scan.proofs.landing.land_all.Given as goal

abbrev pub invariant-loop-entry : goal.invariant-loop-entry
invariant-loop-entry l = record {
  made : l.made ≡ length (still_flying l.fn.marks l.number (take l.entry-index l.entries));
  entries : l.ledger.entries ≡ l.fn.ledger.entries ++ still_flying l.fn.marks l.number (take l.entry-index l.entries);
  marks : HaveLanded l.fn.marks l.marks l.number (take l.entry-index l.entries);
  few : l.made ≤ l.entry-index;
  room : length (filter is_flying l.marks) ≤ l.ledger.room;
}
