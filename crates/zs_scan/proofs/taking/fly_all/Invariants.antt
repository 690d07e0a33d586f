-- The items so far fly.
use Rattle.std.proofs.Common.{◌≡◌, ◌+◌, length, filter, take}
use Rattle.zs_scan.specs.View.{is_flying}
use Rattle.zs_scan.proofs.Flights.{HaveFlown}
use Rattle.zs_scan.proofs.taking.fly_all.Given as goal

abbrev pub invariant-loop-item : goal.invariant-loop-item
invariant-loop-item l = record {
  marks : HaveFlown l.fn.marks l.marks l.number (take l.item-index l.items);
  flying : length (filter is_flying l.marks) ≡ length (filter is_flying l.fn.marks) + l.item-index;
}
