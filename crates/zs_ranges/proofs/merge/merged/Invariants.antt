use Rattle.std.proofs.Common.{drop, length, ◌-◌, ◌+◌, ◌≤◌}
use Rattle.zs_ranges.specs.Build.{IsMerging}
use Rattle.zs_ranges.proofs.merge.merged.Given as goal

abbrev pub invariant-loop-i : goal.invariant-loop-i
invariant-loop-i l = record {
  in_a : l.i ≤ length l.a;
  in_b : l.j ≤ length l.b;
  merging : IsMerging l.a l.b (drop l.i l.a) (drop l.j l.b) l.out.items;
}

abbrev pub decreases-loop-i : goal.decreases-loop-i
decreases-loop-i l = (length l.a - l.i) + (length l.b - l.j)
