use Rattle.std.proofs.Common.{drop}
use Rattle.zs_ranges.specs.Build.{IsCutting}
use Rattle.zs_ranges.proofs.merge.without.Given as goal

abbrev pub invariant-loop-s : goal.invariant-loop-s
invariant-loop-s l = IsCutting l.first l.last l.spans (drop l.s-index l.spans) l.out.items
