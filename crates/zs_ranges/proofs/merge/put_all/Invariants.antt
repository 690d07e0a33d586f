use Rattle.std.proofs.Common.{[], drop}
use Rattle.zs_ranges.specs.Build.{IsMerging}
use Rattle.zs_ranges.proofs.merge.put_all.Given as goal

abbrev pub invariant-loop-s : goal.invariant-loop-s
invariant-loop-s l = IsMerging l.spans l.fn.out.items (drop l.s-index l.spans) [] l.out.items
