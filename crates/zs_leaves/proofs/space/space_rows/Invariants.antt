use Rattle.std.proofs.Common.{◌<◌, length}
use Rattle.zs_leaves.proofs.space.space_rows.Given as goal

abbrev pub invariant-loop : goal.invariant-loop
invariant-loop l = 0 < length l.space

abbrev pub invariant-loop-i : goal.invariant-loop-i
invariant-loop-i l = 0 < length l.space

abbrev pub invariant-loop-i-2 : goal.invariant-loop-i-2
invariant-loop-i-2 l = 0 < length l.space

abbrev pub invariant-loop-2 : goal.invariant-loop-2
invariant-loop-2 l = 0 < length l.space
