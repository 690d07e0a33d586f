use Rattle.std.proofs.Common.{◌≡◌, [], replicate}
use Rattle.zs_dtl.proofs.dirt.Dirt.new.Given as goal

abbrev pub invariant-loop : goal.invariant-loop
invariant-loop l = l.logs.items ≡ replicate l.counter []
