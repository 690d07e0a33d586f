-- the sectors that were passed are free
use Rattle.std.proofs.Common.{◌-◌}
use Rattle.zs_alloc.specs.Runs.{HasRun}
use Rattle.zs_alloc.proofs.chunk.is_run_in.Given as goal

abbrev pub invariant-loop-index : goal.invariant-loop-index
invariant-loop-index l = HasRun l.flags l.first (l.index - l.first)
