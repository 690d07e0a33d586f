-- the sectors that were passed are free
use Rattle.zs_alloc.specs.Runs.{HasRun}
use Rattle.zs_alloc.proofs.chunk.leading.Given as goal

abbrev pub invariant-loop-index : goal.invariant-loop-index
invariant-loop-index l = HasRun l.flags 0 l.index
