-- the sectors that were passed are set
use Rattle.zs_alloc.specs.Runs.{IsSet}
use Rattle.zs_alloc.proofs.chunk.fill.Given as goal

abbrev pub invariant-loop-index : goal.invariant-loop-index
invariant-loop-index l = IsSet l.fn.flags.items l.first l.index l.free l.flags.items
