-- the runs that end by the sector are known
use Rattle.zs_alloc.proofs.Chunks.{RunsUpTo}
use Rattle.zs_alloc.proofs.chunk.runs_in.Given as goal

abbrev pub invariant-loop-index : goal.invariant-loop-index
invariant-loop-index l = RunsUpTo l.flags l.index l.behind l.longest
