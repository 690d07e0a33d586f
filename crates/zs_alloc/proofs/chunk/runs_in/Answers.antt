use Rattle.std.proofs.Common.{arith, refl}
use Rattle.zs_alloc.proofs.Chunks.{runs_all}
use Rattle.zs_alloc.proofs.chunk.runs_in.Goals as goal

pub returns : goal.returns
returns c = runs_all _ c.loop-index.index _ _ _ _ (omega arith) c.loop-index.invariant refl c.leading.ensures.bound c.leading.ensures.free c.leading.ensures.ends
