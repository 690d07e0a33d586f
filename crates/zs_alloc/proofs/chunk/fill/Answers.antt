use Rattle.std.proofs.Common.{arith}
use Rattle.zs_alloc.proofs.Chunks.{set_stop}
use Rattle.zs_alloc.proofs.chunk.fill.Goals as goal

pub returns : goal.returns
returns c = set_stop _ _ _ c.loop-index.index _ _ (omega arith) (c.loop-index.auto.index-end c.requires.some) c.loop-index.invariant
