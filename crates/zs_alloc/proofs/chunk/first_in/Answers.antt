use Rattle.std.proofs.Common.{arith}
use Rattle.zs_alloc.proofs.Chunks.{none_at_all}
use Rattle.zs_alloc.proofs.chunk.first_in.Goals as goal

pub returns-clause-first : goal.returns-clause-first
returns-clause-first c = λ has. absurd (none_at_all _ _ _ c.requires.some (omega arith) (c.loop-index.invariant).2 has)
