-- the run that ends before the sector is known, and no long enough one ends by it
use Rattle.std.proofs.Common.{◌<◌}
use Rattle.zs_alloc.specs.Runs.{IsRunUpTo}
use Rattle.zs_alloc.proofs.Chunks.{NoneUpTo}
use Rattle.zs_alloc.proofs.chunk.first_in.Given as goal

abbrev pub invariant-loop-index : goal.invariant-loop-index
invariant-loop-index l = IsRunUpTo l.flags l.index l.run × (l.run < l.n) × NoneUpTo l.flags l.n l.index
