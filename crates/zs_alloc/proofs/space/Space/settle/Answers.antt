use Rattle.std.proofs.Common.{arith}
use Rattle.zs_alloc.proofs.Each.{each_more, each_done}
use Rattle.zs_alloc.proofs.space.Space.settle.Goals as goal

pub loop-index-preserved : goal.loop-index-preserved
loop-index-preserved c = each_more _ _ _ c.loop-index.index c.index_mut.result.now _ c.loop-index.invariant (omega arith) c.index_mut.ensures.value c.settle.ensures

pub returns-clause-settled : goal.returns-clause-settled
returns-clause-settled c = rw (← c.self.view_is) (each_done _ _ _ c.loop-index.index c.loop-index.invariant (omega arith))
