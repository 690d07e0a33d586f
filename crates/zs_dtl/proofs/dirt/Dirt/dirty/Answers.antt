use Rattle.std.proofs.Common.{arith}
use Rattle.zs_dtl.proofs.Cuts.{dirty_log}
use Rattle.zs_dtl.proofs.dirt.Dirt.dirty.Goals as goal

pub returns-clause-log : goal.returns-clause-log
returns-clause-log c =
    rw (← c.self.view_is) (dirty_log _ _ _ _ _ _ _ c.from.ensures (rw (← c.self.view_is) at c.requires) c.index_mut-log.ensures.value c.in_ok-add.ensures.canonical c.in_ok-add.ensures.ok c.join_lowest.ensures.joined)
