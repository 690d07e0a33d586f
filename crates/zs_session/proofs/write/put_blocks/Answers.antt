use Rattle.zs_session.proofs.Sets.{calls_after}
use Rattle.zs_session.proofs.write.put_blocks.Goals as goal

pub returns-clause-calls : goal.returns-clause-calls
returns-clause-calls g c = calls_after c.sync_each.result _ _ _ _ _ _ c.in_ok-put_each.ensures.calls.set c.sync_each.ensures.calls
