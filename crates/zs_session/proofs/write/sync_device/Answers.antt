use Rattle.zs_session.proofs.Putting.{set_only, calls_failed, failed_rose}
use Rattle.zs_session.proofs.Sets.{calls_ok, calls_memory}
use Rattle.std.proofs.Common.{refl}
use Rattle.zs_session.proofs.write.sync_device.Goals as goal

pub returns-in-Ok-clause-calls : goal.returns-in-Ok-clause-calls
returns-in-Ok-clause-calls g c = calls_ok c.in-Ok.place _ _ _ _ (set_only c.args.dev _ _ _ _ c.sync.ensures.only c.sync.ensures.call.goes_on)

pub returns-in-Err-Failed-clause-calls : goal.returns-in-Err-Failed-clause-calls
returns-in-Err-Failed-clause-calls g c = calls_failed c.args.dev _ _ _ _ _ (set_only c.args.dev _ _ _ _ c.sync.ensures.only c.sync.ensures.call.goes_on)
    (failed_rose c.in-Err-Failed.field-0 c.in-Err-Failed.field-0-0 _ _ c.in-Err-Failed.field-0-is c.in-Err-Failed.ensures.call.cause.err)

pub returns-in-Err-Memory-clause-calls : goal.returns-in-Err-Memory-clause-calls
returns-in-Err-Memory-clause-calls g c = calls_memory _ _ _ _ _ refl (set_only c.args.dev _ _ _ _ c.sync.ensures.only c.sync.ensures.call.goes_on)
