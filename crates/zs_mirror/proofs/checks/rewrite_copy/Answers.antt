use Rattle.std.proofs.Common.{arith}
use Rattle.zs_mirror.proofs.Outcomes.{if_refused}
use Rattle.zs_lane.proofs.GoingOn.{goes_on_twice}
use Rattle.zs_mirror.proofs.Devices.{touched_then, went_written}
use Rattle.zs_mirror.proofs.Repairs.{synced_rewrite}
use Rattle.zs_mirror.proofs.checks.rewrite_copy.Goals as goal

pub returns-in_err-seen-in-Ok-clause-memory : goal.returns-in_err-seen-in-Ok-clause-memory
returns-in_err-seen-in-Ok-clause-memory g c = if_refused c.from_residual.result
    (touched_then c.args.at c.args.good.now _ _ _ (λ b is. omega (arith, c.requires.range, (g.met.C.Children.told_is c.args.set.now c.args.dev b is).0))
    c.in-Ok.ensures.written.done c.write_summed.ensures.call.time c.write_summed.ensures.written.crash c.in_err-seen-in-Ok.ensures.memory)

pub returns-in_err-seen-in-Ok-clause-goes_on : goal.returns-in_err-seen-in-Ok-clause-goes_on
returns-in_err-seen-in-Ok-clause-goes_on g c =
    goes_on_twice (g.C.Children.device c.args.set.now c.args.dev) (g.C.Children.device c.write_summed.new.self c.args.dev) (g.C.Children.device c.sync_copy.new.set c.args.dev)
    c.write_summed.ensures.call.goes_on c.sync_copy.ensures.goes_on

pub returns-in_ok-seen-in-Ok-clause-goes_on : goal.returns-in_ok-seen-in-Ok-clause-goes_on
returns-in_ok-seen-in-Ok-clause-goes_on g c =
    goes_on_twice (g.C.Children.device c.args.set.now c.args.dev) (g.C.Children.device c.write_summed.new.self c.args.dev) (g.C.Children.device c.sync_copy.new.set c.args.dev)
    c.write_summed.ensures.call.goes_on c.sync_copy.ensures.goes_on

pub returns-in_ok-seen-in-Ok-clause-rewritten : goal.returns-in_ok-seen-in-Ok-clause-rewritten
returns-in_ok-seen-in-Ok-clause-rewritten g c = rw c.requires.sum (synced_rewrite _ _ _ _ _ _ _ _ _ _
    (went_written c.args.at c.args.good.now _ _ _ _ c.in-Ok.ensures.mark c.in-Ok.ensures.place c.in-Ok.ensures.written.done c.write_summed.ensures.call.time
    c.write_summed.ensures.written.crash c.in-Ok.ensures.call.cause.ok)
    c.in_ok-seen-in-Ok.ensures.synced)
