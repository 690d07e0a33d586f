use Rattle.std.proofs.Common.{◌∙◌, sym, ap}
use Rattle.zs_io.specs.Calls.{after_calls}
use Rattle.zs_io.specs.CallLaws.{after_calls-push}
use Rattle.zs_io.specs.declared.disk.Call.TheVariants.{Synced}
use Rattle.zs_io.proofs.More.{pushed, bytes_after, time_after, synced, synced_only}
use Rattle.zs_io.proofs.disk.Disk.sync.Goals as goal

pub invariant_of-self-2 : goal.invariant_of-self-2
invariant_of-self-2 c =
    c.self.invariant
    ∙ sym (after_calls-push c.self.inside.calls.items Synced c.self.inside.first.value.items)
    ∙ ap (λ l. after_calls l c.self.inside.first.value.items) (sym c.in_ok-push.ensures.items)

pub returns-clause-now : goal.returns-clause-now
returns-clause-now c =
    bytes_after c.args.self.now _ Synced (pushed _ _ _ Synced c.args.self.now c.in_ok-push.ensures.items c.self.view_is)

pub returns-clause-crash : goal.returns-clause-crash
returns-clause-crash c =
    synced c.args.self.now _ (pushed _ _ _ Synced c.args.self.now c.in_ok-push.ensures.items c.self.view_is)

pub returns-clause-time : goal.returns-clause-time
returns-clause-time c =
    time_after c.args.self.now _ Synced (pushed _ _ _ Synced c.args.self.now c.in_ok-push.ensures.items c.self.view_is)

pub returns-clause-durable : goal.returns-clause-durable
returns-clause-durable c =
    synced_only c.args.self.now _ (pushed _ _ _ Synced c.args.self.now c.in_ok-push.ensures.items c.self.view_is)
