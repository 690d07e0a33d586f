use Rattle.zs_session.specs.Devices.{journals}
use Rattle.std.proofs.Common.{None, ◌∙◌, ap, sym}
use Rattle.zs_phys.specs.declared.phys.Phys.{Phys}
use Rattle.zs_session.proofs.Walking.{still_due, timed_twice}
use Rattle.zs_session.proofs.Histories.{devices_after, passes_after, passes_of, went_after_alone}
use Rattle.zs_session.proofs.finishing.walk_and_check.Goals as goal

pub check_waiting-requires-clause-devices : goal.check_waiting-requires-clause-devices
check_waiting-requires-clause-devices g c = devices_after _ _ (λ e. None) (λ e. None) _ _ _ (c.in_ok-stop.ensures.goes_on (λ e. None)) c.requires.devices

pub returns-in_err-check_waiting-clause-passes : goal.returns-in_err-check_waiting-clause-passes
returns-in_err-check_waiting-clause-passes g c = passes_after _ _ _ _ _ _ _ (c.in_ok-stop.ensures.goes_on _) (c.walk_on.ensures.passes (λ e. None)).silent c.in_err-check_waiting.ensures.passes

pub returns-clause-goes_on : goal.returns-clause-goes_on
returns-clause-goes_on g c = went_after_alone _ _ _ _ _ _ c.in_ok-stop.ensures.goes_on c.in_ok-check_waiting.ensures.goes_on

pub returns-in_err-stop-clause-passes : goal.returns-in_err-stop-clause-passes
returns-in_err-stop-clause-passes g c =
    let passes = c.in_err-stop.ensures.passes (journals (g.C.Children.device c.args.rig.now.set)) in
    passes_of _ _ _ _ _ passes.silent passes.went_on

pub returns-clause-passes : goal.returns-clause-passes
returns-clause-passes g c = record { silent = c.check_waiting.ensures.passes.silent ∙ (c.walk_on.ensures.passes (λ e. None)).silent; went_on = tt }

pub returns-clause-phase : goal.returns-clause-phase
returns-clause-phase g c r may = c.in_ok-check_waiting.ensures.phase r _ (c.in_ok-stop.ensures.phase r may)

pub returns-clause-time : goal.returns-clause-time
returns-clause-time g c = timed_twice _ _ _ c.in_ok-stop.ensures.time c.in_ok-check_waiting.ensures.still.time

pub returns-clause-drained : goal.returns-clause-drained
returns-clause-drained g c = record { drained = c.in_ok-check_waiting.ensures.all; landed = c.in_ok-check_waiting.ensures.still.flight c.in_ok-stop.ensures.walks.landed }

pub returns-clause-due : goal.returns-clause-due
returns-clause-due g c is = still_due _ _ c.in_ok-check_waiting.ensures.still.time (ap (λ (s : Phys). s.status) (sym c.in_ok-check_waiting.ensures.still.run)) ∙ c.in_ok-stop.ensures.due is
