use Rattle.std.proofs.Common.{◌∙◌, ap, rules}
use Rattle.zs_machine.specs.Finishing.Phase.{drained}
use Rattle.zs_session.proofs.Sets.{set_twice, calls_stop, calls_ok}
use Rattle.zs_session.proofs.Histories.{passes_after, went_after}
use Rattle.zs_session.specs.declared.turns.Stop.{Stop}
use Rattle.zs_session.specs.Finish.{in_round, is_over}
use Rattle.zs_session.proofs.Phases.{walks_again}
use Rattle.zs_session.proofs.Walking.{timed_twice}
use Rattle.zs_session.proofs.finishing.complete.Goals as goal

pub returns-in_err-walk_and_check-clause-passes : goal.returns-in_err-walk_and_check-clause-passes
returns-in_err-walk_and_check-clause-passes g c = passes_after _ _ _ _ _ _ _ c.loop.invariant.goes_on c.loop.invariant.silent c.in_err-walk_and_check.ensures.passes

pub loop-preserved : goal.loop-preserved
loop-preserved g c = record {
  up = c.in_ok-walk_and_check.ensures.up;
  goes_on = went_after _ _ _ _ _ _ _ c.loop.invariant.goes_on c.in_ok-walk_and_check.ensures.goes_on;
  silent = c.walk_and_check.ensures.passes.silent ∙ c.loop.invariant.silent;
  runs = c.in_ok-walk_and_check.ensures.walks.runs;
  landed = c.in_ok-walk_and_check.ensures.walks.landed;
  time = timed_twice _ _ _ c.loop.invariant.time c.in_ok-walk_and_check.ensures.time;
  phase = λ r may. walks_again r _ 1 (c.in_ok-walk_and_check.ensures.phase r (c.loop.invariant.phase r may) ∙ ap (λ (s : Stop). in_round r (drained (is_over s) 1)) c.in-Full.is);
  calls = set_twice _ _ _ _ _ _ c.loop.invariant.calls c.in_ok-walk_and_check.ensures.calls.set;
}

pub returns-in-Over-clause-goes_on : goal.returns-in-Over-clause-goes_on
returns-in-Over-clause-goes_on g c = went_after _ _ _ _ _ _ _ c.loop.invariant.goes_on c.in_ok-walk_and_check.ensures.goes_on

pub returns-in-Over-clause-calls : goal.returns-in-Over-clause-calls
returns-in-Over-clause-calls g c = calls_ok _ _ _ _ _ (set_twice _ _ _ _ _ _ c.loop.invariant.calls c.in_ok-walk_and_check.ensures.calls.set)

pub returns-in-Over-clause-time : goal.returns-in-Over-clause-time
returns-in-Over-clause-time g c = timed_twice _ _ _ c.loop.invariant.time c.in_ok-walk_and_check.ensures.time

pub returns-in-Over-clause-phase : goal.returns-in-Over-clause-phase
returns-in-Over-clause-phase g c r may = c.in_ok-walk_and_check.ensures.phase r (c.loop.invariant.phase r may) ∙ ap (λ (s : Stop). in_round r (drained (is_over s) 1)) c.in-Over.is

pub returns-in-Over-clause-passes : goal.returns-in-Over-clause-passes
returns-in-Over-clause-passes g c = record { silent = c.walk_and_check.ensures.passes.silent ∙ c.loop.invariant.silent; went_on = tt }

pub returns-in-Due-clause-goes_on : goal.returns-in-Due-clause-goes_on
returns-in-Due-clause-goes_on g c = went_after _ _ _ _ _ _ _ c.loop.invariant.goes_on c.in_ok-walk_and_check.ensures.goes_on

pub returns-in-Due-clause-calls : goal.returns-in-Due-clause-calls
returns-in-Due-clause-calls g c = calls_ok _ _ _ _ _ (set_twice _ _ _ _ _ _ c.loop.invariant.calls c.in_ok-walk_and_check.ensures.calls.set)

pub returns-in-Due-clause-time : goal.returns-in-Due-clause-time
returns-in-Due-clause-time g c = timed_twice _ _ _ c.loop.invariant.time c.in_ok-walk_and_check.ensures.time

pub returns-in-Due-clause-phase : goal.returns-in-Due-clause-phase
returns-in-Due-clause-phase g c r may = c.in_ok-walk_and_check.ensures.phase r (c.loop.invariant.phase r may) ∙ ap (λ (s : Stop). in_round r (drained (is_over s) 1)) c.in-Due.is

pub returns-in-Due-clause-passes : goal.returns-in-Due-clause-passes
returns-in-Due-clause-passes g c = record { silent = c.walk_and_check.ensures.passes.silent ∙ c.loop.invariant.silent; went_on = tt }

pub returns-in_err-walk_and_check-clause-calls : goal.returns-in_err-walk_and_check-clause-calls
returns-in_err-walk_and_check-clause-calls g c = calls_stop _ _ _ _ _ _ _ _ (search rules) c.loop.invariant.calls c.in_err-walk_and_check.ensures.calls
