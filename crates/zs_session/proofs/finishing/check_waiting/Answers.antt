use Rattle.std.proofs.Common.{◌∙◌, ap, rules}
use Rattle.zs_session.specs.Finish.{checked_to}
use Rattle.zs_session.proofs.Sets.{set_twice, calls_stop, calls_ok}
use Rattle.zs_session.proofs.Histories.{passes_after, went_after}
use Rattle.zs_session.proofs.Phases.{holds_on}
use Rattle.zs_session.proofs.Walking.{still_twice}
use Rattle.zs_session.proofs.finishing.check_waiting.Goals as goal

pub returns-in_err-check_next-clause-passes : goal.returns-in_err-check_next-clause-passes
returns-in_err-check_next-clause-passes g c = passes_after _ _ _ _ _ _ _ c.loop.invariant.goes_on c.loop.invariant.silent c.in_err-check_next.ensures.passes

pub loop-preserved : goal.loop-preserved
loop-preserved g c = record {
  up = c.in_ok-check_next.ensures.up;
  goes_on = went_after _ _ _ _ _ _ _ c.loop.invariant.goes_on c.in_ok-check_next.ensures.goes_on;
  silent = c.check_next.ensures.passes.silent ∙ c.loop.invariant.silent;
  still = still_twice _ _ _ c.loop.invariant.still c.in_ok-check_next.ensures.still;
  phase = λ r over may. holds_on r _ over (c.in_ok-check_next.ensures.phase r over (c.loop.invariant.phase r over may) ∙ ap (checked_to r over) c.if-branch.true);
  calls = set_twice _ _ _ _ _ _ c.loop.invariant.calls c.in_ok-check_next.ensures.calls.set;
}

pub returns-clause-phase : goal.returns-clause-phase
returns-clause-phase g c r over may = c.in_ok-check_next.ensures.phase r over (c.loop.invariant.phase r over may) ∙ ap (checked_to r over) c.if-branch.false

pub returns-clause-goes_on : goal.returns-clause-goes_on
returns-clause-goes_on g c = went_after _ _ _ _ _ _ _ c.loop.invariant.goes_on c.in_ok-check_next.ensures.goes_on

pub returns-in_err-check_next-clause-calls : goal.returns-in_err-check_next-clause-calls
returns-in_err-check_next-clause-calls g c = calls_stop _ _ _ _ _ _ _ _ (search rules) c.loop.invariant.calls c.in_err-check_next.ensures.calls

pub returns-clause-calls : goal.returns-clause-calls
returns-clause-calls g c = calls_ok _ _ _ _ _ (set_twice _ _ _ _ _ _ c.loop.invariant.calls c.in_ok-check_next.ensures.calls.set)
