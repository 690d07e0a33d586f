use Rattle.std.proofs.Common.{None, ◌≡◌, ◌∙◌, Bool, false, List, refl, ap, subst, sym, Ok}
use Rattle.zs_session.specs.declared.turns.Turned.{Turned}
use Rattle.zs_machine.specs.declared.event.Event.{Event}
use Rattle.zs_session.specs.Finish.{MayGo, MayHold, Round, TurnsTo, phase_at, turned_to}
use Rattle.zs_session.proofs.Histories.{alone_after, passes_after}
use Rattle.zs_session.proofs.Phases.{holds_over, walks_on}
use Rattle.zs_session.proofs.Walking.{fewer_turns, still_walking, timed_twice}
use Rattle.zs_session.proofs.finishing.walk_on.Goals as goal

pub returns-in_err-turn-clause-passes : goal.returns-in_err-turn-clause-passes
returns-in_err-turn-clause-passes c js = passes_after _ _ _ js js js _ (c.loop.invariant.goes_on js) c.loop.invariant.silent (c.in_err-turn.ensures.passes js)

pub loop-preserved : goal.loop-preserved
loop-preserved c = record {
  up = c.in_ok-turn.ensures.up;
  goes_on = alone_after _ _ _ _ c.loop.invariant.goes_on c.in_ok-turn.ensures.goes_on;
  silent = (c.turn.ensures.passes (λ e. None)).silent ∙ c.loop.invariant.silent;
  runs = still_walking _ _ c.in_ok-turn.ensures.scan.scan c.loop.invariant.runs;
  landed = c.in_ok-turn.ensures.scan.flight ∙ c.loop.invariant.landed;
  time = timed_twice _ _ _ c.loop.invariant.time c.in_ok-turn.ensures.scan.scan.time;
  phase = λ r may. walks_on r _ (c.in_ok-turn.ensures.phase r (c.loop.invariant.phase r may).walk ∙ ap (λ (t : Turned). turned_to r t (phase_at c.loop.pool.history)) c.in-Made.is);
  fewer = fewer_turns _ c.loop.pool.core _ c.loop.invariant.fewer (c.turn.ensures.finds.fewer (c.in_ok-turn.was ∙ ap Ok c.in-Made.is));
}

pub returns-in-Nothing-clause-goes_on : goal.returns-in-Nothing-clause-goes_on
returns-in-Nothing-clause-goes_on c = alone_after _ _ _ _ c.loop.invariant.goes_on c.in_ok-turn.ensures.goes_on

-- a turn that was refused leaves the phase
refused_phase : (r : Round) (old new : List Event) (turned : Turned) (over : Bool) → TurnsTo turned old new → turned_to r turned (phase_at old) ≡ phase_at old → MayGo r (phase_at old) → over ≡ false → MayHold r over (phase_at new)
refused_phase r old new turned over to stays may is = rw is (subst (MayHold r false) (sym (to r may.walk ∙ stays)) may.hold)

pub returns-in-Full-clause-phase : goal.returns-in-Full-clause-phase
returns-in-Full-clause-phase c r may =
    refused_phase r c.loop.pool.history c.turn.new.pool.history _ false c.in_ok-turn.ensures.phase (ap (λ (t : Turned). turned_to r t (phase_at c.loop.pool.history)) c.in-Full.is) (c.loop.invariant.phase r may) refl

pub returns-in-Due-clause-phase : goal.returns-in-Due-clause-phase
returns-in-Due-clause-phase c r may =
    refused_phase r c.loop.pool.history c.turn.new.pool.history _ false c.in_ok-turn.ensures.phase (ap (λ (t : Turned). turned_to r t (phase_at c.loop.pool.history)) c.in-Due.is) (c.loop.invariant.phase r may) refl

pub returns-in-Nothing-clause-phase : goal.returns-in-Nothing-clause-phase
returns-in-Nothing-clause-phase c r may =
    holds_over r _ (c.in_ok-turn.ensures.phase r (c.loop.invariant.phase r may).walk ∙ ap (λ (t : Turned). turned_to r t (phase_at c.loop.pool.history)) c.in-Nothing.is)

pub returns-in-Due-clause-goes_on : goal.returns-in-Due-clause-goes_on
returns-in-Due-clause-goes_on c = alone_after _ _ _ _ c.loop.invariant.goes_on c.in_ok-turn.ensures.goes_on

pub returns-in-Due-clause-passes : goal.returns-in-Due-clause-passes
returns-in-Due-clause-passes c js = record { silent = (c.turn.ensures.passes js).silent ∙ c.loop.invariant.silent; went_on = tt }

pub returns-in-Full-clause-time : goal.returns-in-Full-clause-time
returns-in-Full-clause-time c = timed_twice _ _ _ c.loop.invariant.time c.in_ok-turn.ensures.scan.scan.time

pub returns-in-Due-clause-time : goal.returns-in-Due-clause-time
returns-in-Due-clause-time c = timed_twice _ _ _ c.loop.invariant.time c.in_ok-turn.ensures.scan.scan.time

pub returns-in-Nothing-clause-time : goal.returns-in-Nothing-clause-time
returns-in-Nothing-clause-time c = timed_twice _ _ _ c.loop.invariant.time c.in_ok-turn.ensures.scan.scan.time

pub returns-in-Full-clause-goes_on : goal.returns-in-Full-clause-goes_on
returns-in-Full-clause-goes_on c = alone_after _ _ _ _ c.loop.invariant.goes_on c.in_ok-turn.ensures.goes_on

pub returns-in-Nothing-clause-passes : goal.returns-in-Nothing-clause-passes
returns-in-Nothing-clause-passes c js = record { silent = (c.turn.ensures.passes js).silent ∙ c.loop.invariant.silent; went_on = tt }

pub returns-in-Full-clause-passes : goal.returns-in-Full-clause-passes
returns-in-Full-clause-passes c js = record { silent = (c.turn.ensures.passes js).silent ∙ c.loop.invariant.silent; went_on = tt }
