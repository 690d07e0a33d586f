use Rattle.std.proofs.Common.{◌≡◌, ℕ, true, sym, ◌∙◌, rules}
use Rattle.std.specs.Prelude.{Option, Some, None, IfSome, is_some}
use Rattle.zs_core.specs.View.{PoolView}
use Rattle.zs_machine.specs.History.{text_of}
use Rattle.zs_machine.specs.Finishing.Phase.{landing}
use Rattle.zs_session.specs.Batches.{LandsFirst}
use Rattle.zs_session.specs.Finish.{phase_at}
use Rattle.zs_session.proofs.Sets.{set_twice, calls_stop, longer_of, calls_ok}
use Rattle.zs_session.proofs.Histories.{silent_adds, went_after, passes_of, halts_after, halts_same}
use Rattle.zs_session.proofs.Phases.{lands}
use Rattle.zs_session.proofs.Walking.{still_walking}
use Rattle.zs_session.proofs.finishing.land_flights.Goals as goal

-- a batch that landed leaves the phase and the text
landed : (by : ℕ) (old new : PoolView) (next : Option ℕ) → is_some next ≡ true → IfSome next (λ many. LandsFirst by old many new) → phase_at old.history ≡ landing → (phase_at new.history ≡ landing) × (text_of new.history ≡ text_of old.history)
landed by old new None some first was = cc
landed by old new (Some many) some first was =
    (lands _ _ _ _ _ _ _ first.verdict.event was, silent_adds _ _ _ _ first.verdict.event)

pub loop-preserved : goal.loop-preserved
loop-preserved g c =
    let both = landed _ c.loop.pool c.land_next.new.pool _ (sym c.is_some.ensures ∙ c.if-is_some.true) c.in_ok-land_next.ensures.next.verdict c.loop.invariant.phase in
    record {
      up = c.in_ok-land_next.ensures.up;
      goes_on = went_after _ _ _ _ _ _ _ c.loop.invariant.goes_on c.in_ok-land_next.ensures.goes_on;
      silent = both.1 ∙ c.loop.invariant.silent;
      runs = λ was. still_walking _ _ c.in_ok-land_next.ensures.scan (c.loop.invariant.runs was);
      phase = both.0;
      calls = set_twice _ _ _ _ _ _ c.loop.invariant.calls c.in_ok-land_next.ensures.calls.set;
    }

pub returns-clause-goes_on : goal.returns-clause-goes_on
returns-clause-goes_on g c = went_after _ _ _ _ _ _ _ c.loop.invariant.goes_on c.in_ok-land_next.ensures.goes_on

pub returns-in_err-land_next-clause-passes : goal.returns-in_err-land_next-clause-passes
returns-in_err-land_next-clause-passes g c =
    passes_of _ _ _ _ _ (c.land_next.ensures.silent ∙ c.loop.invariant.silent)
    (halts_after _ _ _ _ _ _ _ c.loop.invariant.goes_on (halts_same _ _ _ _ c.in_err-land_next.ensures.err (longer_of _ _ _ _ c.land_next.ensures.calls.set)))

pub returns-in_err-land_next-clause-calls : goal.returns-in_err-land_next-clause-calls
returns-in_err-land_next-clause-calls g c = calls_stop _ _ _ _ _ _ _ _ (search rules) c.loop.invariant.calls c.in_err-land_next.ensures.calls

pub returns-clause-calls : goal.returns-clause-calls
returns-clause-calls g c = calls_ok _ _ _ _ _ (set_twice _ _ _ _ _ _ c.loop.invariant.calls c.in_ok-land_next.ensures.calls.set)
