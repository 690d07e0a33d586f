use Rattle.std.proofs.Common.{rules}
use Rattle.zs_session.specs.Finish.Round.{first, second}
use Rattle.zs_session.proofs.Histories.{line_halts, went_after}
use Rattle.zs_session.proofs.Phases.{through, walks_again_after, walks_landed}
use Rattle.zs_session.proofs.Sets.{set_twice, calls_ok, calls_stop}
use Rattle.zs_session.proofs.finishing.end_scan.Goals as goal

pub returns-in_err-complete-clause-stops : goal.returns-in_err-complete-clause-stops
returns-in_err-complete-clause-stops g c = line_halts _ _ _ _ _ _ _ c.in_ok-land_flights.ensures.goes_on c.in_err-complete.ensures.passes.went_on

pub returns-in_err-complete-clause-calls : goal.returns-in_err-complete-clause-calls
returns-in_err-complete-clause-calls g c = calls_stop _ _ _ _ _ _ _ _ (search rules) c.land_flights.ensures.calls.set c.in_err-complete.ensures.calls

pub returns-in_err-made-clause-stops : goal.returns-in_err-made-clause-stops
returns-in_err-made-clause-stops g c =
    line_halts _ _ _ _ _ _ _ (went_after _ _ _ _ _ _ _ c.in_ok-land_flights.ensures.goes_on c.in_ok-complete.ensures.goes_on) c.in_err-made.ensures.stops.went_on

pub returns-in_err-made-clause-calls : goal.returns-in_err-made-clause-calls
returns-in_err-made-clause-calls g c =
    calls_stop _ _ _ _ _ _ _ _ (search rules) (set_twice _ _ _ _ _ _ c.land_flights.ensures.calls.set c.complete.ensures.calls.set) c.in_err-made.ensures.calls

pub returns-then-not-made-clause-through : goal.returns-then-not-made-clause-through
returns-then-not-made-clause-through g c =
    through c.complete.new.pool.history c.sync.new.pool.history first _ 1 c.in_ok-made.ensures.told (c.in_ok-complete.ensures.phase first (walks_landed _ c.in_ok-land_flights.ensures.phase))

pub returns-then-not-made-clause-goes_on : goal.returns-then-not-made-clause-goes_on
returns-then-not-made-clause-goes_on g c = went_after _ _ _ _ _ _ _ (went_after _ _ _ _ _ _ _ c.in_ok-land_flights.ensures.goes_on c.in_ok-complete.ensures.goes_on) c.in_ok-made.ensures.goes_on

pub returns-then-not-made-clause-calls : goal.returns-then-not-made-clause-calls
returns-then-not-made-clause-calls g c =
    calls_ok _ _ _ _ _ (set_twice _ _ _ _ _ _ (set_twice _ _ _ _ _ _ c.land_flights.ensures.calls.set c.complete.ensures.calls.set) c.sync.ensures.calls.set)

pub returns-then-not-is_at_work-clause-through : goal.returns-then-not-is_at_work-clause-through
returns-then-not-is_at_work-clause-through g c =
    through c.complete.new.pool.history c.sync.new.pool.history first _ 1 c.in_ok-made.ensures.told (c.in_ok-complete.ensures.phase first (walks_landed _ c.in_ok-land_flights.ensures.phase))

pub returns-then-not-is_at_work-clause-goes_on : goal.returns-then-not-is_at_work-clause-goes_on
returns-then-not-is_at_work-clause-goes_on g c = went_after _ _ _ _ _ _ _ (went_after _ _ _ _ _ _ _ c.in_ok-land_flights.ensures.goes_on c.in_ok-complete.ensures.goes_on) c.in_ok-made.ensures.goes_on

pub returns-then-not-is_at_work-clause-calls : goal.returns-then-not-is_at_work-clause-calls
returns-then-not-is_at_work-clause-calls g c =
    calls_ok _ _ _ _ _ (set_twice _ _ _ _ _ _ (set_twice _ _ _ _ _ _ c.land_flights.ensures.calls.set c.complete.ensures.calls.set) c.sync.ensures.calls.set)

pub returns-in_err-complete-2-clause-stops : goal.returns-in_err-complete-2-clause-stops
returns-in_err-complete-2-clause-stops g c =
    line_halts _ _ _ _ _ _ _ (went_after _ _ _ _ _ _ _ (went_after _ _ _ _ _ _ _ c.in_ok-land_flights.ensures.goes_on c.in_ok-complete.ensures.goes_on) c.in_ok-made.ensures.goes_on)
    c.in_err-complete-2.ensures.passes.went_on

pub returns-in_err-complete-2-clause-calls : goal.returns-in_err-complete-2-clause-calls
returns-in_err-complete-2-clause-calls g c =
    calls_stop _ _ _ _ _ _ _ _ (search rules) (set_twice _ _ _ _ _ _ (set_twice _ _ _ _ _ _ c.land_flights.ensures.calls.set c.complete.ensures.calls.set) c.sync.ensures.calls.set)
    c.in_err-complete-2.ensures.calls

pub returns-in_err-sync-clause-stops : goal.returns-in_err-sync-clause-stops
returns-in_err-sync-clause-stops g c =
    line_halts _ _ _ _ _ _ _ (went_after _ _ _ _ _ _ _ (went_after _ _ _ _ _ _ _ (went_after _ _ _ _ _ _ _ c.in_ok-land_flights.ensures.goes_on c.in_ok-complete.ensures.goes_on) c.in_ok-made.ensures.goes_on) c.in_ok-complete-2.ensures.goes_on)
    c.in_err-sync.ensures.stops.went_on

pub returns-in_err-sync-clause-calls : goal.returns-in_err-sync-clause-calls
returns-in_err-sync-clause-calls g c =
    calls_stop _ _ _ _ _ _ _ _ (search rules) (set_twice _ _ _ _ _ _ (set_twice _ _ _ _ _ _ (set_twice _ _ _ _ _ _ c.land_flights.ensures.calls.set c.complete.ensures.calls.set) c.sync.ensures.calls.set) c.complete-2.ensures.calls.set)
    c.in_err-sync.ensures.calls

pub returns-clause-through : goal.returns-clause-through
returns-clause-through g c =
    let round = c.in_ok-made.ensures.round c.if-not-made.false first _ 1 (c.in_ok-complete.ensures.phase first (walks_landed _ c.in_ok-land_flights.ensures.phase)) in
    through c.complete-2.new.pool.history c.sync-2.new.pool.history second _ 1 c.in_ok-sync.ensures.told (c.in_ok-complete-2.ensures.phase second (walks_again_after _ round))

pub returns-clause-goes_on : goal.returns-clause-goes_on
returns-clause-goes_on g c =
    went_after _ _ _ _ _ _ _ (went_after _ _ _ _ _ _ _ (went_after _ _ _ _ _ _ _ (went_after _ _ _ _ _ _ _ c.in_ok-land_flights.ensures.goes_on c.in_ok-complete.ensures.goes_on) c.in_ok-made.ensures.goes_on) c.in_ok-complete-2.ensures.goes_on)
    c.in_ok-sync.ensures.goes_on

pub returns-clause-calls : goal.returns-clause-calls
returns-clause-calls g c =
    calls_ok _ _ _ _ _ (set_twice _ _ _ _ _ _ (set_twice _ _ _ _ _ _ (set_twice _ _ _ _ _ _ (set_twice _ _ _ _ _ _ c.land_flights.ensures.calls.set c.complete.ensures.calls.set) c.sync.ensures.calls.set) c.complete-2.ensures.calls.set) c.sync-2.ensures.calls.set)
