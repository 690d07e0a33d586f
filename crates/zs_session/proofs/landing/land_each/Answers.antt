use Rattle.std.proofs.Common.{◌∙◌, ℕ, subst, rules}
use Rattle.std.specs.Prelude.{Option, IfSome}
use Rattle.zs_session.specs.Batches.{HasLanded}
use Rattle.zs_session.proofs.Sets.{set_twice, calls_stop, calls_ok}
use Rattle.zs_session.proofs.Histories.{passes_after, went_twice}
use Rattle.zs_session.proofs.Rooms.{same_devices}
use Rattle.zs_session.proofs.landing.land_each.Goals as goal

pub loop-more-preserved : goal.loop-more-preserved
loop-more-preserved g c = record {
  up = c.in_ok-more.ensures.up;
  goes_on = went_twice _ _ _ _ _ _ _ _ c.loop-more.invariant.goes_on c.in_ok-more.ensures.goes_on;
  silent = c.land_more.ensures.passes.silent ∙ c.loop-more.invariant.silent;
  landed = subst (λ (next : Option ℕ). IfSome next (λ made. HasLanded c.land_more.new.pool made c.land_more.new.landed.items)) c.in-Some.is c.in_ok-more.ensures.landed;
  devices = same_devices _ _ _ _ _ _ c.in_ok-more.ensures.goes_on.shape c.land_more.ensures.calls.set c.loop-more.invariant.devices;
  calls = set_twice _ _ _ _ _ _ c.loop-more.invariant.calls c.in_ok-more.ensures.calls.set;
}

pub returns-in_err-more-clause-passes : goal.returns-in_err-more-clause-passes
returns-in_err-more-clause-passes g c = passes_after _ _ _ _ _ _ _ c.loop-more.invariant.goes_on c.loop-more.invariant.silent c.in_err-more.ensures.passes

pub returns-in-None-clause-goes_on : goal.returns-in-None-clause-goes_on
returns-in-None-clause-goes_on g c = went_twice _ _ _ _ _ _ _ _ c.loop-more.invariant.goes_on c.in_ok-more.ensures.goes_on

pub returns-in_err-more-clause-calls : goal.returns-in_err-more-clause-calls
returns-in_err-more-clause-calls g c = calls_stop _ _ _ _ _ _ _ _ (search rules) c.loop-more.invariant.calls c.in_err-more.ensures.calls

pub returns-in-None-clause-calls : goal.returns-in-None-clause-calls
returns-in-None-clause-calls g c = calls_ok _ _ _ _ _ (set_twice _ _ _ _ _ _ c.loop-more.invariant.calls c.in_ok-more.ensures.calls.set)
