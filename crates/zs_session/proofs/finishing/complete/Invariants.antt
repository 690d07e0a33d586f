use Rattle.std.proofs.Common.{◌≡◌, []}
use Rattle.zs_phys.specs.Turn.{IsWalking}
use Rattle.zs_machine.specs.History.{text_of}
use Rattle.zs_session.specs.Session.{IsUp}
use Rattle.zs_session.specs.Plays.{Went}
use Rattle.zs_session.specs.Batches.{IsTimedAs}
use Rattle.zs_session.specs.Finish.{MayGo, Round, phase_at, finish_left}
use Rattle.zs_session.specs.Devices.{SetGoesOn, journals}
use Rattle.zs_session.proofs.finishing.complete.Given as goal

abbrev pub invariant-loop : goal.invariant-loop
invariant-loop g l = record {
  up : IsUp l.pool;
  goes_on : Went l.initial.pool l.pool (journals (g.C.Children.device l.initial.rig.set)) (journals (g.C.Children.device l.rig.set)) [];
  silent : text_of l.pool.history ≡ text_of l.initial.pool.history;
  runs : IsWalking l.pool.core.scan.run;
  landed : l.pool.core.scan.flight ≡ [];
  time : IsTimedAs l.initial.pool.core l.pool.core;
  phase : (r : Round) → MayGo r (phase_at l.initial.pool.history) → MayGo r (phase_at l.pool.history);
  calls : SetGoesOn (g.C.Children.count l.initial.rig.set) (g.C.Children.count l.rig.set) (g.C.Children.device l.initial.rig.set) (g.C.Children.device l.rig.set);
}

abbrev pub decreases-loop : goal.decreases-loop
decreases-loop g l = finish_left l.pool.core
