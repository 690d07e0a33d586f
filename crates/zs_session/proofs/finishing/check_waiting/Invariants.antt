use Rattle.std.proofs.Common.{◌≡◌, Bool, [], length}
use Rattle.zs_machine.specs.History.{text_of}
use Rattle.zs_session.specs.Session.{IsUp}
use Rattle.zs_session.specs.Plays.{Went}
use Rattle.zs_session.specs.Batches.{StandsStill}
use Rattle.zs_session.specs.Finish.{MayHold, phase_at, Round}
use Rattle.zs_session.specs.Devices.{SetGoesOn, journals}
use Rattle.zs_session.proofs.finishing.check_waiting.Given as goal

abbrev pub invariant-loop : goal.invariant-loop
invariant-loop g l = record {
  up : IsUp l.pool;
  goes_on : Went l.initial.pool l.pool (journals (g.C.Children.device l.initial.rig.set)) (journals (g.C.Children.device l.rig.set)) [];
  silent : text_of l.pool.history ≡ text_of l.initial.pool.history;
  still : StandsStill l.initial.pool.core l.pool.core;
  phase : (r : Round) (over : Bool) → MayHold r over (phase_at l.initial.pool.history) → MayHold r over (phase_at l.pool.history);
  calls : SetGoesOn (g.C.Children.count l.initial.rig.set) (g.C.Children.count l.rig.set) (g.C.Children.device l.initial.rig.set) (g.C.Children.device l.rig.set);
}

abbrev pub decreases-loop : goal.decreases-loop
decreases-loop g l = length l.pool.core.scan.waiting
