use Rattle.std.proofs.Common.{◌≡◌, [], length}
use Rattle.zs_machine.specs.History.{text_of}
use Rattle.zs_session.specs.Batches.{HasLanded}
use Rattle.zs_session.specs.Plays.{Went}
use Rattle.zs_session.specs.Session.{IsUp}
use Rattle.zs_session.specs.Devices.{AreDevicesOf, SetGoesOn, journals}
use Rattle.zs_session.proofs.landing.land_each.Given as goal

abbrev pub invariant-loop-more : goal.invariant-loop-more
invariant-loop-more g l = record {
  up : IsUp l.pool;
  goes_on : Went l.initial.pool l.pool (journals (g.C.Children.device l.initial.rig.set)) (journals (g.C.Children.device l.rig.set)) [];
  silent : text_of l.pool.history ≡ text_of l.initial.pool.history;
  landed : HasLanded l.pool l.made l.landed.items;
  devices : AreDevicesOf l.pool.core.shape (g.C.Children.count l.rig.set) (g.C.Children.device l.rig.set);
  calls : SetGoesOn (g.C.Children.count l.initial.rig.set) (g.C.Children.count l.rig.set) (g.C.Children.device l.initial.rig.set) (g.C.Children.device l.rig.set);
}

abbrev pub decreases-loop-more : goal.decreases-loop-more
decreases-loop-more g l = length l.pool.core.scan.flight
