use Rattle.std.proofs.Common.{◌≡◌, length}
use Rattle.zs_session.specs.Devices.{SetGoesOn, journals}
use Rattle.zs_session.specs.Writing.{SyncsFirst}
use Rattle.zs_session.proofs.write.sync_each.Given as goal

abbrev pub invariant-loop-dev : goal.invariant-loop-dev
invariant-loop-dev g l = record {
  long : length l.marks.places ≡ 16;
  none : l.marks.failed ≡ 0;
  synced : SyncsFirst l.dev l.marks.places (journals (g.C.Children.device l.initial.set)) (journals (g.C.Children.device l.set));
  calls : SetGoesOn (g.C.Children.count l.initial.set) (g.C.Children.count l.set) (g.C.Children.device l.initial.set) (g.C.Children.device l.set);
}
