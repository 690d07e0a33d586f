use Rattle.std.proofs.Common.{map, take}
use Rattle.zs_session.specs.Plays.{write_of}
use Rattle.zs_session.specs.Devices.{SetGoesOn, journals}
use Rattle.zs_session.specs.Writing.{GainsAll}
use Rattle.zs_session.proofs.write.put_each.Given as goal

abbrev pub invariant-loop-block : goal.invariant-loop-block
invariant-loop-block g l = record {
  put : GainsAll l.width (map write_of (take l.block-index l.blocks)) (journals (g.C.Children.device l.initial.set)) (journals (g.C.Children.device l.set));
  calls : SetGoesOn (g.C.Children.count l.initial.set) (g.C.Children.count l.set) (g.C.Children.device l.initial.set) (g.C.Children.device l.set);
}
