use Rattle.std.proofs.Common.{◌≡◌, length}
use Rattle.zs_mirror.specs.Mirror.{Leaves}
use Rattle.zs_mirror.specs.Calls.{AreWritten}
use Rattle.zs_mirror.proofs.write.write_block.Given as goal

abbrev pub invariant-loop-i : goal.invariant-loop-i
invariant-loop-i g l = record {
  long : length l.places ≡ 16;
  leaves : Leaves l.first l.i (g.C.Children.count l.initial.set) (g.C.Children.count l.set) (g.C.Children.device l.initial.set) (g.C.Children.device l.set);
  written : AreWritten l.online l.first l.i l.at l.bytes l.failed l.places (g.C.Children.device l.initial.set) (g.C.Children.device l.set);
}
