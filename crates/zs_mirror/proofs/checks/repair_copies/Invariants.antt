use Rattle.std.proofs.Common.{◌≡◌, length}
use Rattle.zs_mirror.specs.Mirror.{Leaves}
use Rattle.zs_mirror.specs.Steps.{AreRepaired}
use Rattle.zs_mirror.proofs.checks.repair_copies.Given as goal

abbrev pub invariant-loop-i : goal.invariant-loop-i
invariant-loop-i g l = record {
  letters : length l.letters ≡ 4;
  marks : length l.marks ≡ 4;
  leaves : Leaves l.first l.i (g.C.Children.count l.initial.set) (g.C.Children.count l.set) (g.C.Children.device l.initial.set) (g.C.Children.device l.set);
  repaired : AreRepaired l.first l.i l.at (length l.good) l.sum l.good l.copies.letters l.copies.marks l.letters l.marks (g.C.Children.device l.initial.set) (g.C.Children.device l.set);
}
