use Rattle.std.proofs.Common.{◌≡◌, ℕ, length}
use Rattle.zs_mirror.specs.Mirror.{Untouched, Leaves}
use Rattle.zs_mirror.specs.Steps.{AreRead}
use Rattle.zs_mirror.proofs.checks.read_copies.Given as goal

abbrev pub invariant-loop-i : goal.invariant-loop-i
invariant-loop-i g l = record {
  letters : length l.letters ≡ 4;
  marks : length l.marks ≡ 4;
  leaves : Leaves l.first l.i (g.C.Children.count l.initial.set) (g.C.Children.count l.set) (g.C.Children.device l.initial.set) (g.C.Children.device l.set);
  read : AreRead l.online l.first l.i l.at (length l.initial.buf) l.sum l.good l.letters l.marks (g.C.Children.device l.initial.set) (g.C.Children.device l.set);
  unwritten : (e : ℕ) → Untouched (g.C.Children.device l.initial.set e) (g.C.Children.device l.set e);
}
