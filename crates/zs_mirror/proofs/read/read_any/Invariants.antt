use Rattle.std.proofs.Common.{◌≡◌, ℕ, length}
use Rattle.zs_mirror.specs.Mirror.{Untouched, Leaves}
use Rattle.zs_mirror.specs.Calls.{AreLost}
use Rattle.zs_mirror.proofs.read.read_any.Given as goal

abbrev pub invariant-loop-i : goal.invariant-loop-i
invariant-loop-i g l = record {
  long : length l.places ≡ 12;
  leaves : Leaves l.first l.i (g.C.Children.count l.initial.set) (g.C.Children.count l.set) (g.C.Children.device l.initial.set) (g.C.Children.device l.set);
  lost : AreLost l.online l.first l.i l.at (length l.initial.buf) l.item.sum l.places (g.C.Children.device l.initial.set) (g.C.Children.device l.set);
  unwritten : (e : ℕ) → Untouched (g.C.Children.device l.initial.set e) (g.C.Children.device l.set e);
}
