use Rattle.zs_label.specs.Looks.{SoFar}
use Rattle.zs_label.proofs.images.read_all.Given as goal

abbrev pub invariant-loop-dev : goal.invariant-loop-dev
invariant-loop-dev g l = SoFar l.dev l.found.items l.other (g.C.Children.count l.initial.set) (g.C.Children.count l.set) (g.C.Children.device l.initial.set) (g.C.Children.device l.set)
