use Rattle.std.proofs.Common.{◌≡◌, ◌≤◌, ◌-◌, ◌++◌, length, option_map}
use Rattle.zs_session.proofs.step.read_into.Given as goal

abbrev pub invariant-loop-script : goal.invariant-loop-script
invariant-loop-script g l = record {
  left : g.S.Source.left l.fn.src ≡ option_map (λ rest. l.script.items ++ rest) (g.S.Source.left l.src);
  faults : g.S.Source.faults l.src ≡ g.S.Source.faults l.fn.src;
  most : length l.script.items ≤ 16777217;
}

abbrev pub decreases-loop-script : goal.decreases-loop-script
decreases-loop-script g l = 16777217 - length l.script.items
