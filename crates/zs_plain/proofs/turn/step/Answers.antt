use Rattle.std.proofs.Common.{◌∙◌}
use Rattle.zs_plain.proofs.TurnDecides.{comes_from, only_step}
use Rattle.zs_plain.proofs.turn.step.Goals as goal

pub returns-clause-comes : goal.returns-clause-comes
returns-clause-comes c =
    comes_from c.args.g.now c.args.scope.now c.args.s.now c.next_step.result c.next_step.ensures

pub returns-clause-only : goal.returns-clause-only
returns-clause-only c =
    λ order step comes. c.next_step.ensures ∙ only_step c.args.g.now c.args.scope.now c.args.s.now order step comes
