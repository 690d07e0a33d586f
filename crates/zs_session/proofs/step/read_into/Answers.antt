use Rattle.std.proofs.Common.{◌≡◌, length, arith}
use Rattle.std.proofs.lemmas.Grind.{common_steps}
use Rattle.zs_session.proofs.Scripts.{all_read, enough_read}
use Rattle.zs_session.proofs.step.read_into.Goals as goal

pub returns-then-count-eq0-clause-script : goal.returns-then-count-eq0-clause-script
returns-then-count-eq0-clause-script g c =
    all_read (g.S.Source.left c.args.src.now) (g.S.Source.left c.loop-script.src) c.loop-script.script.items c.loop-script.invariant.left
    (c.in-Ok.ensures.end c.if-count-eq0.true (grind (arith, common_steps))) c.loop-script.invariant.most

pub returns-clause-script : goal.returns-clause-script
returns-clause-script g c =
    let full : length c.loop-script.script.items ≡ 16777217 = omega (arith, c.loop-script.invariant.most) in
    enough_read (g.S.Source.left c.args.src.now) (g.S.Source.left c.loop-script.src) c.loop-script.script.items c.loop-script.invariant.left full
