use Rattle.std.proofs.Common.{◌∙◌, sym}
use Rattle.zs_label.proofs.Agreed.{lacks_on}
use Rattle.zs_label.proofs.choosing.lacks_mirror.Goals as goal

pub returns-then-not-has_mirror : goal.returns-then-not-has_mirror
returns-then-not-has_mirror c =
    sym (lacks_on c.args.width c.args.found.now c.loop-mirror.mirror c.args.mirrors c.loop-mirror-test.true (sym c.has_mirror.ensures ∙ c.if-not-has_mirror.true))
