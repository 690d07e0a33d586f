-- The parts that `format!` puts, grouped from the left.
use Rattle.std.proofs.Common.{rules, append_assoc}
use Rattle.zs_script.proofs.texts.made.Goals as goal

pub returns : goal.returns
returns c = simp append_assoc (search rules)
