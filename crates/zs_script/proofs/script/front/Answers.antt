-- As many bytes as there are, and no more than a script may have.
use Rattle.std.proofs.lemmas.List.{take_min}
use Rattle.zs_ids.specs.declared.limits.TheConstants.{SCRIPT_BYTES}
use Rattle.zs_script.proofs.script.front.Goals as goal

pub returns-clause-value : goal.returns-clause-value
returns-clause-value c = rw c.min-len.ensures (take_min SCRIPT_BYTES c.args.bytes.now)
