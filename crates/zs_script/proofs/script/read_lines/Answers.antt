-- Where no text is left, the lines so far are all.
use Rattle.std.proofs.Common.{sym, ◌∙◌, ap}
use Rattle.std.specs.Option.{option_copied}
use Rattle.zs_script.proofs.ScriptLemmas.{nothing_left}
use Rattle.zs_script.proofs.script.read_lines.Goals as goal

pub returns : goal.returns
returns c =
    sym c.loop-rest.invariant.read
    ∙ nothing_left c.args.cut c.loop-rest.lines.items c.loop-rest.number c.loop-rest.begun (option_copied c.loop-rest.rest) (ap option_copied c.in_default.is)
