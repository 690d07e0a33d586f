-- The words from the eighth on make no difference.
use Rattle.std.proofs.Common.{rules, ap, map, ◌∙◌}
use borrow.Author.Tests.{tests}
use Rattle.zs_script.specs.Script.{at_line}
use Rattle.zs_script.proofs.ScriptLemmas.{gives_itself, text_commands}
use Rattle.zs_script.proofs.script.read_command.Goals as goal

pub returns : goal.returns
returns c =
    gives_itself _ _
    (c.found_at.ensures ∙ ap (at_line c.args.number) c.command_of_words-command.ensures
    ∙ text_commands c.args.number c.args.begun c.args.line.now _ (search (rules, tests)) (ap (map (λ w. w.now)) c.deref.ensures.value ∙ c.in_ok-words.ensures))
