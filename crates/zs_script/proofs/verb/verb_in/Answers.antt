-- A word follows the first.
use Rattle.std.proofs.Common.{◌∙◌}
use Rattle.zs_script.proofs.VerbLemmas.{verb_more}
use Rattle.zs_script.proofs.verb.verb_in.Goals as goal

pub returns-in-len1-up : goal.returns-in-len1-up
returns-in-len1-up c = c.named_before.ensures ∙ verb_more c.args.words.now _ c.in-len1-up.len_at_least
