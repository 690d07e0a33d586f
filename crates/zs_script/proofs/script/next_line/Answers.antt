-- The text is cut around its first line feed.
use Rattle.std.proofs.Common.{ℕ, ◌+◌, sym}
use Rattle.std.proofs.lemmas.List.{take_rest}
use Rattle.zs_script.proofs.ScriptLemmas.{first_line}
use Rattle.zs_script.proofs.script.next_line.Goals as goal

pub returns-in-Some-clause-lines : goal.returns-in-Some-clause-lines
returns-in-Some-clause-lines c =
    rw (c.without_return.ensures, take_rest {X = ℕ} c.args.text.now (c.in-Some.end + 1))
    (first_line c.args.cut c.args.text.now c.in-Some.end (sym c.in-Some.ensures.first))
