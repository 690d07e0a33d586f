-- The chain cuts the line at its spaces, leaves empty parts out, and stops at the seventh word.
use Rattle.std.proofs.Common.{rules, ◌==◌, not, length}
use Rattle.std.proofs.lemmas.Iterator.{YieldsList-from_take}
use Rattle.std.proofs.lemmas.Iterator.Consumers.{map_from_collect, YieldsList-from_filter}
use Rattle.std.proofs.lemmas.Iterator.Splits.{YieldsList-from_slice_split}
use borrow.Author.Tests.{tests}
use Rattle.zs_script.proofs.script.words.Goals as goal

pub returns : goal.returns
returns c =
    map_from_collect _ c.collect.ensures.ran
    (YieldsList-from_take {s = c.take.result} 7
    (YieldsList-from_filter {s = c.take.result.iter} _ (λ w. not (length w == 0))
    (YieldsList-from_slice_split {s = c.take.result.iter.iter} _ (λ b. b == 32) c.args.line.now (search rules) (search rules) (search rules) (λ x b q k. search (rules, tests)))
    (search rules) (λ x b q k. search (rules, tests)))
    (search rules))
