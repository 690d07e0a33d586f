-- The letters so far are put.
use Rattle.std.proofs.Common.{◌≡◌, ◌++◌, take}
use Rattle.zs_script.specs.Texts.{letters_text}
use Rattle.zs_script.proofs.scan_texts.push_letters.Given as goal

abbrev pub invariant-loop-letter : goal.invariant-loop-letter
invariant-loop-letter l = l.out.items ≡ l.fn.out.items ++ letters_text (take l.letter-index l.letters)
