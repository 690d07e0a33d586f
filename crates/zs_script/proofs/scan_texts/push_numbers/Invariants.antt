-- What is put so far, and then the numbers that are left, is what was there and all the numbers.
use Rattle.std.proofs.Common.{◌≡◌, ◌++◌, drop}
use Rattle.std.specs.List.{flat_map}
use Rattle.zs_script.specs.Texts.{word_of}
use Rattle.zs_script.proofs.scan_texts.push_numbers.Given as goal

abbrev pub invariant-loop-number : goal.invariant-loop-number
invariant-loop-number l = l.out.items ++ flat_map word_of (drop l.number-index l.numbers) ≡ l.fn.out.items ++ flat_map word_of l.numbers
