-- The lines so far, and those of the text that is left, are those of the whole text.
use Rattle.std.proofs.Common.{◌≡◌, ◌≤◌, ◌+◌, false, length}
use Rattle.std.specs.Option.{option_copied}
use Rattle.zs_script.specs.Reading.{lines_left, left, behind}
use Rattle.zs_script.specs.Script.{lines_of, lines_from}
use Rattle.zs_script.proofs.script.read_lines.Given as goal

abbrev pub invariant-loop-rest : goal.invariant-loop-rest
invariant-loop-rest l = record {
  read : behind l.lines.items (lines_from l.number l.begun (lines_left l.cut (option_copied l.rest))) ≡ lines_from 1 false (lines_of l.cut l.fn.text);
  room : l.number + left (option_copied l.rest) ≤ length l.fn.text + 2;
}

abbrev pub decreases-loop-rest : goal.decreases-loop-rest
decreases-loop-rest l = left (option_copied l.rest)
