-- What is put so far, and then the lines of the tasks that are left, is what was there and all the lines.
use Rattle.std.proofs.Common.{◌≡◌, ◌++◌, ◌+◌, drop}
use Rattle.zs_script.specs.Texts.{task_lines}
use Rattle.zs_script.proofs.texts.push_tasks.Given as goal

abbrev pub invariant-loop-i : goal.invariant-loop-i
invariant-loop-i l = l.out.items ++ task_lines (l.i + 1) (drop l.i l.tasks) ≡ l.fn.out.items ++ task_lines 1 l.tasks
