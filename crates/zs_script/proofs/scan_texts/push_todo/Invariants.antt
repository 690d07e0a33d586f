-- What is put so far, and then the entries that are left, is what was there and all the entries.
use Rattle.std.proofs.Common.{◌≡◌, ◌++◌, drop}
use Rattle.std.specs.List.{flat_map}
use Rattle.zs_script.specs.Texts.{todo_text}
use Rattle.zs_script.proofs.scan_texts.push_todo.Given as goal

abbrev pub invariant-loop-entry : goal.invariant-loop-entry
invariant-loop-entry l = l.out.items ++ flat_map todo_text (drop l.entry-index l.todo) ≡ l.fn.out.items ++ flat_map todo_text l.todo
