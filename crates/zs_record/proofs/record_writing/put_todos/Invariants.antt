use Rattle.std.proofs.Common.{◌≡◌, ◌++◌, take}
use Rattle.std.specs.List.{flat_map}
use Rattle.zs_record.specs.StoredSpelling.{todo_bytes}
use Rattle.zs_record.proofs.record_writing.put_todos.Given as goal

abbrev pub invariant-loop-todo : goal.invariant-loop-todo
invariant-loop-todo l = l.out.items ≡ l.initial.out.items ++ flat_map todo_bytes (take l.todo-index l.todos)
