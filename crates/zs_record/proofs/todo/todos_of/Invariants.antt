use Rattle.std.proofs.Common.{[]}
use Rattle.zs_record.specs.Todo.{todos_of}
use Rattle.zs_record.proofs.Todos.{IsQueueing}
use Rattle.zs_record.proofs.todo.todos_of.Given as goal

abbrev pub invariant-loop : goal.invariant-loop
invariant-loop l = IsQueueing l.todos.items l.ids.keys l.count l.counter l.rest (todos_of l.count [] l.bytes)
