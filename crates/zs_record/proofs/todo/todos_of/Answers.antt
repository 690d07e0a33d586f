use Rattle.std.proofs.Common.{[]}
use Rattle.std.proofs.lemmas.Result.{err_from_is_err_and}
use Rattle.zs_record.specs.Todo.{todos_of}
use Rattle.zs_record.proofs.Todos.{goes_on_queueing, ends_queueing, is_queued}
use Rattle.zs_record.proofs.todo.todos_of.Goals as goal

pub returns-in_err-todo : goal.returns-in_err-todo
returns-in_err-todo c =
    let p = err_from_is_err_and c.from_residual.result c.from_residual.ensures.1 in
    rw (p.1, p.2) (ends_queueing c.loop.todos.items c.loop.ids.keys c.args.count c.loop.counter c.loop.rest.now (todos_of c.args.count [] c.args.bytes.now)
    c.in_err-todo.field-0.0 c.loop-test.true c.in_err-todo.ensures.read c.loop.invariant)

pub loop-preserved : goal.loop-preserved
loop-preserved c =
    rw c.in_ok-push.ensures.items (goes_on_queueing c.loop.todos.items c.loop.ids.keys c.todo_outside.new.ids.keys c.args.count c.loop.counter c.loop.rest.now
    (todos_of c.args.count [] c.args.bytes.now) c.in_ok-todo.todo c.in_ok-todo.after.now c.loop-test.true c.in_ok-todo.ensures.read c.in_ok-todo.ensures.joined c.loop.invariant)

pub returns : goal.returns
returns c = is_queued c.loop.todos.items c.loop.ids.keys c.args.count c.loop.counter c.loop.rest.now (todos_of c.args.count [] c.args.bytes.now) c.loop-test.false c.loop.invariant
