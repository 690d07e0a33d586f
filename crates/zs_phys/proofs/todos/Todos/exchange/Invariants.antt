use Rattle.std.proofs.Common.{◌≡◌, ◌++◌, drop, take, map}
use Rattle.zs_phys.specs.Handlers.{entry_at, exchanged}
use Rattle.zs_phys.proofs.todos.Todos.exchange.Given as goal

abbrev pub invariant-loop-entry : goal.invariant-loop-entry
invariant-loop-entry l =
    l.entry-items ≡ map (entry_at (exchanged l.a l.b)) (take l.entry-index l.initial.entry-items) ++ drop l.entry-index l.initial.entry-items
