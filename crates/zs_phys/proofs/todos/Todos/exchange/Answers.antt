use Rattle.std.proofs.Common.{arith, ◌<◌, length}
use Rattle.zs_phys.specs.Handlers.{exchanged}
use Rattle.zs_phys.proofs.Writes.{place_more}
use Rattle.zs_phys.proofs.todos.Todos.exchange.Goals as goal

pub loop-entry-preserved : goal.loop-entry-preserved
loop-entry-preserved c =
    let inside : c.loop-entry.entry-index < length c.loop-entry.entry-items = omega (arith, c.loop-entry-test.true, c.loop-entry.auto.entry-items, c.loop-entry.auto.entry-index-end) in
    let within : c.loop-entry.entry-index < length c.deref_mut-entry-items.result.now = omega (arith, c.loop-entry-test.true, c.loop-entry.auto.entry-items, c.loop-entry.auto.entry-index-end) in
    place_more (exchanged c.args.a c.args.b) c.deref_mut-entry-items.result.now c.loop-entry.entry-items c.loop-entry.entry-index _ _ within inside c.loop-entry.invariant c.exchanged-entry.ensures
