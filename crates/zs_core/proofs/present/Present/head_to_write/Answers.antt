-- The dataset of that name is the one with its id, and a head or not.
use Rattle.std.proofs.Common.{true, false}
use Rattle.zs_core.specs.Kept.{Facts}
use Rattle.zs_core.proofs.Named.{found_named, head_by}
use Rattle.zs_core.proofs.present.Present.head_to_write.Goals as goal

pub returns-then-not-is_head : goal.returns-then-not-is_head
returns-then-not-is_head c =
    let f : Facts c.self.inside = c.self.invariant in
    let found = found_named c.self.inside.graph.sets f.scan.covered.valid.graph.tree.in_order c.args.name.now c.in-Some.ds c.in-Some.ensures in
    rw (← c.self.view_is) (c.if-self.false, found.0, found.1, head_by c.self.inside.graph.sets c.in-Some.ds found.0 false found.2 c.if-not-is_head.ensures)

pub returns : goal.returns
returns c =
    let f : Facts c.self.inside = c.self.invariant in
    let found = found_named c.self.inside.graph.sets f.scan.covered.valid.graph.tree.in_order c.args.name.now c.in-Some.ds c.in-Some.ensures in
    rw (← c.self.view_is) (c.if-self.false, record { head = found.0; named = found.1; here = found.2; is_head = head_by c.self.inside.graph.sets c.in-Some.ds found.0 true found.2 c.if-not-is_head.ensures })
