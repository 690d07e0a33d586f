-- A line goes on with the history: its reply is one that the machine allows, and tells of the events before it.
use Rattle.zs_core.specs.Calls.{events_due}
use Rattle.std.proofs.Common.{◌+◌, ◌≤◌, vec_len, vec_capacity, arith, refl}
use Rattle.zs_machine.proofs.Histories.{history_on, event_added}
use Rattle.zs_core.proofs.Due.{due_few}
use Rattle.zs_core.proofs.Flying.{fly_still}
use Rattle.zs_core.proofs.pool.Pool.line.Goals as goal

room : (c : goal.After-note) → vec_len c.note.new.history + events_due c.self.inside.present.state.stage ≤ vec_capacity c.note.new.history
room c =
    let few = due_few c.self.inside.present.state.stage in
    let more = c.note.ensures.len in
    let same = c.note.ensures.capacity in
    let len = c.in_ok-reserve.ensures.len in
    let ok = c.in_ok-reserve.ensures.ok in
    omega arith

pub invariant_of-self-2 : goal.invariant_of-self-2
invariant_of-self-2 c =
    let is = event_added _ _ _ _ c.note.ensures.items c.in_ok-reserve.ensures.items in
    let asked = rw (← c.self.view_is, ← c.in_ok-line.ensures) at c.requires in (
      history_on c.self.inside.present.state c.self.inside.present.state c.self.inside.history.items c.note.new.history.items _ is (c.self.invariant).0 (asked.step, refl) (asked.told, asked.none),
      room c,
      fly_still c.self.inside.present.scan.flight c.self.inside.present.scan.flight c.self.inside.history.items c.note.new.history.items _ is (c.self.invariant).2 refl refl,
    )
