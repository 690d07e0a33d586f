-- A batch that was taken flies, as the history tells.
use Rattle.std.proofs.Common.{◌+◌, ◌≤◌, ◌∙◌, ◌≡◌, vec_len, vec_capacity, arith, refl, sym, ap}
use Rattle.std.specs.Prelude.{List, map, false}
use Rattle.zs_ids.specs.declared.block.Piece.{Piece}
use Rattle.zs_scan.specs.declared.batch.Batch.{Batch}
use Rattle.zs_scan.specs.View.{pieces_in}
use Rattle.zs_core.specs.FlightTold.{flying_of}
use Rattle.zs_machine.specs.Flight.{with_batch}
use Rattle.zs_core.specs.Calls.{events_due}
use Rattle.zs_machine.proofs.Histories.{history_on, event_added}
use Rattle.zs_core.proofs.Due.{due_few}
use Rattle.zs_core.proofs.Flying.{fly_on, held_after}
use Rattle.zs_core.proofs.pool.Pool.hold.Goals as goal

room : (c : goal.After-note) → vec_len c.note.new.history + events_due c.self.inside.present.state.stage ≤ vec_capacity c.note.new.history
room c =
    let few = due_few c.self.inside.present.state.stage in
    let more = c.note.ensures.len in
    let same = c.note.ensures.capacity in
    let len = c.in_ok-reserve.ensures.len in
    let ok = c.in_ok-reserve.ensures.ok in
    omega arith

up : (c : goal.After-note) → c.self.inside.present.state.suspended ≡ false
up c = ap (λ v. v.core.state.suspended) c.self.view_is ∙ c.requires.up

-- the event has the batch's pieces
pieces : (c : goal.After-note) → c.set.new.self ≡ pieces_in c.in-Ok.batch.items
pieces c = c.set.ensures ∙ (c.from_vec.ensures ∙ (c.filled.ensures ∙ ap pieces_in c.as_slice.ensures))

pub invariant_of-self-2 : goal.invariant_of-self-2
invariant_of-self-2 c =
    let is = event_added _ _ _ _ c.note.ensures.items c.in_ok-reserve.ensures.items in (
      history_on c.self.inside.present.state c.take.new.self.state c.self.inside.history.items c.note.new.history.items _ is (c.self.invariant).0 (refl, up c, ap (λ (b : Batch). b.online) c.in-Ok.ensures.batch, c.in-Ok.ensures.state) tt,
      rw c.in-Ok.ensures.state (room c),
      fly_on c.self.inside.present.scan.flight c.take.new.self.scan.flight c.self.inside.history.items c.note.new.history.items _ is (c.self.invariant).2
          (held_after c.self.inside.present.scan c.take.new.self.scan c.in-Ok.batch c.in-Ok.ensures.taken c.in-Ok.ensures.none
          ∙ ap (λ (l : List Piece). with_batch (map flying_of c.self.inside.present.scan.flight) c.in-Ok.batch.number c.in-Ok.batch.online l) (sym (pieces c))),
    )
