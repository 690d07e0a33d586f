-- A batch that had its verdict is no longer in flight, as the history tells.
use Rattle.std.proofs.Common.{◌+◌, ◌≤◌, ◌∙◌, ◌≡◌, vec_len, vec_capacity, arith, refl, sym, ap, subst}
use Rattle.std.specs.Prelude.{List, map, Some}
use Rattle.zs_ids.specs.declared.block.Piece.{Piece}
use Rattle.zs_ledger.specs.declared.entry.Entry.{Entry}
use Rattle.zs_core.specs.FlightTold.{flying_of}
use Rattle.zs_machine.specs.Flight.{landed, in_flight, IsOfFlight}
use Rattle.zs_machine.specs.Steps.{VerdictStep}
use Rattle.zs_core.specs.Judging.{IsJudged}
use Rattle.zs_core.specs.Calls.{events_due}
use Rattle.zs_machine.proofs.Histories.{history_on, event_added}
use Rattle.zs_core.proofs.Due.{due_few}
use Rattle.zs_core.proofs.Flying.{fly_on, is_of_flight, judged_after}
use Rattle.zs_core.proofs.pool.Pool.verdict.Goals as goal

room : (c : goal.After-note-2) → vec_len c.note-2.new.history + events_due c.self.inside.present.state.stage ≤ vec_capacity c.note-2.new.history
room c =
    let few = due_few c.self.inside.present.state.stage in
    let more = c.note-2.ensures.len in
    let same = c.note-2.ensures.capacity in
    let len = c.in_ok-reserve.ensures.len in
    let ok = c.in_ok-reserve.ensures.ok in
    omega arith

-- the event has the pieces of the entries
pieces : (c : goal.After-note-2) → c.set.new.self ≡ map (λ (e : Entry). e.piece) c.args.v.now.entries
pieces c = c.set.ensures ∙ (c.from_vec.ensures ∙ (c.pieces_judged.ensures ∙ ap (λ (es : List Entry). map (λ (e : Entry). e.piece) es) c.as_slice-2.ensures))

judged : (c : goal.After-note-2) → IsJudged c.self.inside.present.scan c.args.v.now.number c.args.v.now.entries (Some c.in-Some.made.items) c.verdict.new.self.scan
judged c = rw (c.in-Some.is, c.as_slice.ensures) at c.in_ok-made.ensures.judged

-- the machine takes the entries
steps : (c : goal.After-note-2) → VerdictStep c.self.inside.present.state c.set-2.new.self c.verdict.new.self.state
steps c =
    let made : VerdictStep c.self.inside.present.state c.in-Some.made.items c.verdict.new.self.state = rw c.in-Some.is at c.in_ok-made.ensures.step in
    subst (λ (es : List Entry). VerdictStep c.self.inside.present.state es c.verdict.new.self.state) (sym (c.set-2.ensures ∙ c.from_vec-2.ensures)) made

-- the batch was in flight
of_flight : (c : goal.After-note-2) → IsOfFlight (in_flight c.self.inside.history.items) c.args.v.now.number c.set.new.self c.set-2.new.self
of_flight c =
    subst (λ (ps : List Piece). IsOfFlight (in_flight c.self.inside.history.items) c.args.v.now.number ps c.set-2.new.self) (sym (pieces c))
    (is_of_flight c.self.inside.present.scan.flight c.self.inside.history.items c.self.inside.present.scan c.args.v.now.number c.args.v.now.entries c.set-2.new.self refl (c.self.invariant).2 (judged c).0)

pub invariant_of-self-2 : goal.invariant_of-self-2
invariant_of-self-2 c =
    let is = event_added _ _ _ _ c.note-2.ensures.items c.in_ok-reserve.ensures.items in (
      history_on c.self.inside.present.state c.verdict.new.self.state c.self.inside.history.items c.note-2.new.history.items _ is (c.self.invariant).0 (refl, steps c) (of_flight c),
      rw c.in_ok-made.ensures.stage (room c),
      fly_on c.self.inside.present.scan.flight c.verdict.new.self.scan.flight c.self.inside.history.items c.note-2.new.history.items _ is (c.self.invariant).2
          (judged_after c.self.inside.present.scan c.verdict.new.self.scan c.self.inside.history.items c.args.v.now.number c.args.v.now.entries (c.self.invariant).2 (judged c).0 (judged c).2
          ∙ ap (λ (l : List Piece). landed (map flying_of c.self.inside.present.scan.flight) c.args.v.now.number l) (sym (pieces c))),
    )
