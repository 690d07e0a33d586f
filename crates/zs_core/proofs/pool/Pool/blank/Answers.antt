-- The history begins with the pool's making.
use Rattle.std.proofs.Common.{sym, map}
use Rattle.zs_scan.specs.View.{ScanView}
use Rattle.zs_core.specs.FlightTold.{flying_of}
use Rattle.zs_machine.specs.Flight.{in_flight}
use Rattle.zs_core.specs.Calls.{events_due}
use Rattle.std.proofs.Common.{◌+◌, ◌≤◌, vec_len, vec_capacity, ◌≡◌, ◌∙◌, ap, refl, [], ◌*◌, ◌∷◌, arith}
use Rattle.zs_script.specs.declared.command.Command.TheVariants.{Pool}
use Rattle.zs_script.specs.declared.reply.Reply.TheVariants as reply
use Rattle.zs_machine.specs.declared.event.Step.TheVariants as step
use Rattle.zs_machine.specs.Steps.{blank_state}
use Rattle.zs_machine.proofs.Histories.{event_added}
use Rattle.zs_core.proofs.Due.{due_few}
use Rattle.zs_core.proofs.pool.Pool.blank.Goals as goal

room : (c : goal.After-note) → vec_len c.note.new.history + events_due c.in_ok-present.present.state.stage ≤ vec_capacity c.note.new.history
room c =
    let few = due_few c.in_ok-present.present.state.stage in
    let more = c.note.ensures.len in
    let same = c.note.ensures.capacity in
    let len = c.in_ok-reserve.ensures.len in
    let ok = c.in_ok-reserve.ensures.ok in
    let none = c.new-history.ensures.len in
    omega arith

-- the history has just the event of the pool's making
is : (c : goal.After-note) → c.note.new.history.items ≡ record { by = 0; step = step.Made (Pool c.args.shape.pool c.args.shape.width c.args.shape.limit c.args.shape.every c.args.shape.blocks); reply = reply.Made c.args.shape.pool 1 } ∷ []
is c = rw c.in_ok-line.ensures at (event_added _ _ [] _ c.note.ensures.items (c.in_ok-reserve.ensures.items ∙ c.new-history.ensures.items))

pub invariant_of-result : goal.invariant_of-result
invariant_of-result c =
    let one : c.args.shape.devices ≡ 1 * c.args.shape.width = let d = c.requires.devices in omega arith in (
      record {
        first = record { by = 0; step = step.Made (Pool c.args.shape.pool c.args.shape.width c.args.shape.limit c.args.shape.every c.args.shape.blocks); reply = reply.Made c.args.shape.pool 1 };
        others = [];
        is = is c;
        start = c.in_ok-present.present.state;
        begins = (refl, c.in_ok-present.ensures.state ∙ ap (blank_state c.args.shape.width) one);
        kept = c.in_ok-present.present.state;
        run = refl;
        told = rw (is c) (tt, tt);
      },
      room c,
      record { are = ap (λ (v : ScanView). map flying_of v.flight) c.in_ok-present.ensures.scan ∙ sym (ap in_flight (is c)) },
    )
