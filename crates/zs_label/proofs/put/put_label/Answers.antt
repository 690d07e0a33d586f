use Rattle.std.proofs.Common.{◌++◌, refl}
use Rattle.zs_label.specs.Layout.{slot_of}
use Rattle.zs_label.specs.Slots.{close_steps, fill_steps, open_steps}
use Rattle.zs_label.proofs.Making.{done_both, stopped_first, stopped_then}
use Rattle.zs_label.proofs.Puts.{handed, told_now, gate_else, fill_else, else_twice, three_close, three_fill, three_open}
use Rattle.zs_lane.proofs.GoingOn.{goes_on_twice}
use Rattle.zs_label.proofs.put.put_label.Goals as goal

pub returns-in_err-close_slot-clause-made : goal.returns-in_err-close_slot-clause-made
returns-in_err-close_slot-clause-made g c = handed _ c.from_residual.result _ _ _ c.from_residual.ensures.1
    (stopped_first (close_steps (slot_of c.args.label.now.txg)) (fill_steps c.args.label.now c.args.rec.now ++ open_steps (slot_of c.args.label.now.txg)) _ _ _
    c.in_err-close_slot.ensures.made)

pub returns-in_err-close_slot-clause-leaves : goal.returns-in_err-close_slot-clause-leaves
returns-in_err-close_slot-clause-leaves g c = gate_else c.args.label.now c.args.rec.now 0 _ _ c.close_slot.ensures.leaves

pub returns-in_err-close_slot-clause-slot : goal.returns-in_err-close_slot-clause-slot
returns-in_err-close_slot-clause-slot g c x is = three_close c.args.label.now c.args.rec.now _ _ c.close_slot.ensures.leaves

pub returns-in_err-fill_slot-clause-made : goal.returns-in_err-fill_slot-clause-made
returns-in_err-fill_slot-clause-made g c = handed _ c.from_residual-in_err-fill_slot.result _ _ _ c.from_residual-in_err-fill_slot.ensures.1
    (stopped_then (close_steps (slot_of c.args.label.now.txg)) (fill_steps c.args.label.now c.args.rec.now ++ open_steps (slot_of c.args.label.now.txg)) _ _ _ _ _
    c.in_ok-close_slot.ensures.made
    (stopped_first (fill_steps c.args.label.now c.args.rec.now) (open_steps (slot_of c.args.label.now.txg)) _ _ _ c.in_err-fill_slot.ensures.made))

pub returns-in_err-fill_slot-clause-leaves : goal.returns-in_err-fill_slot-clause-leaves
returns-in_err-fill_slot-clause-leaves g c = else_twice c.args.label.now c.args.rec.now _ _ _
    (gate_else c.args.label.now c.args.rec.now 0 _ _ c.close_slot.ensures.leaves)
    (fill_else c.args.label.now c.args.rec.now _ _ c.fill_slot.ensures.leaves)

pub returns-in_err-fill_slot-clause-slot : goal.returns-in_err-fill_slot-clause-slot
returns-in_err-fill_slot-clause-slot g c x is = three_fill c.args.label.now c.args.rec.now _ _ _
    (three_close c.args.label.now c.args.rec.now _ _ c.close_slot.ensures.leaves)
    (c.fill_slot.ensures.closed (c.in_ok-close_slot.ensures.closed x is))

pub returns-in_err-fill_slot-clause-goes_on : goal.returns-in_err-fill_slot-clause-goes_on
returns-in_err-fill_slot-clause-goes_on g c = goes_on_twice _ _ _ c.close_slot.ensures.goes_on c.fill_slot.ensures.goes_on

pub returns-in_err-place-clause-made : goal.returns-in_err-place-clause-made
returns-in_err-place-clause-made g c = handed _ c.from_residual-in_err-place.result _ _ _ c.from_residual-in_err-place.ensures.1
    (stopped_then (close_steps (slot_of c.args.label.now.txg) ++ fill_steps c.args.label.now c.args.rec.now) (open_steps (slot_of c.args.label.now.txg)) _ _ _ _ _
    (done_both (close_steps (slot_of c.args.label.now.txg)) (fill_steps c.args.label.now c.args.rec.now) _ _ _ _ _ c.in_ok-close_slot.ensures.made c.in_ok-fill_slot.ensures.made)
    c.in_err-place.ensures.made)

pub returns-in_err-place-clause-leaves : goal.returns-in_err-place-clause-leaves
returns-in_err-place-clause-leaves g c = else_twice c.args.label.now c.args.rec.now _ _ _
    (else_twice c.args.label.now c.args.rec.now _ _ _
    (gate_else c.args.label.now c.args.rec.now 0 _ _ c.close_slot.ensures.leaves)
    (fill_else c.args.label.now c.args.rec.now _ _ c.fill_slot.ensures.leaves))
    (gate_else c.args.label.now c.args.rec.now 1 _ _ c.open_slot.ensures.leaves)

pub returns-in_err-place-clause-slot : goal.returns-in_err-place-clause-slot
returns-in_err-place-clause-slot g c x is = three_open c.args.label.now c.args.rec.now _ _ _
    (three_fill c.args.label.now c.args.rec.now _ _ _
    (three_close c.args.label.now c.args.rec.now _ _ c.close_slot.ensures.leaves)
    (c.fill_slot.ensures.closed (c.in_ok-close_slot.ensures.closed x is)))
    (λ m left. ((c.fill_slot.ensures.closed (c.in_ok-close_slot.ensures.closed x is)).now m left).2)
    (c.in_ok-fill_slot.ensures.filled _ (told_now _ _ _ _ x c.in_ok-close_slot.ensures.made is))
    c.open_slot.ensures.leaves

pub returns-in_err-place-clause-goes_on : goal.returns-in_err-place-clause-goes_on
returns-in_err-place-clause-goes_on g c =
    goes_on_twice _ _ _ (goes_on_twice _ _ _ c.close_slot.ensures.goes_on c.fill_slot.ensures.goes_on) c.open_slot.ensures.goes_on

pub returns-clause-made : goal.returns-clause-made
returns-clause-made g c =
    done_both (close_steps (slot_of c.args.label.now.txg) ++ fill_steps c.args.label.now c.args.rec.now) (open_steps (slot_of c.args.label.now.txg)) _ _ _ _ _
    (done_both (close_steps (slot_of c.args.label.now.txg)) (fill_steps c.args.label.now c.args.rec.now) _ _ _ _ _ c.in_ok-close_slot.ensures.made c.in_ok-fill_slot.ensures.made)
    c.in_ok-place.ensures.made

pub returns-clause-leaves : goal.returns-clause-leaves
returns-clause-leaves g c = else_twice c.args.label.now c.args.rec.now _ _ _
    (else_twice c.args.label.now c.args.rec.now _ _ _
    (gate_else c.args.label.now c.args.rec.now 0 _ _ c.close_slot.ensures.leaves)
    (fill_else c.args.label.now c.args.rec.now _ _ c.fill_slot.ensures.leaves))
    (gate_else c.args.label.now c.args.rec.now 1 _ _ c.open_slot.ensures.leaves)

pub returns-clause-slot : goal.returns-clause-slot
returns-clause-slot g c x is = three_open c.args.label.now c.args.rec.now _ _ _
    (three_fill c.args.label.now c.args.rec.now _ _ _
    (three_close c.args.label.now c.args.rec.now _ _ c.close_slot.ensures.leaves)
    (c.fill_slot.ensures.closed (c.in_ok-close_slot.ensures.closed x is)))
    (λ m left. ((c.fill_slot.ensures.closed (c.in_ok-close_slot.ensures.closed x is)).now m left).2)
    (c.in_ok-fill_slot.ensures.filled _ (told_now _ _ _ _ x c.in_ok-close_slot.ensures.made is))
    c.open_slot.ensures.leaves

pub returns-clause-held : goal.returns-clause-held
returns-clause-held g c x is = let mid = told_now _ _ _ _ x c.in_ok-close_slot.ensures.made is in
    c.in_ok-place.ensures.opened c.args.label.now c.args.rec.now refl (c.in_ok-fill_slot.ensures.filled _ mid) _ (told_now _ _ _ _ _ c.in_ok-fill_slot.ensures.made mid)

pub returns-clause-goes_on : goal.returns-clause-goes_on
returns-clause-goes_on g c =
    goes_on_twice _ _ _ (goes_on_twice _ _ _ c.close_slot.ensures.goes_on c.fill_slot.ensures.goes_on) c.open_slot.ensures.goes_on
