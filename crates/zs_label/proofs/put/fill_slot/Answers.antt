use Rattle.std.proofs.Common.{[], ◌∷◌, ap, sym, arith}
use Rattle.zs_io.specs.Told.{Torn}
use Rattle.zs_label.specs.Steps.Step.{Write, Sync}
use Rattle.zs_label.proofs.Making.{done_write, done_both, stopped_first, stopped_then, stopped_one}
use Rattle.zs_label.proofs.Moments.{leaves_one}
use Rattle.zs_label.proofs.Puts.{handed, fits_record, leaves_record, leaves_fill, closed_on, filled_now}
use Rattle.zs_lane.proofs.GoingOn.{goes_on_twice}
use Rattle.zs_label.proofs.put.fill_slot.Goals as goal

pub write-requires-clause-range : goal.write-requires-clause-range
write-requires-clause-range g c = rw c.record_at.ensures (fits_record c.args.dev c.args.rec.now (g.C.Children.device c.args.set.now c.args.dev) c.args.label.now c.requires.label)

pub returns-in_err-write-clause-made : goal.returns-in_err-write-clause-made
returns-in_err-write-clause-made g c = rw (sym c.record_at.ensures)
    (handed _ c.from_residual.result _ _ _ c.from_residual.ensures.1
    (stopped_first (Write c.record_at.result c.args.rec.now ∷ []) (Write _ _ ∷ Sync ∷ []) _ _ _
    (stopped_one (Write c.record_at.result c.args.rec.now) _ (g.C.Children.device c.args.set.now c.args.dev) (g.C.Children.device c.write.new.self c.args.dev)
    c.in_err-write.ensures.call.err (λ is. ap (λ s. (g.C.Children.device s c.args.dev).told) (c.in_err-write.ensures.memory is)) c.in_err-write.ensures.written.torn
    c.in_err-write.ensures.call.cause)))

pub returns-in_err-write-clause-leaves : goal.returns-in_err-write-clause-leaves
returns-in_err-write-clause-leaves g c =
    leaves_record c.args.label.now c.args.rec.now (g.C.Children.device c.args.set.now c.args.dev) (g.C.Children.device c.write.new.self c.args.dev)
    (rw (sym c.record_at.ensures) (leaves_one (Torn c.record_at.result c.args.rec.now) _ _ c.write.ensures.call.time c.write.ensures.written.crash))

pub returns-in_err-write-clause-closed : goal.returns-in_err-write-clause-closed
returns-in_err-write-clause-closed g c closed =
    closed_on c.args.label.now c.args.rec.now (g.C.Children.device c.args.set.now c.args.dev) (g.C.Children.device c.write.new.self c.args.dev)
    (leaves_record c.args.label.now c.args.rec.now (g.C.Children.device c.args.set.now c.args.dev) (g.C.Children.device c.write.new.self c.args.dev)
    (rw (sym c.record_at.ensures) (leaves_one (Torn c.record_at.result c.args.rec.now) _ _ c.write.ensures.call.time c.write.ensures.written.crash)))
    closed

pub returns-in_err-place-clause-made : goal.returns-in_err-place-clause-made
returns-in_err-place-clause-made g c = rw (sym c.record_at.ensures, sym c.body_at.ensures, sym c.label_write-body.ensures.bytes)
    (handed _ c.from_residual-in_err-place.result _ _ _ c.from_residual-in_err-place.ensures.1
    (stopped_then (Write c.record_at.result c.args.rec.now ∷ []) (Write c.body_at.result c.label_write-body.result ∷ Sync ∷ []) _ _ (g.C.Children.device c.args.set.now c.args.dev)
    (g.C.Children.device c.write.new.self c.args.dev) (g.C.Children.device c.write_synced.new.set c.args.dev)
    (done_write c.record_at.result c.args.rec.now _ _ _ c.in_ok-write.ensures.place c.in_ok-write.ensures.mark c.in_ok-write.ensures.written.done c.in_ok-write.ensures.call.cause.ok)
    c.in_err-place.ensures.made))

pub returns-in_err-place-clause-leaves : goal.returns-in_err-place-clause-leaves
returns-in_err-place-clause-leaves g c =
    leaves_fill c.args.label.now c.args.rec.now c.label_write-body.result (g.C.Children.device c.args.set.now c.args.dev) (g.C.Children.device c.write.new.self c.args.dev)
    (g.C.Children.device c.write_synced.new.set c.args.dev) (rw c.label_write-body.ensures.bytes c.label_write-body.ensures.long)
    (rw (sym c.record_at.ensures) (leaves_one (Torn c.record_at.result c.args.rec.now) _ _ c.write.ensures.call.time c.write.ensures.written.crash))
    (rw (sym c.body_at.ensures) c.write_synced.ensures.leaves)

pub returns-in_err-place-clause-closed : goal.returns-in_err-place-clause-closed
returns-in_err-place-clause-closed g c closed =
    closed_on c.args.label.now c.args.rec.now (g.C.Children.device c.args.set.now c.args.dev) (g.C.Children.device c.write_synced.new.set c.args.dev)
    (leaves_fill c.args.label.now c.args.rec.now c.label_write-body.result (g.C.Children.device c.args.set.now c.args.dev) (g.C.Children.device c.write.new.self c.args.dev)
    (g.C.Children.device c.write_synced.new.set c.args.dev) (rw c.label_write-body.ensures.bytes c.label_write-body.ensures.long)
    (rw (sym c.record_at.ensures) (leaves_one (Torn c.record_at.result c.args.rec.now) _ _ c.write.ensures.call.time c.write.ensures.written.crash))
    (rw (sym c.body_at.ensures) c.write_synced.ensures.leaves))
    closed

pub returns-in_err-place-clause-goes_on : goal.returns-in_err-place-clause-goes_on
returns-in_err-place-clause-goes_on g c =
    goes_on_twice (g.C.Children.device c.args.set.now c.args.dev) (g.C.Children.device c.write.new.self c.args.dev) (g.C.Children.device c.write_synced.new.set c.args.dev)
    c.write.ensures.call.goes_on c.write_synced.ensures.goes_on

pub returns-clause-leaves : goal.returns-clause-leaves
returns-clause-leaves g c =
    leaves_fill c.args.label.now c.args.rec.now c.label_write-body.result (g.C.Children.device c.args.set.now c.args.dev) (g.C.Children.device c.write.new.self c.args.dev)
    (g.C.Children.device c.write_synced.new.set c.args.dev) (rw c.label_write-body.ensures.bytes c.label_write-body.ensures.long)
    (rw (sym c.record_at.ensures) (leaves_one (Torn c.record_at.result c.args.rec.now) _ _ c.write.ensures.call.time c.write.ensures.written.crash))
    (rw (sym c.body_at.ensures) c.write_synced.ensures.leaves)

pub returns-clause-closed : goal.returns-clause-closed
returns-clause-closed g c closed =
    closed_on c.args.label.now c.args.rec.now (g.C.Children.device c.args.set.now c.args.dev) (g.C.Children.device c.write_synced.new.set c.args.dev)
    (leaves_fill c.args.label.now c.args.rec.now c.label_write-body.result (g.C.Children.device c.args.set.now c.args.dev) (g.C.Children.device c.write.new.self c.args.dev)
    (g.C.Children.device c.write_synced.new.set c.args.dev) (rw c.label_write-body.ensures.bytes c.label_write-body.ensures.long)
    (rw (sym c.record_at.ensures) (leaves_one (Torn c.record_at.result c.args.rec.now) _ _ c.write.ensures.call.time c.write.ensures.written.crash))
    (rw (sym c.body_at.ensures) c.write_synced.ensures.leaves))
    closed

pub returns-clause-made : goal.returns-clause-made
returns-clause-made g c = rw (sym c.record_at.ensures, sym c.body_at.ensures, sym c.label_write-body.ensures.bytes)
    (done_both (Write c.record_at.result c.args.rec.now ∷ []) (Write c.body_at.result c.label_write-body.result ∷ Sync ∷ []) _ _ (g.C.Children.device c.args.set.now c.args.dev)
    (g.C.Children.device c.write.new.self c.args.dev) (g.C.Children.device c.write_synced.new.set c.args.dev)
    (done_write c.record_at.result c.args.rec.now _ _ _ c.in_ok-write.ensures.place c.in_ok-write.ensures.mark c.in_ok-write.ensures.written.done c.in_ok-write.ensures.call.cause.ok)
    c.in_ok-place.ensures.made)

pub returns-clause-filled : goal.returns-clause-filled
returns-clause-filled g c =
    filled_now c.args.label.now c.args.rec.now c.in_ok-place.place (g.C.Children.device c.args.set.now c.args.dev) (g.C.Children.device c.write_synced.new.set c.args.dev)
    (rw (sym c.record_at.ensures, sym c.body_at.ensures, sym c.label_write-body.ensures.bytes)
    (done_both (Write c.record_at.result c.args.rec.now ∷ []) (Write c.body_at.result c.label_write-body.result ∷ Sync ∷ []) _ _ (g.C.Children.device c.args.set.now c.args.dev)
    (g.C.Children.device c.write.new.self c.args.dev) (g.C.Children.device c.write_synced.new.set c.args.dev)
    (done_write c.record_at.result c.args.rec.now _ _ _ c.in_ok-write.ensures.place c.in_ok-write.ensures.mark c.in_ok-write.ensures.written.done c.in_ok-write.ensures.call.cause.ok)
    c.in_ok-place.ensures.made))
    c.in_ok-place.ensures.durable
    (λ x is. omega (
      arith,
      fits_record c.args.dev c.args.rec.now (g.C.Children.device c.args.set.now c.args.dev) c.args.label.now c.requires.label,
      (g.met.C.Children.told_is c.args.set.now c.args.dev x is).0,
    ))
    c.label_write-body.ensures.long (c.label_write-body.ensures.read c.requires.label.valid)

pub returns-clause-goes_on : goal.returns-clause-goes_on
returns-clause-goes_on g c =
    goes_on_twice (g.C.Children.device c.args.set.now c.args.dev) (g.C.Children.device c.write.new.self c.args.dev) (g.C.Children.device c.write_synced.new.set c.args.dev)
    c.write.ensures.call.goes_on c.write_synced.ensures.goes_on
