use Rattle.std.proofs.Common.{[], ◌∷◌, ap}
use Rattle.zs_label.specs.Steps.Step.{Write, Sync}
use Rattle.zs_label.proofs.Making.{done_write, stopped_first, stopped_then, stopped_one, same_both}
use Rattle.zs_label.proofs.Puts.{handed}
use Rattle.zs_lane.proofs.GoingOn.{goes_on_twice}
use Rattle.zs_label.proofs.put.write_synced.Goals as goal

pub returns-in_err-write-clause-made : goal.returns-in_err-write-clause-made
returns-in_err-write-clause-made g c = handed _ c.from_residual.result _ _ _ c.from_residual.ensures.1
    (stopped_first (Write c.args.at c.args.bytes.now ∷ []) (Sync ∷ []) _ _ _
    (stopped_one (Write c.args.at c.args.bytes.now) _ (g.C.Children.device c.args.set.now c.args.dev) (g.C.Children.device c.write.new.self c.args.dev)
    c.in_err-write.ensures.call.err (λ is. ap (λ s. (g.C.Children.device s c.args.dev).told) (c.in_err-write.ensures.memory is)) c.in_err-write.ensures.written.torn
    c.in_err-write.ensures.call.cause))

pub returns-in_err-place-clause-made : goal.returns-in_err-place-clause-made
returns-in_err-place-clause-made g c = handed _ c.from_residual-in_err-place.result _ _ _ c.from_residual-in_err-place.ensures.1
    (stopped_then (Write c.args.at c.args.bytes.now ∷ []) (Sync ∷ []) _ _ (g.C.Children.device c.args.set.now c.args.dev) (g.C.Children.device c.write.new.self c.args.dev)
    (g.C.Children.device c.sync.new.self c.args.dev)
    (done_write c.args.at c.args.bytes.now _ _ _ c.in_ok-write.ensures.place c.in_ok-write.ensures.mark c.in_ok-write.ensures.written.done c.in_ok-write.ensures.call.cause.ok)
    (stopped_one Sync _ _ _ c.in_err-place.ensures.call.err (λ is. c.in_err-place.ensures.unwritten.told) (same_both _ _ c.in_err-place.ensures.unwritten.told)
    c.in_err-place.ensures.call.cause))

pub returns-in_err-place-clause-goes_on : goal.returns-in_err-place-clause-goes_on
returns-in_err-place-clause-goes_on g c =
    goes_on_twice (g.C.Children.device c.args.set.now c.args.dev) (g.C.Children.device c.write.new.self c.args.dev) (g.C.Children.device c.sync.new.self c.args.dev)
    c.write.ensures.call.goes_on c.sync.ensures.call.goes_on

pub returns-clause-goes_on : goal.returns-clause-goes_on
returns-clause-goes_on g c =
    goes_on_twice (g.C.Children.device c.args.set.now c.args.dev) (g.C.Children.device c.write.new.self c.args.dev) (g.C.Children.device c.sync.new.self c.args.dev)
    c.write.ensures.call.goes_on c.sync.ensures.call.goes_on
