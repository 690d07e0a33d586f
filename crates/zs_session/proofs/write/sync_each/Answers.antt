use Rattle.std.proofs.Common.{◌∙◌, arith}
use Rattle.std.proofs.Math.ListN.{length-set}
use Rattle.zs_session.specs.Devices.{journals}
use Rattle.zs_session.proofs.Putting.{syncs_more, calls_handed}
use Rattle.zs_session.proofs.Sets.{set_twice}
use Rattle.zs_session.proofs.write.sync_each.Goals as goal

pub sync_device-requires : goal.sync_device-requires
sync_device-requires g c = omega (arith, c.loop-dev-test.true, c.requires.there, c.loop-dev.invariant.calls.count)

pub returns-in_err-marks-clause-calls : goal.returns-in_err-marks-clause-calls
returns-in_err-marks-clause-calls g c =
    calls_handed c.from_residual.result c.in_err-marks.field-0.0 _ _ _ _ _ _ c.from_residual.ensures.1 (λ y q. q) c.loop-dev.invariant.calls c.in_err-marks.ensures.calls

pub loop-dev-preserved : goal.loop-dev-preserved
loop-dev-preserved g c = record {
  long = length-set c.loop-dev.marks.places c.from.result c.in_ok-marks.field-0 ∙ c.loop-dev.invariant.long;
  none = c.loop-dev.invariant.none;
  synced = syncs_more c.loop-dev.dev c.loop-dev.marks.places c.in_ok-marks.field-0
      (journals (g.C.Children.device c.args.set.now)) (journals (g.C.Children.device c.loop-dev.set)) (journals (g.C.Children.device c.sync_device.new.set))
      (omega (arith, c.loop-dev-test.true, c.requires.few, c.loop-dev.invariant.long)) c.loop-dev.invariant.synced c.in_ok-marks.ensures.synced c.in_ok-marks.ensures.others
      c.from.result c.from.ensures;
  calls = set_twice _ _ _ _ _ _ c.loop-dev.invariant.calls c.in_ok-marks.ensures.calls.set;
}
