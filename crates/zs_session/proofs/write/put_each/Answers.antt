use Rattle.zs_session.specs.Devices.{journals}
use Rattle.zs_session.proofs.Putting.{gains_more, writable_still, calls_handed}
use Rattle.zs_session.proofs.Sets.{set_twice}
use Rattle.zs_session.proofs.write.put_each.Goals as goal

pub put_block-requires-clause-writable : goal.put_block-requires-clause-writable
put_block-requires-clause-writable g c =
    writable_still _ _ c.args.width c.args.blocks.now c.loop-block.block-index c.block-item.result (g.C.Children.device c.args.set.now) (g.C.Children.device c.loop-block.set)
    c.loop-block-test.true c.block-item.is c.loop-block.invariant.calls c.requires.writable

pub returns-in_err-put_block-clause-calls : goal.returns-in_err-put_block-clause-calls
returns-in_err-put_block-clause-calls g c =
    calls_handed c.from_residual.result c.in_err-put_block.field-0.0 _ _ _ _ _ _ c.from_residual.ensures.1 (λ y q. q) c.loop-block.invariant.calls c.in_err-put_block.ensures.calls

pub loop-block-preserved : goal.loop-block-preserved
loop-block-preserved g c = record {
  put = gains_more c.args.width c.args.blocks.now c.loop-block.block-index c.block-item.result
      (journals (g.C.Children.device c.args.set.now)) (journals (g.C.Children.device c.loop-block.set)) (journals (g.C.Children.device c.put_block.new.set))
      c.loop-block-test.true c.block-item.is c.loop-block.invariant.put c.in_ok-put_block.ensures.put;
  calls = set_twice _ _ _ _ _ _ c.loop-block.invariant.calls c.in_ok-put_block.ensures.calls.set;
}
