use Rattle.std.proofs.Common.{refl}
use Rattle.zs_session.proofs.Putting.{block_failed, block_written}
use Rattle.zs_session.proofs.write.put_block.Goals as goal

pub returns-then-marks-ne0-clause-calls : goal.returns-then-marks-ne0-clause-calls
returns-then-marks-ne0-clause-calls g c =
    block_failed c.args.online c.args.width c.args.block.now c.as_slice.result.now _ c.in_ok-marks.marks.failed c.in_ok-marks.marks.places _ _ _ _ c.requires.writable.first c.requires.online
    c.as_slice.ensures refl c.in_ok-marks.ensures.written c.in_ok-marks.ensures.leaves _ c.if-marks-ne0.true

pub returns-clause-put : goal.returns-clause-put
returns-clause-put g c =
    block_written c.args.online c.args.width c.args.block.now c.as_slice.result.now _ c.in_ok-marks.marks.failed c.in_ok-marks.marks.places _ _ _ _ c.requires.writable.first c.requires.online
    c.as_slice.ensures refl c.in_ok-marks.ensures.written c.in_ok-marks.ensures.leaves c.if-marks-ne0.false
