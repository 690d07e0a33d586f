use Rattle.zs_plain.proofs.ValidDecides.{valid_from}
use Rattle.zs_plain.proofs.valid.is_valid.Goals as goal

pub returns : goal.returns
returns c =
    valid_from c.args.g.now c.args.room.now c.args.n c.in_ok-pieces.pieces.items c.in_ok-pieces.ensures c.deref.result.now c.is_whole-valid.result c.deref.ensures.value c.is_whole-valid.ensures
