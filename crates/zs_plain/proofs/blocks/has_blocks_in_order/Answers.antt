use Rattle.std.proofs.lemmas.Bool.Decides.{Decides-at}
use Rattle.zs_plain.specs.BlockTests.{has_blocks}
use Rattle.zs_plain.proofs.BlockDecides.{blocks_is}
use Rattle.zs_plain.proofs.blocks.has_blocks_in_order.Goals as goal

pub returns : goal.returns
returns c =
    Decides-at c.has_blocks.result (has_blocks c.args.d.now c.args.n) c.has_blocks.ensures (blocks_is c.args.d.now c.args.n)
