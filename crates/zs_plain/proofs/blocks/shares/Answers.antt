use Rattle.std.proofs.lemmas.Bool.Decides.{Decides-at}
use Rattle.zs_plain.specs.BlockTests.{does_share}
use Rattle.zs_plain.proofs.BlockDecides.{share_is}
use Rattle.zs_plain.proofs.blocks.shares.Goals as goal

pub returns : goal.returns
returns c =
    Decides-at c.does_share.result (does_share c.args.d.now c.args.parent.now) c.does_share.ensures (share_is c.args.d.now c.args.parent.now)
