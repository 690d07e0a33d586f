use Rattle.std.proofs.lemmas.Bool.Decides.{Decides-at}
use Rattle.zs_plain.specs.TreeTests.{are_apart}
use Rattle.zs_plain.proofs.TreeDecides.{are_apart_is}
use Rattle.zs_plain.proofs.valid.are_apart.Goals as goal

pub returns : goal.returns
returns c =
    Decides-at c.all_lie_apart.result (are_apart c.args.g.now) c.all_lie_apart.ensures (are_apart_is c.args.g.now)
