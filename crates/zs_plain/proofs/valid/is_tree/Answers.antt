use Rattle.std.proofs.lemmas.Bool.Decides.{Decides-at}
use Rattle.zs_plain.specs.TreeTests.{is_tree}
use Rattle.zs_plain.proofs.TreeDecides.{tree_is}
use Rattle.zs_plain.proofs.valid.is_tree.Goals as goal

pub returns : goal.returns
returns c =
    Decides-at c.is_rooted.result (is_tree c.args.g.now c.args.n) c.is_rooted.ensures (tree_is c.args.g.now c.args.n)
