-- The dataset is taken out after its child got its parent.
use Rattle.std.proofs.Common.{◌<◌, subst}
use Rattle.zs_graph.proofs.PutAt.{take_at}
use Rattle.zs_graph.proofs.changes.take_out.Goals as goal

pub returns : goal.returns
returns g c =
    take_at g.T.Blocks.entries c.args.sets.now.items c.args.at c.index.result.now c.index.ensures (subst (λ n. c.args.at < n) c.args.sets.now.ok.0 c.requires.within) c.args.child c.adopt.new.sets.items c.remove-gone.new.self.items c.adopt.ensures.adopted c.remove-gone.ensures.items
