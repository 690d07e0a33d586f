-- The snapshot stands behind the others, and the head on it.
use Rattle.std.proofs.Common.{◌<◌, subst, refl}
use Rattle.zs_graph.proofs.PutAt.{below_put}
use Rattle.zs_graph.proofs.changes.put_below.Goals as goal

pub returns-clause-ok : goal.returns-clause-ok
returns-clause-ok g c =
    rw c.in_ok-push.ensures.items (below_put g.T.Blocks.entries c.args.sets.now.items c.args.at c.index-head.result.now c.index_mut.result.now _ c.index-head.ensures (subst (λ n. c.args.at < n) c.args.sets.now.ok.0 c.requires) (rw c.in_ok-push.ensures.items at c.index_mut.ensures.value) c.args.id c.args.label c.args.t (g.T.Blocks.entries c.args.held) refl)
