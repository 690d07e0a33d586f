-- The child has the other parent.
use Rattle.std.proofs.Common.{◌<◌, Some, subst}
use Rattle.std.specs.Prelude.{IfSome, vec_len}
use Rattle.zs_graph.proofs.PutAt.{adopt_at}
use Rattle.zs_graph.proofs.changes.adopt.Goals as goal

pub returns-in-Some-clause-adopted : goal.returns-in-Some-clause-adopted
returns-in-Some-clause-adopted g c =
    let within : IfSome (Some c.in-Some.child) (λ i. i < vec_len c.args.sets.now) = rw c.in-Some.is at c.requires.child in
    rw c.in-Some.is (adopt_at g.T.Blocks.entries c.args.sets.now.items c.in-Some.child c.index_mut.result.now c.index_mut.ensures.value (subst (λ n. c.in-Some.child < n) c.args.sets.now.ok.0 within) c.args.parent)
