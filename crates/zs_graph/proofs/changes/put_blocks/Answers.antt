-- The dataset at the index has the blocks, or what it had.
use Rattle.std.proofs.Common.{◌<◌, subst}
use Rattle.zs_graph.proofs.PutAt.{on_err, put_at, same_at}
use Rattle.zs_graph.proofs.changes.put_blocks.Goals as goal

pub returns-in_err-replace_all-clause-err : goal.returns-in_err-replace_all-clause-err
returns-in_err-replace_all-clause-err g c =
    on_err c.from_residual.result (same_at g.T.Blocks.entries c.args.sets.now.items c.args.at c.index_mut.result.now c.index_mut.ensures.value (subst (λ n. c.args.at < n) c.args.sets.now.ok.0 c.requires.within) c.replace_all.new.self c.in_err-replace_all.ensures.err)

pub returns-clause-ok : goal.returns-clause-ok
returns-clause-ok g c =
    put_at g.T.Blocks.entries c.args.sets.now.items c.args.at c.index_mut.result.now c.index_mut.ensures.value (subst (λ n. c.args.at < n) c.args.sets.now.ok.0 c.requires.within) c.replace_all.new.self c.args.changes.now c.in_ok-replace_all.ensures.put
