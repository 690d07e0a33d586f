-- The blocks are made over the dataset's entries.
use Rattle.zs_core.proofs.Closing.{made_ok}
use Rattle.zs_core.proofs.present.staged_for.Goals as goal

pub returns-in-Some : goal.returns-in-Some
returns-in-Some c = made_ok c.staged_blocks.result (λ v. v.items) c.args.graph.now.sets c.args.ds c.args.txg.now c.in-Some.map.now.map.entries c.in-Some.ensures c.staged_blocks.ensures.blocks c.staged_blocks.ensures.sized
