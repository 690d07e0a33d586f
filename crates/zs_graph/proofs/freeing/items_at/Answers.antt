-- One more change's items are added.
use Rattle.zs_ids.specs.Blocks.{bp_at}
use Rattle.zs_graph.specs.Freeing.{items_after}
use Rattle.zs_graph.proofs.NextBlocks.{one_done}
use Rattle.zs_graph.proofs.freeing.items_at.Goals as goal

pub loop-change-preserved : goal.loop-change-preserved
loop-change-preserved g c =
    one_done (λ x. items_after c.args.start (bp_at (g.T.Blocks.entries c.args.blocks.now) x.0)) c.args.changes.now c.loop-change.change-index _ _ _ _ c.loop-change-test.true c.loop-change.invariant c.in_ok-add_at.ensures
