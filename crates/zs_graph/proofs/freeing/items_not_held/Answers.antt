-- Each block that is found is the first of those that are left.
use Rattle.std.proofs.Common.{◌∙◌, sym}
use Rattle.zs_graph.proofs.NextBlocks.{next_shallow, next_fewer, next_done, all_done}
use Rattle.zs_graph.proofs.freeing.items_not_held.Goals as goal

pub after-from-requires : goal.after-from-requires
after-from-requires g c =
    next_shallow (g.T.Blocks.entries c.args.blocks.now) c.loop-key.from c.args.start (c.in-Some.key, c.in-Some.bp) (sym c.next_from.ensures ∙ c.in-Some.is) c.requires

pub loop-key-smaller : goal.loop-key-smaller
loop-key-smaller g c =
    next_fewer (g.T.Blocks.entries c.args.blocks.now) c.loop-key.from c.args.start (c.in-Some.key, c.in-Some.bp) (sym c.next_from.ensures ∙ c.in-Some.is) (g.met.T.Blocks.in_order c.args.blocks.now) c.after-from.result c.after-from.ensures

pub loop-key-preserved : goal.loop-key-preserved
loop-key-preserved g c =
    next_done (g.T.Blocks.entries c.args.blocks.now) c.loop-key.from c.args.start (c.in-Some.key, c.in-Some.bp) (sym c.next_from.ensures ∙ c.in-Some.is) (g.met.T.Blocks.in_order c.args.blocks.now) c.after-from.result c.after-from.ensures _ _ _ _ c.loop-key.invariant c.in_ok-add_unheld.ensures

pub returns : goal.returns
returns g c =
    all_done (g.T.Blocks.entries c.args.blocks.now) c.loop-key.from c.args.start _ _ _ (sym c.next_from.ensures ∙ c.in_default.is) c.loop-key.invariant
