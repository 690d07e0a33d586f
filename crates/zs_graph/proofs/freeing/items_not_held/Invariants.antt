-- The items so far, and those of the blocks that are left, are all.
use Rattle.std.proofs.Common.{◌≡◌, ◌++◌, length}
use Rattle.std.specs.Prelude.{option_map}
use Rattle.zs_ids.specs.Key.{root_key}
use Rattle.zs_graph.specs.Freeing.{blocks_from, held_in, items_from}
use Rattle.zs_graph.proofs.freeing.items_not_held.Given as goal

abbrev pub invariant-loop-key : goal.invariant-loop-key
invariant-loop-key g l =
    let held = held_in (option_map (λ b. g.T.Blocks.entries b.now) l.held) in
    l.items.items ++ items_from (g.T.Blocks.entries l.blocks) l.from l.start held ≡ items_from (g.T.Blocks.entries l.blocks) root_key l.start held

abbrev pub decreases-loop-key : goal.decreases-loop-key
decreases-loop-key g l = length (blocks_from (g.T.Blocks.entries l.blocks) l.from l.start)
