-- The items of the places so far are added.
use Rattle.std.proofs.Common.{◌≡◌, ◌++◌, map}
use Rattle.zs_graph.specs.Freeing.{item_of}
use Rattle.zs_graph.proofs.freeing.add_items.Given as goal

abbrev pub invariant-loop-place : goal.invariant-loop-place
invariant-loop-place l = l.items.items ≡ l.fn.items.items ++ map (λ y. item_of l.bp y.now) l.yielded
