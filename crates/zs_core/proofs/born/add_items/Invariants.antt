use Rattle.std.proofs.Common.{◌≡◌, ◌++◌, map, take}
use Rattle.zs_scan.specs.Walks.{item_of}
use Rattle.zs_core.proofs.born.add_items.Given as goal

abbrev pub invariant-loop-block : goal.invariant-loop-block
invariant-loop-block l = l.items.items ≡ l.fn.items.items ++ map (λ c. item_of c.1) (take l.block-index l.blocks)
