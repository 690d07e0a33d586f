use Rattle.std.proofs.Common.{◌≡◌, map, take}
use Rattle.zs_scan.specs.Walks.{item_of}
use Rattle.zs_core.specs.View.{pointers_of_all}
use Rattle.zs_core.proofs.born.items_of.Given as goal

abbrev pub invariant-loop-own : goal.invariant-loop-own
invariant-loop-own l = l.items.items ≡ map (λ c. item_of c.1) (pointers_of_all (take l.own-index l.changes))
