-- the mirrors that were passed are settled
use Rattle.std.proofs.Common.{◌≡◌, ◌++◌, map, take, drop}
use Rattle.zs_alloc.specs.Space.{settled_mirror}
use Rattle.zs_alloc.proofs.space.Space.settle.Given as goal

abbrev pub invariant-loop-index : goal.invariant-loop-index
invariant-loop-index l = l.self-inside.mirrors.items ≡ map (settled_mirror l.t) (take l.index l.initial.self-inside.mirrors.items) ++ drop l.index l.initial.self-inside.mirrors.items
