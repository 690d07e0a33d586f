use Rattle.std.proofs.Common.{◌≡◌, ◌-◌}
use Rattle.zs_record.specs.Head.{leaves_each}
use Rattle.zs_record.proofs.mirrors.leaves_each.Given as goal

abbrev pub invariant-loop : goal.invariant-loop
invariant-loop l = leaves_each l.width (l.count - l.counter) l.left ≡ leaves_each l.width l.count l.mask
