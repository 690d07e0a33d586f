use Rattle.std.proofs.Common.{◌≡◌, ◌*◌, length}
use Rattle.zs_objset.specs.Bytes.{repeated}
use Rattle.zs_objset.proofs.bytes.repeat.Given as goal

abbrev pub invariant-loop-i : goal.invariant-loop-i
invariant-loop-i l = (l.out.items ≡ repeated l._i l.bytes) × (length l.out.items ≡ l._i * length l.bytes)
