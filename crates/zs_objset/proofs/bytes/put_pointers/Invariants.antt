use Rattle.std.proofs.Common.{◌≡◌, ◌+◌, length, ◌*◌, ◌++◌, flat_map}
use Rattle.zs_ids.specs.Blocks.{bp_at}
use Rattle.zs_objset.specs.Bytes.{pointer_bytes, found_at, child_of, upto}
use Rattle.zs_objset.specs.Staged.{over}
use Rattle.zs_objset.proofs.bytes.put_pointers.Given as goal

abbrev pub invariant-loop-i : goal.invariant-loop-i
invariant-loop-i g l = (l.out.items ≡ l.initial.out.items ++ flat_map (λ i. pointer_bytes (found_at (over l.staged.entries (bp_at (g.T.Blocks.entries l.map))) (child_of l.key i))) (upto l.i)) × (length l.out.items ≡ length l.initial.out.items + l.i * 64)
