use Rattle.zs_ids.specs.Blocks.{bp_at}
use Rattle.zs_objset.specs.Bytes.{pointer_bytes, found_at, child_of}
use Rattle.zs_objset.specs.Staged.{over}
use Rattle.zs_objset.proofs.Lists.{flat_upto, length_more}
use Rattle.zs_objset.proofs.bytes.put_pointers.Goals as goal

pub loop-i-preserved : goal.loop-i-preserved
loop-i-preserved g c =
    (flat_upto (λ i. pointer_bytes (found_at (over c.args.staged.now.entries (bp_at (g.T.Blocks.entries c.args.map.now))) (child_of c.args.key i))) _ _ _ _ c.loop-i.invariant.0 (rw (← c.below-bp.ensures) c.in_ok-put_pointer.ensures.bytes), length_more _ _ 64 _ _ c.loop-i.invariant.1 c.in_ok-put_pointer.ensures.size)
