use Rattle.std.proofs.Common.{◌+◌}
use Rattle.zs_ids.specs.Blocks.{bp_at}
use Rattle.zs_objset.specs.Bytes.{dnode_bytes}
use Rattle.zs_objset.specs.Staged.{over}
use Rattle.zs_objset.proofs.Lists.{flat_upto, length_more}
use Rattle.zs_objset.proofs.bytes.put_dnodes.Goals as goal

pub loop-i-preserved : goal.loop-i-preserved
loop-i-preserved g c =
    (flat_upto (λ i. dnode_bytes (over c.args.staged.now.entries (bp_at (g.T.Blocks.entries c.args.map.now))) (c.args.object + i)) _ _ _ _ c.loop-i.invariant.0 c.in_ok-put_dnode.ensures.bytes, length_more _ _ 128 _ _ c.loop-i.invariant.1 c.in_ok-put_dnode.ensures.size)
