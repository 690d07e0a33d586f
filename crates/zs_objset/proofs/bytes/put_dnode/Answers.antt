use Rattle.zs_objset.specs.Bytes.{dnode_bytes}
use Rattle.zs_objset.proofs.bytes.put_dnode.Goals as goal

pub returns-in_ok-put_object-in-Some : goal.returns-in_ok-put_object-in-Some
unfolding dnode_bytes
returns-in_ok-put_object-in-Some g c =
    rw (← c.top.ensures.depth, c.in-Some.is, ← c.first.ensures, ← c.exponent-size.ensures, ← c.first-bp.ensures) c.in_ok-put_object-in-Some.ensures
