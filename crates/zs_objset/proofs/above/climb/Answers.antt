use Rattle.std.proofs.Common.{◌∙◌, sym}
use Rattle.zs_objset.proofs.Chain.{chain_push, chain_end}
use Rattle.zs_objset.proofs.above.climb.Goals as goal

pub loop-parent-preserved : goal.loop-parent-preserved
loop-parent-preserved c =
    rw c.in_ok-push-2.ensures.items (chain_push _ _ _ _ _ c.loop-parent.invariant (sym c.parent.ensures.table ∙ c.in-Some.is))

pub returns : goal.returns
returns c = chain_end _ _ _ _ c.loop-parent.invariant (sym c.parent.ensures.table ∙ c.in_default.is)
