use Rattle.zs_objset.proofs.Chain.{IsChain, height}
use Rattle.zs_objset.proofs.above.climb.Given as goal

abbrev pub invariant-loop-parent : goal.invariant-loop-parent
invariant-loop-parent l = IsChain l.fn.levels l.fn.key l.keys.items l.last

abbrev pub decreases-loop-parent : goal.decreases-loop-parent
decreases-loop-parent l = height l.last
