use Rattle.std.proofs.Common.{sym, subst}
use Rattle.zs_alloc.specs.Space.{MirrorView}
use Rattle.zs_alloc.specs.Kept.{AreListed}
use Rattle.zs_alloc.proofs.Listing.{listed_fresh}
use Rattle.zs_alloc.proofs.mirror.Mirror.claim.Goals as goal

pub invariant_of-self-2 : goal.invariant_of-self-2
invariant_of-self-2 c = subst (λ (m : MirrorView). AreListed c.self.inside.waiting.items m.taken) (sym c.in_ok-claim.ensures.taken) (listed_fresh _ _ _ _ c.self.invariant)
