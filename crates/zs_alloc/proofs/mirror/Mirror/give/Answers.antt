use Rattle.std.proofs.Common.{sym, subst}
use Rattle.zs_alloc.specs.Space.{MirrorView}
use Rattle.zs_alloc.specs.Kept.{AreListed}
use Rattle.zs_alloc.proofs.Listing.{listed_without}
use Rattle.zs_alloc.proofs.mirror.Mirror.give.Goals as goal

pub invariant_of-self : goal.invariant_of-self
invariant_of-self c = subst (λ (m : MirrorView). AreListed c.self.inside.waiting.items m.taken) (sym c.give.ensures) (listed_without _ _ _ c.self.invariant)
