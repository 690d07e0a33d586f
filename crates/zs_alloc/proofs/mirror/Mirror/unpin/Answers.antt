use Rattle.std.proofs.Common.{◌≡◌, sym, subst, refl}
use Rattle.zs_alloc.specs.Space.{MirrorView, changed, unpinned, still_taken}
use Rattle.zs_alloc.specs.Kept.{AreListed}
use Rattle.zs_alloc.proofs.Listing.{listed_changed, listed_still}
use Rattle.zs_alloc.proofs.Marks.{changed_is}
use Rattle.zs_alloc.proofs.mirror.Mirror.unpin.Goals as goal

pub invariant_of-self : goal.invariant_of-self
invariant_of-self c =
    let is : c.update.new.self ≡ record c.self.inside.ranges { taken = still_taken (changed c.args.first unpinned c.self.inside.ranges.taken) } = changed_is _ _ _ c.in-Some.range _ unpinned c.update.ensures refl c.range.ensures.sorted c.in-Some.ensures.range in
    subst (λ (m : MirrorView). AreListed c.self.inside.waiting.items m.taken) (sym is) (listed_still _ _ (listed_changed _ _ _ unpinned (λ e. refl) c.self.invariant))

pub returns : goal.returns
returns c = rw (← c.self.view_is) (changed_is _ _ _ c.in-Some.range _ unpinned c.update.ensures refl c.range.ensures.sorted c.in-Some.ensures.range)
