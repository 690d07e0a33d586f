use Rattle.std.proofs.Common.{◌≡◌, refl}
use Rattle.zs_alloc.specs.Space.{changed, freed_in}
use Rattle.zs_alloc.specs.Kept.{AreListed}
use Rattle.zs_alloc.proofs.Listing.{listed_freed}
use Rattle.zs_alloc.proofs.Marks.{plain_is}
use Rattle.zs_alloc.proofs.mirror.Mirror.free.Goals as goal

pub invariant_of-self-2 : goal.invariant_of-self-2
invariant_of-self-2 c =
    let is : c.update.new.self ≡ record c.self.inside.ranges { taken = changed c.args.first (freed_in c.args.t) c.self.inside.ranges.taken } = plain_is _ _ _ c.in-Some.range _ (freed_in c.args.t) c.update.ensures refl c.range.ensures.sorted c.range.ensures.kept c.in-Some.ensures.range (λ e. refl) in
    let listed : AreListed c.push_reserved.new.self.items c.update.new.self.taken = rw (c.push_reserved.ensures.items, c.in_ok-reserve.ensures.items, is) (listed_freed _ _ _ _ c.self.invariant) in
    listed

pub returns-clause-ok : goal.returns-clause-ok
returns-clause-ok c = rw (← c.self.view_is) (plain_is _ _ _ c.in-Some.range _ (freed_in c.args.t) c.update.ensures refl c.range.ensures.sorted c.range.ensures.kept c.in-Some.ensures.range (λ e. refl))
