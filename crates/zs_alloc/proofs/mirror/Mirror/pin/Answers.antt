use Rattle.std.proofs.Common.{◌≡◌, sym, subst, refl, arith}
use Rattle.zs_alloc.specs.Space.{MirrorView, changed, pinned}
use Rattle.zs_alloc.specs.Kept.{AreListed}
use Rattle.zs_alloc.proofs.Listing.{listed_changed}
use Rattle.zs_alloc.proofs.Marks.{plain_is}
use Rattle.zs_alloc.proofs.PinMarks.{pinned_stays, pinned_with}
use Rattle.zs_alloc.proofs.mirror.Mirror.pin.Goals as goal

pub invariant_of-self : goal.invariant_of-self
invariant_of-self c =
    let is : c.update.new.self ≡ record c.self.inside.ranges { taken = changed c.args.first pinned c.self.inside.ranges.taken } = plain_is _ _ _ c.in-Some.range _ pinned c.update.ensures (pinned_with c.in-Some.range c.in-Some-checked_add.pins (omega arith)) c.range.ensures.sorted c.range.ensures.kept c.in-Some.ensures.range pinned_stays in
    subst (λ (m : MirrorView). AreListed c.self.inside.waiting.items m.taken) (sym is) (listed_changed _ _ _ pinned (λ e. refl) c.self.invariant)

pub returns-clause-ok : goal.returns-clause-ok
returns-clause-ok c = rw (← c.self.view_is) (plain_is _ _ _ c.in-Some.range _ pinned c.update.ensures (pinned_with c.in-Some.range c.in-Some-checked_add.pins (omega arith)) c.range.ensures.sorted c.range.ensures.kept c.in-Some.ensures.range pinned_stays)
