use Rattle.std.proofs.Common.{◌≡◌, rules, filter}
use Rattle.std.specs.Prelude.{nat_lt}
use Rattle.std.proofs.lemmas.Fn.{filter_same}
use Rattle.zs_alloc.specs.Space.{settled_all}
use Rattle.zs_alloc.specs.Kept.{AreListed}
use Rattle.zs_alloc.proofs.Listing.{listed_settled}
use Rattle.zs_alloc.proofs.Settling.{settle_is}
use Rattle.zs_alloc.proofs.mirror.Mirror.settle.Goals as goal

pub invariant_of-self : goal.invariant_of-self
invariant_of-self c =
    let is : c.settle_waiting.new.ranges ≡ record c.self.inside.ranges { taken = settled_all c.args.t c.self.inside.ranges.taken } = settle_is _ _ c.self.inside.waiting.items c.args.t c.self.invariant (rw c.deref.ensures.value at c.settle_waiting.ensures) in
    let left : c.retain.new.self.items ≡ filter (λ w. nat_lt c.args.t w.txg) c.self.inside.waiting.items = filter_same _ (λ w. nat_lt c.args.t w.txg) _ (λ x b f k. search rules) _ _ c.retain.ensures.filtered in
    let listed : AreListed c.retain.new.self.items c.settle_waiting.new.ranges.taken = rw (left, is) (listed_settled _ _ c.args.t c.self.invariant) in
    listed

pub returns : goal.returns
returns c = rw (← c.self.view_is) (settle_is _ _ c.self.inside.waiting.items c.args.t c.self.invariant (rw c.deref.ensures.value at c.settle_waiting.ensures))
