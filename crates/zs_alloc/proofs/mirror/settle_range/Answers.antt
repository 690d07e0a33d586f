use Rattle.std.proofs.Common.{sym, ap}
use Rattle.zs_alloc.specs.declared.taken.Taken.{Taken}
use Rattle.zs_alloc.specs.declared.taken.Freed.{Freed}
use Rattle.zs_alloc.specs.Space.{settled}
use Rattle.zs_alloc.proofs.Marks.{changed_is, none_is}
use Rattle.zs_alloc.proofs.mirror.settle_range.Goals as goal

pub returns-in_default : goal.returns-in_default
returns-in_default c = none_is _ _ (settled c.args.t) c.facts.ensures.kept (sym c.in_default.ensures.range)

pub returns : goal.returns
returns c =
    let made : Freed → Taken = λ f. record { sectors = c.in-Some.range.sectors; pins = c.in-Some.range.pins; freed = f } in
    changed_is _ _ _ c.in-Some.range _ (settled c.args.t) c.update.ensures (ap made c.settled.ensures) c.range.ensures.sorted c.in-Some.ensures.range
