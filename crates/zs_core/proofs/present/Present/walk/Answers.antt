-- A turn of the walk leaves the scan the datasets' own.
use Rattle.zs_core.specs.Kept.{Facts}
use Rattle.zs_core.proofs.OnePlace.{one_of}
use Rattle.zs_core.proofs.Scanned.{with_scan, walked_alike}
use Rattle.zs_core.proofs.present.Present.walk.Goals as goal

pub invariant_of-self-2 : goal.invariant_of-self-2
invariant_of-self-2 c =
    let f : Facts c.self.inside = c.self.invariant in
    with_scan c.self.inside c.walk_step.new.self c.self.invariant (walked_alike _ _ _ _ c.in_ok-turn.ensures.turn) (λ start blocks was. c.in_ok-turn.ensures.keeps _ _ _ (one_of _ _ _ _ _ f.datasets) f.range was)
