-- A batch that is taken, and the room for it, leave the scan the datasets' own.
use Rattle.std.proofs.Common.{ap}
use Rattle.zs_scan.specs.View.{ScanView}
use Rattle.zs_scan.proofs.Takes.{room_keeps}
use Rattle.zs_core.proofs.Scanned.{with_scan, taken_alike}
use Rattle.zs_core.proofs.present.Present.take.Goals as goal

pub invariant_of-self : goal.invariant_of-self
invariant_of-self c =
    let same = c.in_err-batch.ensures.err in
    with_scan c.self.inside c.take.new.self c.self.invariant
    (record { limit = ap (λ (v : ScanView). v.limit) same; every = ap (λ (v : ScanView). v.every) same; width = ap (λ (v : ScanView). v.scope.width) same; max = ap (λ (v : ScanView). v.scope.max) same })
    (λ start blocks was. rw same (room_keeps _ _ _ _ _ _ was))

pub invariant_of-self-2 : goal.invariant_of-self-2
invariant_of-self-2 c =
    with_scan c.self.inside c.take.new.self c.self.invariant
    (taken_alike c.self.inside.scan c.take.new.self c.in_ok-batch.batch c.in_ok-batch.ensures.taken c.in_ok-batch.ensures.none)
    (λ start blocks was. c.in_ok-batch.ensures.keeps _ _ _ _ was)
