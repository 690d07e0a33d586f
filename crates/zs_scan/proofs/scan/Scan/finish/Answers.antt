use Rattle.std.proofs.Common.{rules, ◌≡◌, length, refl, subst}
use Rattle.std.proofs.lemmas.List.{nil_from_length}
use Rattle.zs_scan.specs.Steps.{IsComplete}
use Rattle.zs_scan.proofs.Finishes.{finish_keeps, complete_checked}
use Rattle.zs_scan.proofs.Orderly.{finished_orderly}
use Rattle.zs_scan.proofs.scan.Scan.finish.Goals as goal

pub invariant_of-self : goal.invariant_of-self
invariant_of-self c =
    let drained : length c.self.inside.queue.map.entries ≡ 0 = search rules in
    let landed : length c.self.inside.flight.items ≡ 0 = search rules in
    finished_orderly _ _ _ _ _ c.self.invariant (nil_from_length _ drained) (nil_from_length _ landed) c.copy_from.ensures c.len-self-inside.ensures

pub returns-clause-complete : goal.returns-clause-complete
returns-clause-complete c =
    let queued : length c.self.inside.run.todo ≡ 0 = search rules in
    let drained : length c.self.inside.queue.map.entries ≡ 0 = search rules in
    let landed : length c.self.inside.flight.items ≡ 0 = search rules in (
      λ _. subst IsComplete c.self.view_is (record { scans = search rules; goes_on = search rules; nowhere = search rules; walked = nil_from_length _ queued; drained = nil_from_length _ drained; landed = nil_from_length _ landed }),
      λ _. refl,
    )

pub returns-clause-keeps : goal.returns-clause-keeps
returns-clause-keeps c = finish_keeps _ _ _ _ c.self.view_is c.self.invariant ((returns-clause-complete c).0 refl) c.copy_from.ensures c.len-self-inside.ensures

pub returns-clause-all : goal.returns-clause-all
returns-clause-all c _ = complete_checked _ _ c.self.view_is c.self.invariant ((returns-clause-complete c).0 refl)
