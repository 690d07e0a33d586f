use Rattle.std.proofs.Common.{rules, ◌≡◌, length, refl, subst}
use Rattle.std.proofs.lemmas.List.{nil_from_length}
use Rattle.zs_scan.specs.Steps.{IsDrained}
use Rattle.zs_scan.proofs.Finishes.{checkpoint_keeps}
use Rattle.zs_scan.proofs.Orderly.{drained_orderly}
use Rattle.zs_scan.proofs.scan.Scan.checkpoint.Goals as goal

pub invariant_of-self : goal.invariant_of-self
invariant_of-self c =
    let drained : length c.self.inside.queue.map.entries ≡ 0 = search rules in
    let landed : length c.self.inside.flight.items ≡ 0 = search rules in
    drained_orderly _ _ _ _ _ c.self.invariant (nil_from_length _ drained) (nil_from_length _ landed) c.copy_from.ensures c.len-self-inside.ensures c.self.invariant.idle

pub returns-clause-drained : goal.returns-clause-drained
returns-clause-drained c =
    let drained : length c.self.inside.queue.map.entries ≡ 0 = search rules in
    let landed : length c.self.inside.flight.items ≡ 0 = search rules in
    (λ _. subst IsDrained c.self.view_is (record { drained = nil_from_length _ drained; landed = nil_from_length _ landed }), λ _. refl)

pub returns-clause-keeps : goal.returns-clause-keeps
returns-clause-keeps c = checkpoint_keeps _ _ _ _ c.args.t c.self.view_is c.self.invariant ((returns-clause-drained c).0 refl) c.copy_from.ensures c.len-self-inside.ensures
