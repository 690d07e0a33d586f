use Rattle.std.proofs.Common.{◌≡◌, ◌∙◌, ap, ℕ, List, subst, length, rules, arith}
use Rattle.std.proofs.lemmas.List.{length-map}
use Rattle.zs_session.specs.Images.{IsSizeFault, of_each}
use Rattle.zs_session.proofs.Refusals.{sized, same_error}
use Rattle.zs_session.proofs.images.test_images.Goals as goal

pub returns-in-Err-clause-unfit : goal.returns-in-Err-clause-unfit
returns-in-Err-clause-unfit g c fault is =
    let count : length (of_each g.D.Device.size c.args.lanes.now.items) ≡ c.args.width = omega (arith, length-map c.args.lanes.now.items (λ l. g.D.Device.size l.device)) in
    sized c.args.width c.args.blocks (of_each g.D.Device.size c.args.lanes.now.items) (of_each g.D.Device.told c.args.lanes.now.items) fault count (c.in-Ok-true.ensures.blank (search rules))
    (subst (λ (sizes : List ℕ). IsSizeFault c.args.blocks sizes fault) (ap (of_each g.D.Device.size) c.deref.ensures.value ∙ c.are_blank.ensures.calls.kept.sizes) (c.in-Err.ensures.unfit fault (same_error is)))
