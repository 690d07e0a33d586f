use Rattle.std.proofs.Common.{refl, subst, sym}
use Rattle.zs_script.specs.declared.command.Command.{Command}
use Rattle.zs_session.specs.Images.{of_each}
use Rattle.zs_session.specs.Session.{IsUnfitFor}
use Rattle.zs_session.proofs.Made.{makes_pool}
use Rattle.zs_session.proofs.Refusals.{same_error}
use Rattle.zs_session.proofs.session.make_pool.Goals as goal

pub returns-in-Err-clause-unfit : goal.returns-in-Err-clause-unfit
returns-in-Err-clause-unfit g c fault is =
    subst (λ (line : Command). IsUnfitFor line (of_each g.D.Device.size c.args.lanes.now.items) (of_each g.D.Device.told c.args.lanes.now.items) fault) (sym c.in-Pool.is)
    (c.in-Err.ensures.unfit fault (same_error is))

pub returns-clause-pool : goal.returns-clause-pool
returns-clause-pool g c =
    makes_pool g.D.Device c.in-Ok-blank.pool c.args.command.now _ _ _ c.args.lanes.now.items c.test_images.new.lanes.items c.in-Pool.is c.in-Ok-blank.ensures.made c.in-Ok-blank.ensures.state
    c.in-Ok-blank.ensures.shape c.in-Ok-blank.ensures.pointers c.test_images.ensures.calls.kept c.in-Ok.ensures.sectors.devices refl (λ k lt. rw c.from_vec-sectors.ensures (c.in-Ok.ensures.sectors.are k lt))
