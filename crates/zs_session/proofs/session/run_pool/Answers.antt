use Rattle.std.proofs.Common.{[], sym}
use Rattle.zs_session.specs.Devices.{journals}
use Rattle.zs_session.proofs.Commands.{part_after}
use Rattle.zs_session.proofs.Histories.{devices_after, part_none, went_after_alone}
use Rattle.zs_session.proofs.Running.{made_by, no_places}
use Rattle.zs_session.proofs.Written.{puts_none, ready_made}
use Rattle.zs_session.proofs.session.run_pool.Goals as goal

pub run_lines-requires-clause-ready : goal.run_lines-requires-clause-ready
run_lines-requires-clause-ready g c = ready_made c.commit.new.pool c.args.pool.now.history c.in-Ok.ensures.up c.requires.made.fresh c.in-Ok.ensures.told

pub run_lines-requires-clause-devices : goal.run_lines-requires-clause-devices
run_lines-requires-clause-devices g c =
    devices_after c.args.pool.now c.commit.new.pool _ _ _ _ _
    (made_by c.args.pool.now c.commit.new.pool c.requires.made c.in-Ok.ensures.goes_on (journals (g.C.Children.device c.args.rig.now.set))) c.requires.devices

pub returns-in-Ok-run_lines-clause-goes_on : goal.returns-in-Ok-run_lines-clause-goes_on
returns-in-Ok-run_lines-clause-goes_on g c =
    went_after_alone c.args.pool.now c.commit.new.pool c.run_lines.new.pool _ _ _ (made_by c.args.pool.now c.commit.new.pool c.requires.made c.in-Ok.ensures.goes_on)
    c.in-Ok-run_lines.ensures.goes_on

pub returns-in_default-clause-went_on : goal.returns-in_default-clause-went_on
returns-in_default-clause-went_on g c =
    let js = journals (g.C.Children.device c.args.rig.now.set) in
    part_none c.args.pool.now c.commit.new.pool js js _
    (c.in_default.ensures.stops [] js js (sym c.requires.made.empty) (puts_none c.args.pool.now.core.shape.width _ js (no_places 16))).went_on

pub returns-in-Err-clause-went_on : goal.returns-in-Err-clause-went_on
returns-in-Err-clause-went_on g c =
    part_after c.args.pool.now c.commit.new.pool c.run_lines.new.pool _ _ _ _
    (made_by c.args.pool.now c.commit.new.pool c.requires.made c.in-Ok.ensures.goes_on (journals (g.C.Children.device c.args.rig.now.set))) c.in-Err.ensures.went_on
