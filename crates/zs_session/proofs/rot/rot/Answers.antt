use Rattle.std.proofs.Common.{rules, refl}
use Rattle.zs_session.specs.Devices.{journals}
use Rattle.zs_session.proofs.Sets.{longer_of, longer_none, calls_none}
use Rattle.zs_session.proofs.Rotten.{stops_told, stops_untold}
use Rattle.zs_session.proofs.rot.rot.Goals as goal

pub returns-in_err-bytes-clause-stops : goal.returns-in_err-bytes-clause-stops
returns-in_err-bytes-clause-stops g c =
    stops_untold c.from_residual.result _ _ _ _ (longer_none (journals (g.C.Children.device c.args.rig.now.set))) refl (search rules)

pub returns-in_err-bytes-clause-calls : goal.returns-in_err-bytes-clause-calls
returns-in_err-bytes-clause-calls g c = calls_none c.from_residual.result _ _ (search rules)

pub returns-in-Ok-clause-stops : goal.returns-in-Ok-clause-stops
returns-in-Ok-clause-stops g c = stops_told _ _ _ _ _ (longer_of _ _ _ _ c.rot_range.ensures.set) c.end_marked-in-Ok.ensures.stops

pub returns-in-Err-Failed-clause-stops : goal.returns-in-Err-Failed-clause-stops
returns-in-Err-Failed-clause-stops g c = stops_told _ _ _ _ _ (longer_of _ _ _ _ c.rot_range.ensures.set) c.end_marked-in-Err-Failed.ensures.stops

pub returns-clause-stops : goal.returns-clause-stops
returns-clause-stops g c = stops_untold _ _ _ _ _ (longer_of _ _ _ _ c.rot_range.ensures.set) refl refl
