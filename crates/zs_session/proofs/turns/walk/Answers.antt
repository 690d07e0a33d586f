use Rattle.std.proofs.Common.{[], refl}
use Rattle.std.proofs.lemmas.Result.{on_ok_weaker, on_err_weaker}
use Rattle.zs_session.proofs.Histories.{alone_after, halts_after, halts_of}
use Rattle.zs_session.proofs.turns.walk.Goals as goal

pub returns-in_default-clause-stops : goal.returns-in_default-clause-stops
returns-in_default-clause-stops c = record { memory = refl; went_on = λ js. halts_of _ _ js js _ (c.in_ok-made.ensures.goes_on js) }

pub returns-clause-goes_on : goal.returns-clause-goes_on
returns-clause-goes_on c = on_ok_weaker _ (alone_after _ _ _ _ c.in_ok-made.ensures.goes_on) c.end_line.ensures.goes_on

pub returns-clause-stops : goal.returns-clause-stops
returns-clause-stops c = record { memory = c.end_line.ensures.stops.memory; went_on = λ js. on_err_weaker _ (halts_after _ _ _ js js js [] (c.in_ok-made.ensures.goes_on js)) (c.end_line.ensures.stops.went_on js) }
