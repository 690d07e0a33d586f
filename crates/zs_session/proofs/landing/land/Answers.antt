use Rattle.zs_session.specs.Devices.{journals}
use Rattle.zs_session.proofs.Histories.{line_after, went_twice}
use Rattle.zs_session.proofs.Outcomes.{where_ok}
use Rattle.zs_session.proofs.landing.land.Goals as goal

pub returns-clause-goes_on : goal.returns-clause-goes_on
returns-clause-goes_on g c =
    where_ok c.end_line.result (λ alone. went_twice _ _ _ _ _ _ _ _ c.in_ok-entries.ensures.goes_on (alone (journals (g.C.Children.device c.land_each.new.rig.set)))) c.end_line.ensures.goes_on

pub returns-clause-stops : goal.returns-clause-stops
returns-clause-stops g c = line_after _ _ _ _ _ _ c.in_ok-entries.ensures.goes_on c.end_line.ensures.stops
