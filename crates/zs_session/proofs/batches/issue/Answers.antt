use Rattle.zs_session.specs.Devices.{journals}
use Rattle.zs_session.proofs.Histories.{line_after, went_twice}
use Rattle.zs_session.proofs.Outcomes.{where_ok}
use Rattle.zs_session.proofs.Taking.{took_on}
use Rattle.zs_session.proofs.batches.issue.Goals as goal

pub returns-clause-goes_on : goal.returns-clause-goes_on
returns-clause-goes_on g c =
    where_ok c.end_line.result (λ alone. went_twice _ _ _ _ _ _ _ _ c.in_ok-shown.ensures.goes_on (alone (journals (g.C.Children.device c.check_some.new.rig.set)))) c.end_line.ensures.goes_on

pub returns-clause-batch : goal.returns-clause-batch
returns-clause-batch g c =
    where_ok c.end_line.result (λ alone. took_on _ _ _ _ _ _ _ _ c.in_ok-shown.ensures.batch (alone (journals (g.C.Children.device c.check_some.new.rig.set)))) c.end_line.ensures.goes_on

pub returns-clause-stops : goal.returns-clause-stops
returns-clause-stops g c = line_after _ _ _ _ _ _ c.in_ok-shown.ensures.goes_on c.end_line.ensures.stops
