use Rattle.std.proofs.lemmas.Result.{on_ok_weaker}
use Rattle.zs_session.proofs.Histories.{alone_after_went, line_after}
use Rattle.zs_session.proofs.finishing.finish.Goals as goal

pub returns-clause-goes_on : goal.returns-clause-goes_on
returns-clause-goes_on g c = on_ok_weaker _ (alone_after_went _ _ _ _ _ _ c.in_ok-end_scan.ensures.goes_on) c.end_line-2.ensures.goes_on

pub returns-clause-stops : goal.returns-clause-stops
returns-clause-stops g c = line_after _ _ _ _ _ _ c.in_ok-end_scan.ensures.goes_on c.end_line-2.ensures.stops
