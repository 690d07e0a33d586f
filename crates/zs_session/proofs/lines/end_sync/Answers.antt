use Rattle.zs_session.specs.Devices.{journals}
use Rattle.std.proofs.Common.{◌∙◌, ◌++◌, List, ap, subst, sym}
use Rattle.zs_machine.specs.declared.event.Step.{Step}
use Rattle.zs_machine.specs.Told.{TellsSync}
use Rattle.zs_session.proofs.Histories.{line_after, went_twice}
use Rattle.zs_session.proofs.Outcomes.{where_ok}
use Rattle.zs_session.proofs.lines.end_sync.Goals as goal

pub end_line-requires-clause-reply : goal.end_line-requires-clause-reply
end_line-requires-clause-reply g c =
    let made = c.in_ok-sync.ensures.told in
    record {
      step = (c.in_ok-sync.ensures.up.up, c.in_ok-sync.ensures.up.between);
      told = subst (λ (ss : List Step). TellsSync ss) (sym (made.is ∙ ap (λ (ss : List Step). ss ++ made.made) c.requires.ready.fresh)) made.tells;
      none = tt;
      pool = tt;
    }

pub returns-clause-goes_on : goal.returns-clause-goes_on
returns-clause-goes_on g c =
    where_ok c.end_line.result (λ alone. went_twice _ _ _ _ _ _ _ _ c.in_ok-sync.ensures.goes_on (alone (journals (g.C.Children.device c.sync.new.rig.set)))) c.end_line.ensures.goes_on

pub returns-clause-stops : goal.returns-clause-stops
returns-clause-stops g c = line_after _ _ _ _ _ _ c.in_ok-sync.ensures.goes_on c.end_line.ensures.stops
