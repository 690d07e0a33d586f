use Rattle.std.proofs.Common.{[], ◌∙◌, ap, Ok, rules}
use Rattle.zs_session.proofs.Histories.{alone_after, halts_after, handed}
use Rattle.zs_session.proofs.turns.make_turns.Goals as goal

pub returns-in_err-turn-clause-stops : goal.returns-in_err-turn-clause-stops
returns-in_err-turn-clause-stops c = record {
  memory = search rules;
  went_on = λ js. handed _ (halts_after _ _ _ js js js [] (c.loop-made.invariant.goes_on js) (c.in_err-turn.ensures.passes js).went_on);
}

pub returns-in-Nothing-clause-goes_on : goal.returns-in-Nothing-clause-goes_on
returns-in-Nothing-clause-goes_on c = alone_after _ _ _ _ c.loop-made.invariant.goes_on c.in_ok-turn.ensures.goes_on

pub returns-in-Full-clause-goes_on : goal.returns-in-Full-clause-goes_on
returns-in-Full-clause-goes_on c = alone_after _ _ _ _ c.loop-made.invariant.goes_on c.in_ok-turn.ensures.goes_on

pub loop-made-preserved : goal.loop-made-preserved
loop-made-preserved c = record {
  up = c.in_ok-turn.ensures.up;
  goes_on = alone_after _ _ _ _ c.loop-made.invariant.goes_on c.in_ok-turn.ensures.goes_on;
  are = c.turn.ensures.counts.made (c.in_ok-turn.was ∙ ap Ok c.in-Made.is) _ c.loop-made.invariant.are;
}

pub returns-in-Due-clause-goes_on : goal.returns-in-Due-clause-goes_on
returns-in-Due-clause-goes_on c = alone_after _ _ _ _ c.loop-made.invariant.goes_on c.in_ok-turn.ensures.goes_on
