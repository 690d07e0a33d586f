use Rattle.std.proofs.Common.{refl, ap}
use Rattle.zs_session.proofs.Histories.{passes_event, passes_same}
use Rattle.zs_core.specs.View.{CoreView}
use Rattle.zs_session.proofs.Sets.{longer_none}
use Rattle.zs_session.proofs.LineSteps.{one_more, none_more}
use Rattle.zs_session.proofs.turns.turn.Goals as goal

pub returns-in-Ok-clause-counts : goal.returns-in-Ok-clause-counts
returns-in-Ok-clause-counts c = record {
  made = λ is. one_more _ _ _ _ _ c.in-Ok.ensures.event (c.outcome_of.ensures.made cc);
  none = λ other. none_more _ _ _ _ _ c.in-Ok.ensures.event (c.outcome_of.ensures.none other);
}

pub returns-in-Ok-clause-passes : goal.returns-in-Ok-clause-passes
returns-in-Ok-clause-passes c js = passes_event _ _ _ _ js js _ refl c.in-Ok.ensures.event (ap (λ (v : CoreView). v.shape) c.walk.ensures.core) refl (longer_none js)

pub returns-in-Err-Memory-clause-passes : goal.returns-in-Err-Memory-clause-passes
returns-in-Err-Memory-clause-passes c js = passes_same _ _ _ js js c.in-Err-Memory.ensures.err (longer_none js)
