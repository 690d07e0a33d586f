use Rattle.zs_label.proofs.Reading.{so_far_next, broken_next, if_refused}
use Rattle.zs_label.proofs.images.read_all.Goals as goal

pub loop-dev-preserved : goal.loop-dev-preserved
loop-dev-preserved g c = so_far_next _ _ _ _ _ _ c.loop-dev.dev _ _ _ _ c.loop-dev.invariant c.in_ok-other.ensures.done c.look.ensures.only

pub returns-in_err-other-clause-memory : goal.returns-in_err-other-clause-memory
returns-in_err-other-clause-memory g c = if_refused c.from_residual.result
    (broken_next _ _ _ _ _ _ c.loop-dev.dev c.args.devices _ _ c.loop-dev-test.true c.loop-dev.invariant c.in_err-other.ensures.memory c.look.ensures.only)
