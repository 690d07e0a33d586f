use Rattle.zs_ranges.proofs.Cutting.{cutting_behind, cutting_step}
use Rattle.zs_ranges.proofs.merge.without.Goals as goal

pub put_below-requires-clause-behind : goal.put_below-requires-clause-behind
put_below-requires-clause-behind c = cutting_behind _ _ _ _ _ _ c.loop-s-test.true c.loop-s.invariant

pub loop-s-preserved : goal.loop-s-preserved
loop-s-preserved c = cutting_step _ _ _ _ _ _ _ _ c.loop-s-test.true c.requires.range c.loop-s.invariant c.in_ok-put_below.ensures c.in_ok-put_above.ensures
