use Rattle.zs_ranges.proofs.Merging.{next_behind, merging_step}
use Rattle.zs_ranges.proofs.merge.put_all.Goals as goal

pub put_behind-requires-clause-behind : goal.put_behind-requires-clause-behind
put_behind-requires-clause-behind c = next_behind _ _ _ _ _ _ c.loop-s-test.true c.loop-s.invariant

pub loop-s-preserved : goal.loop-s-preserved
loop-s-preserved c = merging_step _ _ _ _ _ _ _ c.loop-s-test.true tt c.loop-s.invariant c.in_ok-put_behind.ensures.ok
