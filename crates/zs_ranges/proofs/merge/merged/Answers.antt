use Rattle.std.proofs.Common.{◌<◌, ◌≤◌, ℕ, arith}
use Rattle.zs_ranges.proofs.Merging.{next_behind, merging_step, merging_swap, rises_at}
use Rattle.zs_ranges.specs.declared.set.Interval.{Interval}
use Rattle.zs_ranges.proofs.merge.merged.Goals as goal

-- what stands past the end of a list in the goals
abbrev none : Interval
none = record { first = 0; last = 0 }

lt_to_le : {a b : ℕ} → a < b → a ≤ b
lt_to_le {a} {b} lt = omega arith

pub put_behind-requires-clause-behind : goal.put_behind-requires-clause-behind
put_behind-requires-clause-behind c = next_behind _ _ _ _ _ _ c.loop-i-test.true c.loop-i.invariant.merging

pub loop-i-preserved-then-a-i : goal.loop-i-preserved-then-a-i
loop-i-preserved-then-a-i c = record {
  in_a = omega arith;
  in_b = c.loop-i.invariant.in_b;
  merging = merging_step _ _ _ _ _ _ none c.loop-i-test.true (rises_at _ _ none _ _ c.if-j-b.true c.if-a-i.true c.loop-i.invariant.merging.rises_b) c.loop-i.invariant.merging c.in_ok-put_behind.ensures.ok;
}

pub put_behind-requires-else-a-i-clause-behind : goal.put_behind-requires-else-a-i-clause-behind
put_behind-requires-else-a-i-clause-behind c = next_behind _ _ _ _ _ _ c.if-j-b.true (merging_swap _ _ _ _ _ c.loop-i.invariant.merging)

pub loop-i-preserved : goal.loop-i-preserved
loop-i-preserved c = record {
  in_a = c.loop-i.invariant.in_a;
  in_b = omega arith;
  merging = merging_swap _ _ _ _ _ (merging_step _ _ _ _ _ _ none c.if-j-b.true (rises_at _ _ none _ _ c.loop-i-test.true (lt_to_le c.if-a-i.false) c.loop-i.invariant.merging.rises_a) (merging_swap _ _ _ _ _ c.loop-i.invariant.merging) c.in_ok-put_behind-2.ensures.ok);
}
