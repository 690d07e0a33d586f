use Rattle.std.proofs.Common.{◌∙◌}
use Rattle.zs_alloc.proofs.Split.{run_free, free_run, split_cut}
use Rattle.zs_alloc.proofs.ranges.Ranges.take.Goals as goal

pub returns-in_default-clause-refused : goal.returns-in_default-clause-refused
returns-in_default-clause-refused c = record { none = λ first run. c.in_default.ensures first (run_free _ _ _ _ c.self.invariant.split first c.args.sectors (rw (← c.self.view_is) at run)) }

pub returns-in_default-occupy-clause-refused : goal.returns-in_default-occupy-clause-refused
returns-in_default-occupy-clause-refused c = λ no_run. no_run.none c.in-Some.first (rw (← c.self.view_is) (free_run _ _ _ _ c.self.invariant.split c.in-Some.first c.args.sectors (c.in-Some.ensures).0))

pub invariant_of-self-2 : goal.invariant_of-self-2
invariant_of-self-2 c = record {
  split = split_cut _ _ _ _ c.self.invariant.split c.in-Some.first c.args.sectors _ _ c.requires (c.in-Some.ensures).0 c.in-Ok.ensures.free c.in-Ok.ensures.taken c.occupy.ensures.ordered;
  summed = c.occupy.ensures.summed;
  len = c.occupy.ensures.len ∙ c.self.invariant.len;
}

pub returns-clause-lowest : goal.returns-clause-lowest
returns-clause-lowest c = record {
  free = rw (← c.self.view_is) (free_run _ _ _ _ c.self.invariant.split c.in-Some.first c.args.sectors (c.in-Some.ensures).0);
  lowest = λ s run. (c.in-Some.ensures).1 s (run_free _ _ _ _ c.self.invariant.split s c.args.sectors (rw (← c.self.view_is) at run));
}
