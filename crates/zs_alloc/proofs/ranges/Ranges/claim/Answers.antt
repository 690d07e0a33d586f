use Rattle.std.proofs.Common.{◌∙◌, ◌≤◌, ◌+◌, arith}
use Rattle.zs_alloc.proofs.Split.{run_free, free_run, split_cut, run_end}
use Rattle.zs_alloc.proofs.ranges.Ranges.claim.Goals as goal

pub returns-then-from-clause-refused : goal.returns-then-from-clause-refused
returns-then-from-clause-refused c = λ run.
    let fits : c.args.first + c.args.sectors ≤ c.self.inside.end = run_end _ c.args.first c.args.sectors c.requires (rw (← c.self.view_is) at run) in
    absurd (omega arith)

pub is_free-requires-clause-within : goal.is_free-requires-clause-within
is_free-requires-clause-within c = let len = c.self.invariant.len in omega arith

pub returns-then-not-is_free-clause-refused : goal.returns-then-not-is_free-clause-refused
returns-then-not-is_free-clause-refused c = λ run. (c.if-not-is_free.ensures).no (run_free _ _ _ _ c.self.invariant.split c.args.first c.args.sectors (rw (← c.self.view_is) at run))

pub returns-in_default-clause-refused : goal.returns-in_default-clause-refused
returns-in_default-clause-refused c = λ none. none (rw (← c.self.view_is) (free_run _ _ _ _ c.self.invariant.split c.args.first c.args.sectors (c.if-not-is_free.ensures).yes))

pub invariant_of-self-2 : goal.invariant_of-self-2
invariant_of-self-2 c = record {
  split = split_cut _ _ _ _ c.self.invariant.split c.args.first c.args.sectors _ _ c.requires (c.if-not-is_free.ensures).yes c.in-Ok.ensures.free c.in-Ok.ensures.taken c.occupy.ensures.ordered;
  summed = c.occupy.ensures.summed;
  len = c.occupy.ensures.len ∙ c.self.invariant.len;
}

pub returns-clause-free : goal.returns-clause-free
returns-clause-free c = rw (← c.self.view_is) (free_run _ _ _ _ c.self.invariant.split c.args.first c.args.sectors (c.if-not-is_free.ensures).yes)
