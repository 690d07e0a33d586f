use Rattle.std.proofs.Common.{◌≤◌, ◌+◌, ◌∙◌, arith}
use Rattle.zs_alloc.specs.Space.{fresh}
use Rattle.zs_alloc.proofs.Split.{taken_free, taken_end, split_put}
use Rattle.zs_alloc.proofs.ranges.Ranges.give.Goals as goal

pub release-requires-clause-covered : goal.release-requires-clause-covered
release-requires-clause-covered c = taken_free _ _ _ _ c.self.invariant.split c.args.first (fresh c.args.sectors) (rw (← c.self.view_is) at c.requires)

pub release-requires-clause-within : goal.release-requires-clause-within
release-requires-clause-within c =
    let end : c.args.first + c.args.sectors ≤ c.self.inside.end = taken_end _ _ _ _ c.self.invariant.split c.args.first (fresh c.args.sectors) (rw (← c.self.view_is) at c.requires) in
    let len = c.self.invariant.len in
    omega (arith, end, len)

pub invariant_of-self : goal.invariant_of-self
invariant_of-self c = record {
  split = split_put _ _ _ _ c.self.invariant.split c.args.first (fresh c.args.sectors) (rw (← c.self.view_is) at c.requires) _ _ c.release.ensures.free c.release.ensures.taken c.release.ensures.ordered;
  summed = c.release.ensures.summed;
  len = c.release.ensures.len ∙ c.self.invariant.len;
}
