use Rattle.std.proofs.Common.{arith, ◌≡◌, ◌∙◌, ◌≤◌, ◌+◌, ℕ, List, true, false, sym, ap}
use Rattle.zs_alloc.specs.declared.taken.Taken.{Taken}
use Rattle.zs_alloc.specs.Space.{MirrorView, is_over}
use Rattle.zs_alloc.proofs.Split.{taken_free, taken_end, split_put}
use Rattle.zs_alloc.proofs.Changes.{over_goes, not_over, split_update}
use Rattle.zs_alloc.proofs.ranges.Ranges.update.Goals as goal

pub release-requires-clause-covered : goal.release-requires-clause-covered
release-requires-clause-covered c = rw (← c.requires.size) (taken_free _ _ _ _ c.self.invariant.split c.args.first c.requires.was (rw (← c.self.view_is) at c.requires.there))

pub release-requires-clause-within : goal.release-requires-clause-within
release-requires-clause-within c =
    let end : c.args.first + c.requires.was.sectors ≤ c.self.inside.end = taken_end _ _ _ _ c.self.invariant.split c.args.first c.requires.was (rw (← c.self.view_is) at c.requires.there) in
    let size = c.requires.size in
    let len = c.self.invariant.len in
    omega (arith, end, size, len)

pub invariant_of-self : goal.invariant_of-self
invariant_of-self c = record {
  split = split_put _ _ _ _ c.self.invariant.split c.args.first c.requires.was (rw (← c.self.view_is) at c.requires.there) _ _ (rw (← c.requires.size) at c.release.ensures.free) c.release.ensures.taken c.release.ensures.ordered;
  summed = c.release.ensures.summed;
  len = c.release.ensures.len ∙ c.self.invariant.len;
}

pub returns-then-is_over : goal.returns-then-is_over
returns-then-is_over c =
    let made : List (ℕ × Taken) → MirrorView = λ t. record { start = c.self.inside.start; end = c.self.inside.end; taken = t } in
    let over : is_over c.args.range ≡ true = sym c.is_over.ensures ∙ c.if-is_over.true in
    rw (← c.self.view_is) (ap made (c.release.ensures.taken ∙ sym (over_goes _ _ _ _ over c.self.invariant.split.sorted c.self.invariant.split.kept (rw (← c.self.view_is) at c.requires.there))))

pub invariant_of-self-2 : goal.invariant_of-self-2
invariant_of-self-2 c =
    let over : is_over c.args.range ≡ false = sym c.is_over.ensures ∙ c.if-is_over.false in
    record {
      split = split_update _ _ _ _ c.args.first c.args.range _ c.self.invariant.split (rw (← c.self.view_is) at c.requires) over c.in-Ok.ensures.entries c.insert.ensures.ordered;
      summed = c.self.invariant.summed;
      len = c.self.invariant.len;
    }

pub returns : goal.returns
returns c =
    let made : List (ℕ × Taken) → MirrorView = λ t. record { start = c.self.inside.start; end = c.self.inside.end; taken = t } in
    let over : is_over c.args.range ≡ false = sym c.is_over.ensures ∙ c.if-is_over.false in
    rw (← c.self.view_is) (ap made (c.in-Ok.ensures.entries ∙ sym (not_over _ _ _ over c.self.invariant.split.kept)))
