use Rattle.std.proofs.Common.{◌≡◌, ◌∙◌, ◌+◌, ◌≤◌, ap, subst, List, filter, length, arith}
use Rattle.std.proofs.lemmas.Grind.{common_steps}
use Rattle.zs_ids.specs.declared.block.Piece.{Piece}
use Rattle.zs_scan.specs.View.{Mark, MarksAs, is_flying}
use Rattle.std.specs.Prelude.{Some}
use Rattle.zs_scan.proofs.Counts.{fly_kept, few_fly}
use Rattle.zs_scan.proofs.marks.Marks.fly.Goals as goal

pub returns-clause-mark : goal.returns-clause-mark
returns-clause-mark c = subst (λ (l : List (Piece × Mark)). MarksAs l c.insert.new.self.entries c.args.piece (Some (Some c.args.number))) c.self.view_is (c.in-Ok.ensures.updates).0

pub returns-clause-flying : goal.returns-clause-flying
returns-clause-flying c = fly_kept _ _ _ c.args.piece c.args.number c.self.view_is c.in-Ok.ensures.entries c.requires

pub invariant_of-self : goal.invariant_of-self
invariant_of-self c =
    let count : c.self.inside.flying ≡ length (filter is_flying c.args.self.now) = c.self.invariant.0 ∙ ap (λ (l : List (Piece × Mark)). length (filter is_flying l)) c.self.view_is in
    let more : length (filter is_flying c.insert.new.self.entries) ≡ length (filter is_flying c.args.self.now) + 1 = fly_kept _ _ _ c.args.piece c.args.number c.self.view_is c.in-Ok.ensures.entries c.requires in
    (omega (arith, count, more), c.insert.ensures.ordered)

pub overflow_add-self : goal.overflow_add-self
overflow_add-self c =
    let count : c.self.inside.flying ≡ length (filter is_flying c.args.self.now) = c.self.invariant.0 ∙ ap (λ (l : List (Piece × Mark)). length (filter is_flying l)) c.self.view_is in
    let more : length (filter is_flying c.insert.new.self.entries) ≡ length (filter is_flying c.args.self.now) + 1 = fly_kept _ _ _ c.args.piece c.args.number c.self.view_is c.in-Ok.ensures.entries c.requires in
    let few : length (filter is_flying c.insert.new.self.entries) ≤ length c.insert.new.self.entries = few_fly c.insert.new.self.entries in
    grind (arith, common_steps)
