use Rattle.std.proofs.Common.{◌≡◌, ◌∙◌, ◌+◌, ap, subst, List, filter, length, arith, cond}
use Rattle.zs_ids.specs.declared.block.Piece.{Piece}
use Rattle.zs_scan.specs.View.{Mark, mark_of, flies, MarksAs, is_flying}
use Rattle.std.specs.Prelude.{Option, None}
use Rattle.zs_scan.proofs.Counts.{remove_kept}
use Rattle.zs_scan.proofs.marks.Marks.remove.Goals as goal

pub returns-clause-mark : goal.returns-clause-mark
returns-clause-mark c = subst (λ (l : List (Piece × Mark)). MarksAs l c.remove-mark.new.self.entries c.args.piece None) c.self.view_is (c.remove-mark.ensures.updates).0

pub returns-clause-flying : goal.returns-clause-flying
returns-clause-flying c =
    let was : c.remove-mark.result ≡ mark_of c.args.self.now c.args.piece = c.remove-mark.ensures.value ∙ ap (λ (l : List (Piece × Mark)). mark_of l c.args.piece) c.self.view_is in
    ap (λ (m : Option Mark). length (filter is_flying c.remove-mark.new.self.entries) + cond (flies m) 1 0) was ∙ remove_kept _ _ _ c.args.piece c.self.view_is c.remove-mark.ensures.entries

pub overflow_sub-self : goal.overflow_sub-self
overflow_sub-self c =
    let was : c.remove-mark.result ≡ mark_of c.args.self.now c.args.piece = c.remove-mark.ensures.value ∙ ap (λ (l : List (Piece × Mark)). mark_of l c.args.piece) c.self.view_is in
    let weight : c.how_many_fly.result ≡ cond (flies (mark_of c.args.self.now c.args.piece)) 1 0 = c.how_many_fly.ensures ∙ ap (λ (m : Option Mark). cond (flies m) 1 0) was in
    let all : length (filter is_flying c.remove-mark.new.self.entries) + cond (flies (mark_of c.args.self.now c.args.piece)) 1 0 ≡ length (filter is_flying c.args.self.now) = remove_kept _ _ _ c.args.piece c.self.view_is c.remove-mark.ensures.entries in
    let count : c.self.inside.flying ≡ length (filter is_flying c.args.self.now) = c.self.invariant.0 ∙ ap (λ (l : List (Piece × Mark)). length (filter is_flying l)) c.self.view_is in
    omega (arith, weight, all, count)

pub invariant_of-self : goal.invariant_of-self
invariant_of-self c =
    let was : c.remove-mark.result ≡ mark_of c.args.self.now c.args.piece = c.remove-mark.ensures.value ∙ ap (λ (l : List (Piece × Mark)). mark_of l c.args.piece) c.self.view_is in
    let weight : c.how_many_fly.result ≡ cond (flies (mark_of c.args.self.now c.args.piece)) 1 0 = c.how_many_fly.ensures ∙ ap (λ (m : Option Mark). cond (flies m) 1 0) was in
    let all : length (filter is_flying c.remove-mark.new.self.entries) + cond (flies (mark_of c.args.self.now c.args.piece)) 1 0 ≡ length (filter is_flying c.args.self.now) = remove_kept _ _ _ c.args.piece c.self.view_is c.remove-mark.ensures.entries in
    let count : c.self.inside.flying ≡ length (filter is_flying c.args.self.now) = c.self.invariant.0 ∙ ap (λ (l : List (Piece × Mark)). length (filter is_flying l)) c.self.view_is in
    (omega (arith, weight, all, count), c.remove-mark.ensures.ordered)
