use Rattle.std.proofs.Common.{◌∙◌, ap, subst, List, filter, length, sym}
use Rattle.zs_ids.specs.declared.block.Piece.{Piece}
use Rattle.zs_scan.specs.View.{Mark, MarksAs, is_flying}
use Rattle.std.specs.Prelude.{None, Some}
use Rattle.zs_scan.proofs.Counts.{wait_kept}
use Rattle.zs_scan.proofs.marks.Marks.wait.Goals as goal

pub invariant_of-self-2 : goal.invariant_of-self-2
invariant_of-self-2 c =
    (c.self.invariant.0 ∙ ap (λ (l : List (Piece × Mark)). length (filter is_flying l)) c.self.view_is ∙ sym (wait_kept _ _ _ c.args.piece c.self.view_is c.in_ok-insert.ensures.entries c.requires), c.insert.ensures.ordered)

pub returns-clause-ok : goal.returns-clause-ok
returns-clause-ok c = subst (λ (l : List (Piece × Mark)). MarksAs l c.insert.new.self.entries c.args.piece (Some None)) c.self.view_is (c.in_ok-insert.ensures.updates).0

pub returns-clause-flying : goal.returns-clause-flying
returns-clause-flying c = wait_kept _ _ _ c.args.piece c.self.view_is c.in_ok-insert.ensures.entries c.requires
