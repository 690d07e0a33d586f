use Rattle.std.proofs.Common.{rules, ◌≡◌, ◌∙◌, ap, subst, filter, List}
use Rattle.std.specs.List.Sorted.{IsPermutation, IsStableByKey}
use Rattle.std.proofs.lemmas.List.Sorted.{answers_always}
use Rattle.zs_ledger.specs.declared.entry.Entry.{Entry}
use Rattle.zs_ledger.specs.Entry.{has_error}
use Rattle.zs_ids.specs.Piece.{piece_cmp}
use Rattle.zs_ledger.specs.Kept.{Kept}
use Rattle.zs_ledger.proofs.ledger.Ledger.errors.Goals as goal

pub returns-clause-all : goal.returns-clause-all
returns-clause-all c =
    let found : c.in_ok-errors.errors.items ≡ filter has_error c.args.self.now.entries =
    c.in_ok-errors.ensures ∙ ap (λ (l : List Entry). filter has_error l) (c.deref.ensures.value ∙ ap (λ (k : Kept). k.entries) c.self.view_is) in
    subst (λ (l : List Entry). IsPermutation l c.sort_by_key.new.self.items) found c.in_ok-sort_by_key.ensures.permutation

pub returns-clause-sorted : goal.returns-clause-sorted
returns-clause-sorted c = c.in_ok-sort_by_key.ensures.sorted (λ e. e.piece) (answers_always _ _ _ (λ f a r g h. search rules))

pub returns-clause-stable : goal.returns-clause-stable
returns-clause-stable c =
    let found : c.in_ok-errors.errors.items ≡ filter has_error c.args.self.now.entries =
    c.in_ok-errors.ensures ∙ ap (λ (l : List Entry). filter has_error l) (c.deref.ensures.value ∙ ap (λ (k : Kept). k.entries) c.self.view_is) in
    subst (λ (l : List Entry). IsStableByKey (λ (e : Entry). e.piece) piece_cmp l c.sort_by_key.new.self.items) found
    (c.in_ok-sort_by_key.ensures.stable (λ e. e.piece) (answers_always _ _ _ (λ f a r g h. search rules)))
