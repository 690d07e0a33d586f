use Rattle.std.specs.List.{list_any}
use Rattle.std.proofs.Common.{◌==◌, ◌≡◌, ◌∙◌, ap, List, map, filter, ℕ}
use Rattle.std.proofs.lemmas.Result.{IfOk-weaker}
use Rattle.zs_ledger.specs.declared.entry.Entry.{Entry}
use Rattle.zs_ledger.specs.Entry.{failed_on}
use Rattle.zs_ledger.specs.Kept.{Kept}
use Rattle.zs_ledger.proofs.Births.{births_found}
use Rattle.zs_ledger.proofs.ledger.Ledger.failed_births.Goals as goal

pub returns : goal.returns
returns c =
    let births : c.in_ok-births.births.items ≡ map (λ (e : Entry). e.piece.birth) (filter (failed_on c.args.dev c.args.width) c.args.self.now.entries) =
    c.in_ok-births.ensures ∙ ap (λ (es : List Entry). map (λ (e : Entry). e.piece.birth) (filter (failed_on c.args.dev c.args.width) es)) (c.deref.ensures.value ∙ ap (λ (k : Kept). k.entries) c.self.view_is) in
    IfOk-weaker c.set_of.result _ _ (λ set has t. has t ∙ ap (λ (l : List ℕ). list_any (λ txg. txg == t) l) c.deref-2.ensures.value ∙ births_found c.args.self.now.entries c.args.dev c.args.width _ _ births c.sort_unstable.ensures.permutation t) c.set_of.ensures
