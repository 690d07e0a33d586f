use Rattle.std.proofs.lemmas.Grind.{common_steps}
use Rattle.std.proofs.Common.{length, ◌≤◌, ◌≡◌, ◌+◌, arith, ap, sym, ◌∙◌, cond, true, false, Bool}
use Rattle.std.specs.List.{list_any}
use Rattle.zs_ledger.specs.Entry.{has_error}
use Rattle.zs_ledger.specs.Kept.{is_spot, spot_of}
use Rattle.zs_ledger.specs.declared.ledger.Spot.{Spot}
use Rattle.zs_ledger.proofs.Agrees.{pushed, at_ok, few_errors}
use Rattle.zs_ledger.proofs.ledger.Ledger.push.Goals as goal

pub invariant_of-self : goal.invariant_of-self
invariant_of-self c =
    let error : has_error c.args.entry ≡ true = sym c.has_error.ensures ∙ c.if-has_error.true in
    let puts : (q : Spot) → list_any (is_spot q) c.insert.new.self.keys ≡ cond (is_spot (spot_of c.args.entry.piece) q) true (list_any (is_spot q) c.self.inside.pieces.keys) =
    λ q. (at_ok c.insert.result (sym c.if-is_err.ensures.value) c.insert.ensures.updates).0 q ∙ ap (λ (s : Spot). cond (is_spot s q) true (list_any (is_spot q) c.self.inside.pieces.keys)) c.of.ensures in
    rw (c.push.ensures.items, c.if-is_err-2.ensures.negation) (pushed _ _ _ _ _ (c.self.inside.errors + 1) c.self.invariant puts (rw error (omega arith)))

pub invariant_of-self-else-has_error : goal.invariant_of-self-else-has_error
invariant_of-self-else-has_error c =
    let error : has_error c.args.entry ≡ false = sym c.has_error.ensures ∙ c.if-has_error.false in
    let puts : (q : Spot) → list_any (is_spot q) c.insert.new.self.keys ≡ cond (is_spot (spot_of c.args.entry.piece) q) true (list_any (is_spot q) c.self.inside.pieces.keys) =
    λ q. (at_ok c.insert.result (sym c.if-is_err.ensures.value) c.insert.ensures.updates).0 q ∙ ap (λ (s : Spot). cond (is_spot s q) true (list_any (is_spot q) c.self.inside.pieces.keys)) c.of.ensures in
    rw (c.push.ensures.items, c.if-is_err-2.ensures.negation) (pushed _ _ _ _ _ c.self.inside.errors c.self.invariant puts (rw error (omega arith)))

pub overflow_add-self : goal.overflow_add-self
overflow_add-self c =
    let few : c.self.inside.errors ≤ length c.self.inside.entries.items = few_errors _ _ _ c.self.invariant in
    grind (arith, common_steps)
