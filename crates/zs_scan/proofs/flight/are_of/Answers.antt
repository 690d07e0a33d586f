use Rattle.std.proofs.Common.{refl, sym, ◌∙◌}
use Rattle.std.proofs.lemmas.Bool.{true≢false}
use Rattle.zs_scan.proofs.OfItems.{as_many, goes_on, differs, ends}
use Rattle.zs_scan.proofs.flight.are_of.Goals as goal

pub returns-then-items-entries : goal.returns-then-items-entries
returns-then-items-entries c =
    ((λ t. absurd (true≢false (sym t))), (λ are. absurd (c.if-items-entries.true (as_many c.args.items.now c.args.entries.now are))))

pub returns-then-not-is_of : goal.returns-then-not-is_of
returns-then-not-is_of c =
    ((λ t. absurd (true≢false (sym t))), (λ are. absurd (differs c.args.items.now c.args.entries.now c.loop-i.i _ _ c.loop-i-test.true c.if-items-entries.false (λ is. true≢false (sym (c.is_of.ensures.1 is) ∙ c.if-not-is_of.true)) c.loop-i.invariant are)))

pub loop-i-preserved : goal.loop-i-preserved
loop-i-preserved c =
    goes_on c.args.items.now c.args.entries.now c.loop-i.i _ _ c.loop-i-test.true c.if-items-entries.false (c.is_of.ensures.0 c.if-not-is_of.false) c.loop-i.invariant

pub returns : goal.returns
returns c =
    ((λ t. c.loop-i.invariant.0 (ends c.args.items.now c.args.entries.now c.loop-i.i c.loop-i-test.false c.if-items-entries.false)), (λ are. refl))
