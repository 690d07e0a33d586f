use Rattle.std.proofs.Common.{arith, refl, sym, ap, ◌∙◌}
use Rattle.std.proofs.lemmas.Bool.{true≢false}
use Rattle.zs_scan.specs.View.{ScanView}
use Rattle.zs_scan.proofs.OfItems.{none_more, is_found}
use Rattle.zs_scan.proofs.scan.Scan.is_verdict.Goals as goal

pub returns-then-is_of_batch : goal.returns-then-is_of_batch
returns-then-is_of_batch c =
    ((λ t. is_found c.args.self.now c.self.inside.flight.items c.index.result.now c.loop-i.i c.args.number c.args.entries.now (ap (λ (v : ScanView). v.flight) c.self.view_is) (omega (arith, c.loop-i-test.true, c.len-i-end.ensures)) c.index.ensures (c.is_of_batch.ensures.0 c.if-is_of_batch.true)), (λ is. refl))

pub loop-i-preserved : goal.loop-i-preserved
loop-i-preserved c =
    none_more c.self.inside.flight.items c.args.self.now.flight c.index.result.now c.loop-i.i c.args.number c.args.entries.now (ap (λ (v : ScanView). v.flight) c.self.view_is) (omega (arith, c.loop-i-test.true, c.len-i-end.ensures)) c.index.ensures (λ is. true≢false (sym (c.is_of_batch.ensures.1 is) ∙ c.if-is_of_batch.false)) c.loop-i.invariant
