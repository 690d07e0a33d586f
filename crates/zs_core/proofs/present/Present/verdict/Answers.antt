-- The batch has its verdict: what was made may be added, and the scan stays the datasets' own.
use Rattle.std.proofs.Common.{sym, ap, refl}
use Rattle.std.proofs.lemmas.Bool.{true≢false}
use Rattle.zs_scan.specs.View.{ScanView}
use Rattle.zs_core.specs.Kept.{Facts, view_of}
use Rattle.zs_core.proofs.Scanned.{with_scan}
use Rattle.zs_core.proofs.Judged.{judged_step}
use Rattle.zs_core.proofs.present.Present.verdict.Goals as goal

pub returns-then-not-is_verdict-clause-judged : goal.returns-then-not-is_verdict-clause-judged
returns-then-not-is_verdict-clause-judged c = (λ is. true≢false (sym (c.if-not-is_verdict.ensures.1 (rw (← c.self.view_is) at is))), refl)

pub invariant_of-self : goal.invariant_of-self
invariant_of-self c =
    let same = (c.verdict.ensures.judged).rest in
    with_scan c.self.inside c.verdict.new.self c.self.invariant
    (record { limit = ap (λ (v : ScanView). v.limit) same; every = ap (λ (v : ScanView). v.every) same; width = ap (λ (v : ScanView). v.scope.width) same; max = ap (λ (v : ScanView). v.scope.max) same })
    (λ start blocks was. c.verdict.ensures.keeps _ _ _ _ was)

pub returns-clause-step : goal.returns-clause-step
returns-clause-step c =
    let f : Facts c.self.inside = c.self.invariant in
    rw (← c.self.view_is) (judged_step (view_of c.self.inside).state c.self.inside.scan c.verdict.new.self c.args.number c.args.entries.now c.in_ok-made.made.items refl c.facts.ensures c.verdict.ensures.judged c.in_ok-made.ensures (rw c.in_ok-made.ensures (c.verdict.ensures.made_of _ (f.scan).live)))
