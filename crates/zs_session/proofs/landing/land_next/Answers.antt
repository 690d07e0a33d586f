use Rattle.std.proofs.Common.{◌≡◌, ◌∙◌, ap, sym}
use Rattle.std.specs.Prelude.{Some}
use Rattle.zs_scan.specs.Flight.{first_of}
use Rattle.zs_scan.specs.View.{ScanView}
use Rattle.zs_session.proofs.Histories.{silent_adds}
use Rattle.zs_session.proofs.Judged.{fewer_land}
use Rattle.zs_session.proofs.Walking.{goes_judged}
use Rattle.zs_session.proofs.landing.land_next.Goals as goal

pub returns-clause-next : goal.returns-clause-next
returns-clause-next g c =
    let first : Some c.in-Some.batch ≡ first_of c.args.pool.now.core.scan.flight = sym c.in-Some.is ∙ (c.in_ok-batch.ensures ∙ ap (λ (v : ScanView). first_of v.flight) c.scan.ensures) in
    record {
      none = λ h. cc;
      verdict = record { batch = c.in-Some.batch; first = first; verdict = c.in_ok-judge.ensures.verdict };
      fewer = λ many is. fewer_land _ _ _ _ c.in-Some.batch c.in_ok-judge.ensures.verdict first;
    }

pub returns-clause-silent : goal.returns-clause-silent
returns-clause-silent g c = silent_adds _ _ _ _ c.in_ok-judge.ensures.verdict.event

pub returns-clause-scan : goal.returns-clause-scan
returns-clause-scan g c = goes_judged _ _ c.in_ok-judge.ensures.time c.in_ok-judge.ensures.graph (ap (λ (v : ScanView). v.run) c.in_ok-judge.ensures.verdict.judged.rest)
