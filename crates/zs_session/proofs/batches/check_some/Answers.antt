use Rattle.zs_session.specs.Devices.{journals}
use Rattle.std.proofs.Common.{◌≤◌, ap, ◌∙◌, refl, length, arith}
use Rattle.zs_scan.specs.declared.batch.Batch.{Batch}
use Rattle.zs_core.specs.View.{CoreView}
use Rattle.zs_session.proofs.Draining.{few_held}
use Rattle.zs_session.proofs.Histories.{passes_event, passes_kept, passes_went, silent_adds, went_adds, went_after, went_twice, passes_still}
use Rattle.zs_session.proofs.Sets.{longer_of, longer_none}
use Rattle.zs_session.proofs.Judged.{flies, whole_of, waiting_stays}
use Rattle.zs_session.proofs.LineSteps.{was_issued}
use Rattle.zs_session.proofs.Taking.{took_all, took_still, as_many_shown}
use Rattle.zs_session.proofs.batches.check_some.Goals as goal

pub judge-requires-clause-flies : goal.judge-requires-clause-flies
judge-requires-clause-flies g c =
    let some : 1 ≤ length c.in_ok-batch.batch.items = omega (arith, c.len.ensures, c.if-len-eq0.false) in
    flies c.args.pool.now.core.scan c.hold.new.self.core.scan c.in_ok-batch.batch (c.in_ok-batch.ensures.taken some)

pub returns-in_err-judge-clause-passes : goal.returns-in_err-judge-clause-passes
returns-in_err-judge-clause-passes g c =
    passes_kept _ _ _ _ _ _ _ _ refl c.in_ok-batch.ensures.event (ap (λ (v : CoreView). v.shape) c.in_ok-batch.ensures.core) refl c.in_err-judge.ensures.err (longer_of _ _ _ _ c.judge.ensures.calls.set)

pub returns-then-len-eq0-clause-passes : goal.returns-then-len-eq0-clause-passes
returns-then-len-eq0-clause-passes g c = passes_event _ _ _ _ _ _ _ refl c.in_ok-batch.ensures.event (ap (λ (v : CoreView). v.shape) c.in_ok-batch.ensures.core) refl (longer_none _)

pub returns-in_err-issued_last-clause-passes : goal.returns-in_err-issued_last-clause-passes
returns-in_err-issued_last-clause-passes g c =
    passes_went _ _ _ _ _ (silent_adds _ _ _ _ c.in_ok-judge.ensures.verdict.event ∙ silent_adds _ _ _ _ c.in_ok-batch.ensures.event)
    (went_after _ _ _ _ _ _ _ (went_adds _ _ _ _ _ c.in_ok-batch.ensures.event (ap (λ (v : CoreView). v.shape) c.in_ok-batch.ensures.core) (λ same. refl) (journals (g.C.Children.device c.args.rig.now.set))) c.in_ok-judge.ensures.goes_on)

pub returns-clause-passes : goal.returns-clause-passes
returns-clause-passes g c =
    passes_went _ _ _ _ _ (silent_adds _ _ _ _ c.in_ok-judge.ensures.verdict.event ∙ silent_adds _ _ _ _ c.in_ok-batch.ensures.event)
    (went_after _ _ _ _ _ _ _ (went_adds _ _ _ _ _ c.in_ok-batch.ensures.event (ap (λ (v : CoreView). v.shape) c.in_ok-batch.ensures.core) (λ same. refl) (journals (g.C.Children.device c.args.rig.now.set))) c.in_ok-judge.ensures.goes_on)

pub returns-clause-told : goal.returns-clause-told
returns-clause-told g c =
    let verdict = c.in_ok-judge.ensures.verdict in
    let some : 1 ≤ length c.in_ok-batch.batch.items = omega (arith, c.len.ensures, c.if-len-eq0.false) in
    was_issued _ _ _ _ _ _ _ _ _ _ _ _ _ _ _ c.requires.ready.fresh c.in_ok-batch.ensures.event verdict.event
    (few_held c.in_ok-batch.batch c.args.pool.now.core.scan.waiting c.args.vdev c.args.pieces (ap (λ (b : Batch). b.items) c.in_ok-batch.ensures.batch))
    refl (whole_of _ _ c.args.pool.now.core.scan _ _ c.in_ok-batch.batch verdict (c.in_ok-batch.ensures.taken some)) (c.in_ok-issued_last.ensures _ _ (c.history.ensures ∙ verdict.event))

pub returns-clause-all : goal.returns-clause-all
returns-clause-all g c =
    let verdict = c.in_ok-judge.ensures.verdict in
    let some : 1 ≤ length c.in_ok-batch.batch.items = omega (arith, c.len.ensures, c.if-len-eq0.false) in
    let whole = whole_of _ _ c.args.pool.now.core.scan _ _ c.in_ok-batch.batch verdict (c.in_ok-batch.ensures.taken some) in
    took_still c.hold.new.self.core.scan c.judge.new.pool.core.scan c.args.vdev c.args.pieces (length c.in_ok-batch.batch.items) _
    (took_all c.args.pool.now.core.scan c.hold.new.self.core.scan c.in_ok-batch.batch c.args.vdev c.args.pieces c.facts.ensures.safe.orderly c.requires.some (ap (λ (b : Batch). b.items) c.in_ok-batch.ensures.batch) c.in_ok-batch.ensures.taken c.in_ok-batch.ensures.none)
    (waiting_stays _ _ _ _ _ verdict) (as_many_shown _ verdict.made c.in_ok-batch.batch.items (c.in_ok-issued_last.ensures _ _ (c.history.ensures ∙ verdict.event)) whole)

pub returns-clause-goes_on : goal.returns-clause-goes_on
returns-clause-goes_on g c =
    went_twice _ _ _ _ _ _ _ _ (went_adds _ _ _ _ _ c.in_ok-batch.ensures.event (ap (λ (v : CoreView). v.shape) c.in_ok-batch.ensures.core) (λ same. refl) (journals (g.C.Children.device c.args.rig.now.set))) c.in_ok-judge.ensures.goes_on

pub returns-in_err-batch-clause-passes : goal.returns-in_err-batch-clause-passes
returns-in_err-batch-clause-passes g c = passes_still _ _ _ _ _ c.in_err-batch.ensures.err.0 (ap (λ (v : CoreView). v.shape) c.hold.ensures.core) (longer_none _)
