use Rattle.zs_session.specs.Devices.{journals}
use Rattle.std.proofs.Common.{List, [], ◌∷◌, ◌++◌, ◌≡◌, ◌≤◌, ◌<◌, ◌∙◌, ap, subst, sym, length, refl, arith}
use Rattle.std.proofs.lemmas.List.{length-map}
use Rattle.zs_ids.specs.declared.block.Item.{Item}
use Rattle.zs_scan.specs.declared.batch.Batch.{Batch}
use Rattle.zs_scan.specs.View.{ScanView}
use Rattle.zs_core.specs.View.{CoreView}
use Rattle.zs_session.proofs.Draining.{none_left, fewer_wait}
use Rattle.zs_session.proofs.Histories.{passes_event, passes_kept, passes_went, silent_adds, went_after, went_one, passes_still}
use Rattle.zs_session.proofs.Sets.{longer_of, longer_none}
use Rattle.zs_session.proofs.Judged.{flies, nothing_flies, waiting_stays}
use Rattle.zs_session.proofs.Walking.{timed_twice}
use Rattle.zs_session.proofs.Phases.{held_none, held_some}
use Rattle.zs_session.proofs.finishing.check_next.Goals as goal

pub returns-then-len-eq0-clause-none : goal.returns-then-len-eq0-clause-none
returns-then-len-eq0-clause-none g c is =
    let none : length c.in_ok-batch.batch.items ≡ 0 = omega (arith, c.len.ensures, c.if-len-eq0.true) in
    none_left c.args.pool.now.core c.hold.new.self.core.scan 32 c.in_ok-batch.batch.items c.facts.ensures.safe (omega arith) (c.in_ok-batch.ensures.none none) (ap (λ (b : Batch). b.items) c.in_ok-batch.ensures.batch) none

pub returns-then-len-eq0-clause-phase : goal.returns-then-len-eq0-clause-phase
returns-then-len-eq0-clause-phase g c r over may =
    let none : length c.in_ok-batch.batch.items ≡ 0 = omega (arith, c.len.ensures, c.if-len-eq0.true) in
    held_none _ _ _ _ _ _ _ c.in_ok-batch.ensures.event (length-map c.in_ok-batch.batch.items (λ (i : Item). i.piece) ∙ none) r over may

pub returns-then-len-eq0-clause-passes : goal.returns-then-len-eq0-clause-passes
returns-then-len-eq0-clause-passes g c = passes_event _ _ _ _ _ _ _ refl c.in_ok-batch.ensures.event (ap (λ (v : CoreView). v.shape) c.hold.ensures.core) refl (longer_none _)

pub judge-requires-clause-flies : goal.judge-requires-clause-flies
judge-requires-clause-flies g c =
    let some : 1 ≤ length c.in_ok-batch.batch.items = omega (arith, c.len.ensures, c.if-len-eq0.false) in
    flies c.args.pool.now.core.scan c.hold.new.self.core.scan c.in_ok-batch.batch (c.in_ok-batch.ensures.taken some)

pub returns-in_err-judge-clause-passes : goal.returns-in_err-judge-clause-passes
returns-in_err-judge-clause-passes g c =
    passes_kept _ _ _ _ _ _ _ _ refl c.in_ok-batch.ensures.event (ap (λ (v : CoreView). v.shape) c.hold.ensures.core) refl c.in_err-judge.ensures.err (longer_of _ _ _ _ c.judge.ensures.calls.set)

pub returns-clause-fewer : goal.returns-clause-fewer
returns-clause-fewer g c is =
    let some : 1 ≤ length c.in_ok-batch.batch.items = omega (arith, c.len.ensures, c.if-len-eq0.false) in
    subst (λ n. length n < length c.args.pool.now.core.scan.waiting) (sym (waiting_stays _ _ _ _ _ c.in_ok-judge.ensures.verdict))
    (fewer_wait c.args.pool.now.core.scan 32 0 c.in_ok-batch.batch.items c.hold.new.self.core.scan.waiting c.facts.ensures.safe.orderly (ap (λ (b : Batch). b.items) c.in_ok-batch.ensures.batch) some
    (ap (λ (v : ScanView). v.waiting) (c.in_ok-batch.ensures.taken some).rest))

pub returns-clause-phase : goal.returns-clause-phase
returns-clause-phase g c r over may =
    let some : 1 ≤ length c.in_ok-batch.batch.items = omega (arith, c.len.ensures, c.if-len-eq0.false) in
    held_some _ _ _ _ _ _ _ _ _ _ _ _ c.in_ok-batch.ensures.event c.in_ok-judge.ensures.verdict.event refl (subst (λ n. 1 ≤ n) (sym (length-map c.in_ok-batch.batch.items (λ (i : Item). i.piece))) some) r over may

pub returns-clause-goes_on : goal.returns-clause-goes_on
returns-clause-goes_on g c =
    went_after _ _ _ _ _ _ _ (went_one _ _ _ _ c.hold.new.self (journals (g.C.Children.device c.args.rig.now.set)) _ c.in_ok-batch.ensures.event (ap (λ (v : CoreView). v.shape) c.hold.ensures.core) refl) c.in_ok-judge.ensures.goes_on

pub returns-clause-passes : goal.returns-clause-passes
returns-clause-passes g c =
    passes_went _ _ _ _ _ (silent_adds _ _ _ _ c.in_ok-judge.ensures.verdict.event ∙ silent_adds _ _ _ _ c.in_ok-batch.ensures.event)
    (went_after _ _ _ _ _ _ _ (went_one _ _ _ _ c.hold.new.self (journals (g.C.Children.device c.args.rig.now.set)) _ c.in_ok-batch.ensures.event (ap (λ (v : CoreView). v.shape) c.hold.ensures.core) refl) c.in_ok-judge.ensures.goes_on)

pub returns-in_err-batch-clause-passes : goal.returns-in_err-batch-clause-passes
returns-in_err-batch-clause-passes g c = passes_still _ _ _ _ _ c.in_err-batch.ensures.err.0 (ap (λ (v : CoreView). v.shape) c.hold.ensures.core) (longer_none _)

pub returns-clause-still : goal.returns-clause-still
returns-clause-still g c =
    let some : 1 ≤ length c.in_ok-batch.batch.items = omega (arith, c.len.ensures, c.if-len-eq0.false) in
    let taken = (c.in_ok-batch.ensures.taken some).rest in
    let core = c.hold.ensures.core in
    let judged = c.in_ok-judge.ensures.verdict.judged.rest in
    record {
      time = timed_twice _ c.hold.new.self.core _ (record { applied = ap (λ (v : CoreView). v.state.applied) core; saved = ap (λ (v : ScanView). v.saved) taken; every = ap (λ (v : ScanView). v.every) taken; tasks = ap (λ (v : CoreView). v.state.open_txg.tasks) core }) c.in_ok-judge.ensures.time;
      graph = c.in_ok-judge.ensures.graph ∙ ap (λ (v : CoreView). v.state.graph) core;
      run = ap (λ (v : ScanView). v.run) judged ∙ ap (λ (v : ScanView). v.run) taken;
      flight = λ (none : c.args.pool.now.core.scan.flight ≡ []). nothing_flies c.hold.new.self.core.scan.flight c.judge.new.pool.core.scan.flight c.in_ok-batch.batch (ap (λ (v : ScanView). v.flight) taken ∙ ap (λ (bs : List Batch). bs ++ c.in_ok-batch.batch ∷ []) none) (ap (λ (v : ScanView). v.flight) judged);
    }
