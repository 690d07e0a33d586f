use Rattle.std.proofs.Common.{ap, sym, ◌∙◌, ◌≡◌, true}
use Rattle.zs_walk.specs.Walking.{runs}
use Rattle.zs_machine.specs.Machine.{Txg, is_at_work}
use Rattle.zs_session.proofs.Again.{at_work_walks, data_open, may_finish}
use Rattle.zs_core.specs.View.{CoreView}
use Rattle.zs_session.proofs.Written.{went_written, ends_sync, stops_unapplied, stops_uncommitted}
use Rattle.zs_session.proofs.finishing.commit.Goals as goal

pub returns-in_err-end_data-clause-stops : goal.returns-in_err-end_data-clause-stops
returns-in_err-end_data-clause-stops c blocks before after named puts =
    stops_unapplied _ _ c.args.marks.now blocks _ _ before after _ c.in_err-end_data.ensures.err.0 c.in_err-end_data.ensures.err.1.shape puts

pub returns-in_err-committed-clause-stops : goal.returns-in_err-committed-clause-stops
returns-in_err-committed-clause-stops c blocks before after named puts =
    stops_uncommitted _ c.end_data.new.self _ c.args.marks.now blocks _ _ before after _ c.in_ok-end_data.ensures.step c.in_err-committed.ensures.err.0
    (ap (λ (v : CoreView). v.shape) c.in_ok-end_data.ensures.rest) c.in_err-committed.ensures.err.1.shape c.requires.failed named puts

pub returns-clause-told : goal.returns-clause-told
returns-clause-told c = ends_sync _ _ _ _ _ _ _ _ _ c.in_ok-end_data.ensures.step.event c.in_ok-committed.ensures.event

pub returns-clause-goes_on : goal.returns-clause-goes_on
returns-clause-goes_on c blocks before after named puts =
    went_written _ c.end_data.new.self _ c.args.marks.now blocks before after _ _ c.in_ok-end_data.ensures.step c.in_ok-committed.ensures.event
    (ap (λ (v : CoreView). v.shape) c.in_ok-end_data.ensures.rest) (ap (λ (v : CoreView). v.shape) c.in_ok-committed.ensures.core) c.requires.failed named puts

pub returns-clause-ends : goal.returns-clause-ends
returns-clause-ends c = λ complete untasked. ap (λ (v : CoreView). is_at_work v.state.scan) c.in_ok-committed.ensures.core ∙ c.in_ok-end_data.ensures.ends complete untasked

pub returns-clause-again : goal.returns-clause-again
returns-clause-again c = λ drained works untasked.
    let core = c.in_ok-committed.ensures.core in
    let walks = at_work_walks c.committed.new.self.core c.facts.ensures.safe works in
    let running : runs c.end_data.new.self.core.scan.run.status ≡ true = ap (λ (v : CoreView). runs v.scan.run.status) (sym core) ∙ ap runs walks.scans in
    may_finish c.committed.new.self.core c.facts.ensures.safe
    (ap (λ (v : CoreView). v.scan.flight) core ∙ (c.in_ok-end_data.ensures.flight ∙ drained.landed))
    (ap (λ (v : CoreView). v.scan.saved) core ∙ (c.in_ok-end_data.ensures.saved drained running ∙ sym (ap (λ (v : CoreView). v.state.applied) core)))
    works
    (ap (λ (v : CoreView). v.state.open_txg.tasks) core ∙ (ap (λ (x : Txg). x.tasks) (data_open _ _ _ c.in_ok-end_data.ensures.step.applied) ∙ untasked))
