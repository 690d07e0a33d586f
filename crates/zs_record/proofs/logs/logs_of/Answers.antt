use Rattle.std.proofs.Common.{◌+◌, ℕ}
use Rattle.std.proofs.lemmas.Result.{err_from_is_err_and}
use Rattle.zs_record.specs.Logs.{set_of, logs_of}
use Rattle.zs_record.proofs.Loops.{goes_on, ends_or_wants, is_done}
use Rattle.zs_record.proofs.logs.logs_of.Goals as goal

pub returns-in_err-spans : goal.returns-in_err-spans
returns-in_err-spans c =
    let p = err_from_is_err_and c.from_residual.result c.from_residual.ensures.1 in
    rw (p.1, p.2) (ends_or_wants (λ (dev : ℕ). set_of c.args.most c.args.last) (λ dev spans. dev + 1) c.loop.logs.items c.args.count c.loop.counter c.loop.counter c.loop.rest.now c.in_err-spans.field-0.0 (logs_of c.args.most c.args.last c.args.count c.args.bytes.now) c.loop-test.true c.in_err-spans.ensures c.loop.invariant)

pub loop-preserved : goal.loop-preserved
loop-preserved c =
    rw (c.in_ok-push.ensures.items, c.from_vec.ensures) (goes_on (λ (dev : ℕ). set_of c.args.most c.args.last) (λ dev spans. dev + 1) c.loop.logs.items c.args.count c.loop.counter c.loop.counter c.loop.rest.now (c.in_ok-spans.spans.items) c.in_ok-spans.after.now (logs_of c.args.most c.args.last c.args.count c.args.bytes.now) c.loop-test.true c.in_ok-spans.ensures c.loop.invariant)

pub returns : goal.returns
returns c = is_done (λ (dev : ℕ). set_of c.args.most c.args.last) (λ dev spans. dev + 1) c.loop.logs.items c.args.count c.loop.counter c.loop.counter c.loop.rest.now (logs_of c.args.most c.args.last c.args.count c.args.bytes.now) c.loop-test.false c.loop.invariant
