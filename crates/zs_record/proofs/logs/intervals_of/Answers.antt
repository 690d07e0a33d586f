use Rattle.std.proofs.lemmas.Result.{err_from_is_err_and}
use Rattle.zs_record.specs.Logs.{interval_of, intervals_of, after}
use Rattle.zs_record.proofs.Loops.{goes_on, ends, is_done}
use Rattle.zs_record.proofs.logs.intervals_of.Goals as goal

pub returns-in_err-span : goal.returns-in_err-span
returns-in_err-span c =
    let p = err_from_is_err_and c.from_residual.result c.from_residual.ensures.1 in
    rw (p.1, p.2) (ends (interval_of c.args.last) (after) c.loop.spans.items c.args.count c.loop.counter c.loop.from c.loop.rest.now c.in_err-span.field-0.0 (intervals_of c.args.last c.args.count 0 c.args.bytes.now) c.loop-test.true c.in_err-span.ensures.exact c.loop.invariant)

pub loop-preserved : goal.loop-preserved
loop-preserved c =
    rw (c.in_ok-push.ensures.items) (goes_on (interval_of c.args.last) (after) c.loop.spans.items c.args.count c.loop.counter c.loop.from c.loop.rest.now (c.in_ok-span.span) c.in_ok-span.after.now (intervals_of c.args.last c.args.count 0 c.args.bytes.now) c.loop-test.true c.in_ok-span.ensures.exact c.loop.invariant)

pub returns : goal.returns
returns c = is_done (interval_of c.args.last) (after) c.loop.spans.items c.args.count c.loop.counter c.loop.from c.loop.rest.now (intervals_of c.args.last c.args.count 0 c.args.bytes.now) c.loop-test.false c.loop.invariant
