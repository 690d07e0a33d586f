use Rattle.std.proofs.Common.{None}
use Rattle.std.proofs.lemmas.Result.{err_from_is_err_and}
use Rattle.zs_record.specs.Sets.{stored_set_of, id_next, sets_of}
use Rattle.zs_record.proofs.Loops.{goes_on, ends_or_wants, is_done}
use Rattle.zs_record.proofs.sets.sets_of.Goals as goal

pub returns-in_err-set : goal.returns-in_err-set
returns-in_err-set c =
    let p = err_from_is_err_and c.from_residual.result c.from_residual.ensures.1 in
    rw (p.1, p.2) (ends_or_wants (stored_set_of) (id_next) c.loop.sets.items c.args.count c.loop.counter c.loop.last c.loop.rest.now c.in_err-set.field-0.0 (sets_of c.args.count None c.args.bytes.now) c.loop-test.true c.in_err-set.ensures c.loop.invariant)

pub loop-preserved : goal.loop-preserved
loop-preserved c =
    rw (c.in_ok-push.ensures.items) (goes_on (stored_set_of) (id_next) c.loop.sets.items c.args.count c.loop.counter c.loop.last c.loop.rest.now (c.in_ok-set.set) c.in_ok-set.after.now (sets_of c.args.count None c.args.bytes.now) c.loop-test.true c.in_ok-set.ensures c.loop.invariant)

pub returns : goal.returns
returns c = is_done (stored_set_of) (id_next) c.loop.sets.items c.args.count c.loop.counter c.loop.last c.loop.rest.now (sets_of c.args.count None c.args.bytes.now) c.loop-test.false c.loop.invariant
