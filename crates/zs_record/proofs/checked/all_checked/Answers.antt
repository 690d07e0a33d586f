use Rattle.std.proofs.Common.{◌++◌, ◌∷◌, []}
use Rattle.std.proofs.lemmas.Result.{err_from_is_err_and}
use Rattle.zs_record.specs.Checked.{checked_of, all_checked}
use Rattle.zs_record.proofs.Loops.{goes_on, ends, is_done}
use Rattle.zs_record.proofs.checked.all_checked.Goals as goal

pub returns-in_err-entry : goal.returns-in_err-entry
returns-in_err-entry c =
    let p = err_from_is_err_and c.from_residual-in_err-entry.result c.from_residual-in_err-entry.ensures.1 in
    rw (p.1, p.2) (ends (checked_of c.args.mirrors c.args.last) (λ so_far e. so_far ++ e ∷ []) c.loop.ledger.entries c.args.count c.loop.counter c.loop.ledger.entries c.loop.rest.now c.in_err-entry.field-0.0 (all_checked c.args.mirrors c.args.last c.args.count [] c.args.bytes.now) c.loop-test.true c.in_err-entry.ensures c.loop.invariant)

pub loop-preserved : goal.loop-preserved
loop-preserved c =
    rw (c.push.ensures.entries, c.in_ok-reserve-2.ensures.entries) (goes_on (checked_of c.args.mirrors c.args.last) (λ so_far e. so_far ++ e ∷ []) c.loop.ledger.entries c.args.count c.loop.counter c.loop.ledger.entries c.loop.rest.now (c.in_ok-entry.entry) c.in_ok-entry.after.now (all_checked c.args.mirrors c.args.last c.args.count [] c.args.bytes.now) c.loop-test.true c.in_ok-entry.ensures c.loop.invariant)

pub returns : goal.returns
returns c = is_done (checked_of c.args.mirrors c.args.last) (λ so_far e. so_far ++ e ∷ []) c.loop.ledger.entries c.args.count c.loop.counter c.loop.ledger.entries c.loop.rest.now (all_checked c.args.mirrors c.args.last c.args.count [] c.args.bytes.now) c.loop-test.false c.loop.invariant
