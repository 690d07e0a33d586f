use Rattle.std.proofs.Common.{◌∙◌, ◌+◌, sym, arith}
use Rattle.std.proofs.Math.ListN.{length-set}
use Rattle.zs_mirror.proofs.Outcomes.{if_refused}
use Rattle.zs_mirror.proofs.Copies.{leaves_next, leaves_wide, fits_told}
use Rattle.zs_mirror.proofs.WrittenCopies.{written_next, all_touched}
use Rattle.zs_mirror.proofs.write.write_block.Goals as goal

pub returns-in_err-put-clause-memory : goal.returns-in_err-put-clause-memory
returns-in_err-put-clause-memory g c = if_refused c.from_residual.result
    (rw (sym c.first_of-first.ensures, sym c.start_of-at.ensures)
    (all_touched c.args.online c.first_of-first.result c.loop-i.i c.start_of-at.result c.args.bytes.now c.loop-i.failed c.loop-i.places _ _ _ _ _ c.args.width _
    c.loop-i.invariant.written c.loop-i.invariant.leaves c.write_copy.ensures.only c.in_err-put.ensures.memory
    (λ k lt. fits_told c.first_of-first.result _ c.start_of-at.result _ _ k (g.C.Children.device c.args.set.now) c.first_of-first.ensures c.start_of-at.ensures
    (c.requires.mirror.fits k lt) (g.met.C.Children.told_is c.args.set.now (c.first_of-first.result + k)))))

pub returns-in_err-put-clause-leaves : goal.returns-in_err-put-clause-leaves
returns-in_err-put-clause-leaves g c =
    rw (sym c.first_of-first.ensures)
    (leaves_wide c.first_of-first.result (c.loop-i.i + 1) c.args.width _ _ _ _ (omega (arith, c.loop-i-test.true))
    (leaves_next c.first_of-first.result c.loop-i.i _ _ _ _ _ _ c.loop-i.invariant.leaves c.write_copy.ensures.only c.write_copy.ensures.goes_on))

pub loop-i-preserved : goal.loop-i-preserved
loop-i-preserved g c = record {
  long = length-set c.loop-i.places c.from.result c.in_ok-put.put.place ∙ c.loop-i.invariant.long;
  leaves = leaves_next c.first_of-first.result c.loop-i.i _ _ _ _ _ _ c.loop-i.invariant.leaves c.write_copy.ensures.only c.write_copy.ensures.goes_on;
  written = rw (c.from.ensures)
      (written_next c.args.online c.first_of-first.result c.loop-i.i c.start_of-at.result c.args.bytes.now c.loop-i.failed c.loop-i.places _ _ _ _ _
      c.with_bit-failed.result c.in_ok-put.put.place c.in_ok-put.put.failed _ (omega (arith, c.requires.mirror.most, c.requires.mirror.within, c.loop-i-test.true, c.loop-i.invariant.long, c.first_of-first.ensures))
      c.loop-i.invariant.written c.loop-i.invariant.leaves c.write_copy.ensures.only c.in_ok-put.ensures.done c.with_bit-failed.ensures.same c.with_bit-failed.ensures.other);
}
