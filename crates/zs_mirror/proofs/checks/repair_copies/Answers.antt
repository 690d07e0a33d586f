use Rattle.std.proofs.Common.{◌∙◌, ◌+◌, length, arith}
use Rattle.std.proofs.lemmas.List.{length-set}
use Rattle.zs_mirror.proofs.Outcomes.{if_refused}
use Rattle.zs_mirror.proofs.Copies.{leaves_next, leaves_wide}
use Rattle.zs_mirror.proofs.Repairs.{of_array, repaired_next, repairs_touched}
use Rattle.zs_mirror.proofs.checks.repair_copies.Goals as goal

pub returns-in_err-now-clause-memory : goal.returns-in_err-now-clause-memory
returns-in_err-now-clause-memory g c = if_refused c.from_residual.result
    (repairs_touched c.args.first c.loop-i.i c.args.at (length c.args.good.now) c.args.sum.now c.args.good.now c.args.copies.letters c.args.copies.marks c.loop-i.letters c.loop-i.marks
    _ _ _ _ _ _ c.loop-i.invariant.repaired c.loop-i.invariant.leaves c.repair_copy.ensures.only c.args.width c.in_err-now.ensures.memory
    (λ k lt b is. omega (arith, c.requires.fits k lt, (g.met.C.Children.told_is c.args.set.now (c.args.first + k) b is).0)))

pub returns-in_err-now-clause-leaves : goal.returns-in_err-now-clause-leaves
returns-in_err-now-clause-leaves g c =
    leaves_wide c.args.first (c.loop-i.i + 1) c.args.width _ _ _ _ (omega (arith, c.loop-i-test.true))
    (leaves_next c.args.first c.loop-i.i _ _ _ _ _ _ c.loop-i.invariant.leaves c.repair_copy.ensures.only c.repair_copy.ensures.goes_on)

pub loop-i-preserved : goal.loop-i-preserved
loop-i-preserved g c = record {
  letters = length-set c.loop-i.letters c.from-index.result c.in_ok-now.now.copy ∙ c.loop-i.invariant.letters;
  marks = length-set c.loop-i.marks c.from-index.result c.in_ok-now.now.place ∙ c.loop-i.invariant.marks;
  leaves = leaves_next c.args.first c.loop-i.i _ _ _ _ _ _ c.loop-i.invariant.leaves c.repair_copy.ensures.only c.repair_copy.ensures.goes_on;
  repaired = rw (c.from-index.ensures)
      (repaired_next c.args.first c.loop-i.i c.args.at (length c.args.good.now) c.args.sum.now c.args.good.now c.args.copies.letters c.args.copies.marks c.loop-i.letters c.loop-i.marks
      _ _ _ _ _ _ c.loop-i.invariant.repaired c.loop-i.invariant.leaves c.repair_copy.ensures.only
      c.in_ok-now.now.place c.in_ok-now.now.copy (omega (arith, c.requires.few.0, c.loop-i-test.true, c.loop-i.invariant.letters))
      (omega (arith, c.requires.few.0, c.loop-i-test.true, c.loop-i.invariant.marks))
      (of_array c.args.copies.letters c.args.copies.marks c.from-index.result c.loop-i.i c.in_ok-now.now.copy c.in_ok-now.now.place c.args.at (length c.args.good.now) c.args.sum.now
      c.args.good.now _ _ c.from-index.ensures (omega (arith, c.requires.few.0, c.loop-i-test.true, c.requires.four)) c.in_ok-now.ensures.repaired));
}
