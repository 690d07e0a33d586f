use Rattle.std.proofs.Common.{◌∙◌, ◌+◌, length, arith}
use Rattle.std.proofs.lemmas.List.{length-set}
use Rattle.zs_mirror.specs.Mirror.{has_bit}
use Rattle.zs_mirror.proofs.Copies.{leaves_next, leaves_wide}
use Rattle.zs_mirror.proofs.ReadCopies.{of_length, unwritten_on}
use Rattle.zs_mirror.proofs.CheckedReads.{read_next}
use Rattle.zs_mirror.proofs.checks.read_copies.Goals as goal

pub returns-in_err-seen-clause-leaves : goal.returns-in_err-seen-clause-leaves
returns-in_err-seen-clause-leaves g c =
    leaves_wide c.args.first (c.loop-i.i + 1) c.args.width _ _ _ _ (omega (arith, c.loop-i-test.true))
    (leaves_next c.args.first c.loop-i.i _ _ _ _ _ _ c.loop-i.invariant.leaves c.keep_copy.ensures.only c.keep_copy.ensures.goes_on)

pub loop-i-preserved : goal.loop-i-preserved
loop-i-preserved g c = record {
  letters = length-set c.loop-i.letters c.from.result c.in_ok-seen.seen.copy ∙ c.loop-i.invariant.letters;
  marks = length-set c.loop-i.marks c.from-in-loop-i.result c.in_ok-seen.seen.place ∙ c.loop-i.invariant.marks;
  leaves = leaves_next c.args.first c.loop-i.i _ _ _ _ _ _ c.loop-i.invariant.leaves c.keep_copy.ensures.only c.keep_copy.ensures.goes_on;
  read = rw (c.from.ensures, c.from-in-loop-i.ensures)
      (read_next c.args.online c.args.first c.loop-i.i c.args.at (length c.args.buf.now) c.args.sum.now c.loop-i.good c.loop-i.letters c.loop-i.marks _ _ _ _ _
      c.in_ok-seen.seen.place c.in_ok-seen.seen.copy c.keep_copy.new.good _
      (omega (arith, c.requires.few.0, c.loop-i-test.true, c.loop-i.invariant.letters)) (omega (arith, c.requires.few.0, c.loop-i-test.true, c.loop-i.invariant.marks))
      c.loop-i.invariant.read c.loop-i.invariant.leaves c.keep_copy.ensures.only
      (of_length (has_bit c.args.online (c.args.first + c.loop-i.i)) c.in_ok-seen.seen.copy c.args.at (length c.loop-i.buf) (length c.args.buf.now)
      c.args.sum.now c.in_ok-seen.seen.place _ _ c.loop-i.auto.buf c.in_ok-seen.ensures.read)
      c.in_ok-seen.ensures.good c.in_ok-seen.ensures.kept);
  unwritten = unwritten_on (c.args.first + c.loop-i.i) _ _ _ _ _ c.loop-i.invariant.unwritten c.keep_copy.ensures.only c.keep_copy.ensures.unwritten;
}
