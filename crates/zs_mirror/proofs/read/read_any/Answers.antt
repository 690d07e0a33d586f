use Rattle.std.proofs.Common.{◌∙◌, ◌+◌, length, refl, sym, arith}
use Rattle.std.proofs.lemmas.List.{length-set}
use Rattle.zs_mirror.specs.Mirror.{has_bit}
use Rattle.zs_mirror.proofs.Copies.{leaves_next, leaves_wide}
use Rattle.zs_mirror.proofs.ReadCopies.{of_length, lost_next, found_here, unwritten_on}
use Rattle.zs_mirror.proofs.read.read_any.Goals as goal

pub returns-in_err-seen-clause-leaves : goal.returns-in_err-seen-clause-leaves
returns-in_err-seen-clause-leaves g c =
    rw (sym c.first_of-first.ensures)
    (leaves_wide c.first_of-first.result (c.loop-i.i + 1) c.args.width _ _ _ _ (omega (arith, c.loop-i-test.true))
    (leaves_next c.first_of-first.result c.loop-i.i _ _ _ _ _ _ c.loop-i.invariant.leaves c.read_copy.ensures.only c.read_copy.ensures.goes_on))

pub returns-then-is_good-clause-leaves : goal.returns-then-is_good-clause-leaves
returns-then-is_good-clause-leaves g c =
    rw (sym c.first_of-first.ensures)
    (leaves_wide c.first_of-first.result (c.loop-i.i + 1) c.args.width _ _ _ _ (omega (arith, c.loop-i-test.true))
    (leaves_next c.first_of-first.result c.loop-i.i _ _ _ _ _ _ c.loop-i.invariant.leaves c.read_copy.ensures.only c.read_copy.ensures.goes_on))

pub returns-then-is_good-clause-found : goal.returns-then-is_good-clause-found
returns-then-is_good-clause-found g c =
    rw (sym c.first_of-first.ensures, sym c.start_of-at.ensures, c.from.ensures)
    (found_here c.args.online c.first_of-first.result c.loop-i.i c.start_of-at.result (length c.args.buf.now) c.args.item.now.sum c.loop-i.places _ _ _ _ _
    c.in_ok-seen.seen.place c.in_ok-seen.seen.copy _ (omega (arith, c.requires.mirror.few, c.loop-i-test.true, c.loop-i.invariant.long))
    c.loop-i.invariant.lost c.loop-i.invariant.leaves c.read_copy.ensures.only
    (of_length (has_bit c.args.online (c.first_of-first.result + c.loop-i.i)) c.in_ok-seen.seen.copy c.start_of-at.result (length c.loop-i.buf) (length c.args.buf.now)
    c.args.item.now.sum c.in_ok-seen.seen.place _ _ c.loop-i.auto.buf c.in_ok-seen.ensures.read)
    c.args.width c.loop-i-test.true (c.if-is_good.ensures.good refl))

pub loop-i-preserved : goal.loop-i-preserved
loop-i-preserved g c = record {
  long = length-set c.loop-i.places c.from.result c.in_ok-seen.seen.place ∙ c.loop-i.invariant.long;
  leaves = leaves_next c.first_of-first.result c.loop-i.i _ _ _ _ _ _ c.loop-i.invariant.leaves c.read_copy.ensures.only c.read_copy.ensures.goes_on;
  lost = rw (c.from.ensures)
      (lost_next c.args.online c.first_of-first.result c.loop-i.i c.start_of-at.result (length c.args.buf.now) c.args.item.now.sum c.loop-i.places _ _ _ _ _
      c.in_ok-seen.seen.place c.in_ok-seen.seen.copy _ (omega (arith, c.requires.mirror.few, c.loop-i-test.true, c.loop-i.invariant.long))
      c.loop-i.invariant.lost c.loop-i.invariant.leaves c.read_copy.ensures.only
      (of_length (has_bit c.args.online (c.first_of-first.result + c.loop-i.i)) c.in_ok-seen.seen.copy c.start_of-at.result (length c.loop-i.buf) (length c.args.buf.now)
      c.args.item.now.sum c.in_ok-seen.seen.place _ _ c.loop-i.auto.buf c.in_ok-seen.ensures.read)
      (c.if-is_good.ensures.other refl));
  unwritten = unwritten_on (c.first_of-first.result + c.loop-i.i) _ _ _ _ _ c.loop-i.invariant.unwritten c.read_copy.ensures.only c.read_copy.ensures.unwritten;
}
