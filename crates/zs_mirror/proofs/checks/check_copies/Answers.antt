use Rattle.std.proofs.Common.{◌∙◌, ◌+◌, inr, length, sym}
use Rattle.zs_mirror.proofs.Outcomes.{if_refused}
use Rattle.zs_mirror.proofs.Devices.{touched_after}
use Rattle.zs_mirror.proofs.Copies.{leaves_twice}
use Rattle.zs_mirror.proofs.Repairs.{of_length}
use Rattle.zs_mirror.proofs.Verdicts.{checked_only, checked_repaired, good_sum}
use Rattle.zs_mirror.proofs.checks.check_copies.Goals as goal

pub returns-then-not-has_good-clause-checked : goal.returns-then-not-has_good-clause-checked
returns-then-not-has_good-clause-checked g c =
    checked_only c.args.online c.args.first c.args.width c.args.at (length c.args.buf.now) c.args.sum.now c.read_copies.new.good c.in_ok-copies.copies.letters c.in_ok-copies.copies.marks
    _ _ (c.read_copies.auto.good ∙ c.requires.size) c.in_ok-copies.ensures.read c.in_ok-copies.ensures.four.0 (sym c.if-not-has_good.ensures)

pub repair_copies-requires-clause-sum : goal.repair_copies-requires-clause-sum
repair_copies-requires-clause-sum g c =
    sym (good_sum c.args.online c.args.first c.args.width c.args.at (length c.args.buf.now) c.args.sum.now c.read_copies.new.good c.in_ok-copies.copies.letters c.in_ok-copies.copies.marks
    _ _ (c.read_copies.auto.good ∙ c.requires.size) c.in_ok-copies.ensures.read (sym c.if-not-has_good.ensures))

pub returns-in_err-repaired-clause-memory : goal.returns-in_err-repaired-clause-memory
returns-in_err-repaired-clause-memory g c = if_refused c.from_residual-in_err-repaired.result (λ k lt.
    inr (
      c.read_copies.new.good,
      c.read_copies.auto.good ∙ c.requires.size,
      good_sum c.args.online c.args.first c.args.width c.args.at (length c.args.buf.now) c.args.sum.now c.read_copies.new.good c.in_ok-copies.copies.letters c.in_ok-copies.copies.marks
          _ _ (c.read_copies.auto.good ∙ c.requires.size) c.in_ok-copies.ensures.read (sym c.if-not-has_good.ensures),
      touched_after c.args.at c.read_copies.new.good _ _ _ (c.read_copies.ensures.unwritten (c.args.first + k)) (c.in_err-repaired.ensures.memory k lt),
    ))

pub returns-in_err-repaired-clause-leaves : goal.returns-in_err-repaired-clause-leaves
returns-in_err-repaired-clause-leaves g c = leaves_twice c.args.first c.args.width _ _ _ _ _ _ c.read_copies.ensures.leaves c.repair_copies.ensures.leaves

pub returns-clause-checked : goal.returns-clause-checked
returns-clause-checked g c =
    checked_repaired c.args.online c.args.first c.args.width c.args.at (length c.args.buf.now) c.args.sum.now c.read_copies.new.good c.in_ok-copies.copies.letters c.in_ok-copies.copies.marks
    _ _ (c.read_copies.auto.good ∙ c.requires.size) c.in_ok-copies.ensures.read c.in_ok-repaired.repaired.letters c.in_ok-repaired.repaired.marks _
    c.in_ok-repaired.ensures.four.0 (sym c.if-not-has_good.ensures)
    (of_length c.args.first c.args.width c.args.at (length c.read_copies.new.good) (length c.args.buf.now) c.args.sum.now c.read_copies.new.good
    c.in_ok-copies.copies.letters c.in_ok-copies.copies.marks c.in_ok-repaired.repaired.letters c.in_ok-repaired.repaired.marks _ _
    (c.read_copies.auto.good ∙ c.requires.size) c.in_ok-repaired.ensures.repaired)

pub returns-clause-leaves : goal.returns-clause-leaves
returns-clause-leaves g c = leaves_twice c.args.first c.args.width _ _ _ _ _ _ c.read_copies.ensures.leaves c.repair_copies.ensures.leaves
