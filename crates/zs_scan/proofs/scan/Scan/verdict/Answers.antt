use Rattle.std.proofs.Common.{subst, sym}
use Rattle.zs_ledger.specs.Entry.{HaveCopies}
use Rattle.zs_scan.specs.View.{ScanView}
use Rattle.zs_scan.specs.Steps.{IsVerdict}
use Rattle.zs_scan.proofs.Judging.{judged_orderly, judged_marks, judged_step, verdict_rising}
use Rattle.zs_scan.proofs.Added.{made_may}
use Rattle.zs_scan.proofs.Verdicts.{verdict_keeps}
use Rattle.zs_scan.proofs.scan.Scan.verdict.Goals as goal

pub land_all-made-requires-clause-rising : goal.land_all-made-requires-clause-rising
land_all-made-requires-clause-rising c = verdict_rising _ c.args.number c.args.entries.now c.self.invariant (subst (λ (o : ScanView). IsVerdict o c.args.number c.args.entries.now) (sym c.self.view_is) c.requires.batch)

pub remove_batch-requires : goal.remove_batch-requires
remove_batch-requires c = (_, c.self.invariant.numbers)

pub invariant_of-self : goal.invariant_of-self
invariant_of-self c =
    judged_orderly _ c.args.number c.args.entries.now _ _ _ _ c.self.invariant (subst (λ (o : ScanView). IsVerdict o c.args.number c.args.entries.now) (sym c.self.view_is) c.requires.batch) c.land_all-made.ensures.entries c.land_all-made.ensures.marks c.remove_batch.ensures c.land_all-made.ensures.room
    (subst (λ (o : ScanView). HaveCopies o.scope.width c.args.entries.now) (sym c.self.view_is) c.requires.copies)

pub returns-clause-judged : goal.returns-clause-judged
returns-clause-judged c =
    judged_step _ _ c.args.number c.args.entries.now _ _ _ _ c.self.view_is c.land_all-made.ensures.entries c.remove_batch.ensures
    (judged_marks _ c.args.number c.args.entries.now _ _ _ _ c.self.invariant (subst (λ (o : ScanView). IsVerdict o c.args.number c.args.entries.now) (sym c.self.view_is) c.requires.batch) c.land_all-made.ensures.entries c.land_all-made.ensures.marks c.remove_batch.ensures c.land_all-made.ensures.room)

pub returns-clause-keeps : goal.returns-clause-keeps
returns-clause-keeps c = verdict_keeps _ _ _ c.args.number c.args.entries.now c.self.view_is c.self.invariant c.requires.batch (returns-clause-judged c)

pub returns-clause-made_of : goal.returns-clause-made_of
returns-clause-made_of c = made_may _ _ c.args.number c.args.entries.now c.self.view_is c.self.invariant c.requires.batch c.requires.copies
