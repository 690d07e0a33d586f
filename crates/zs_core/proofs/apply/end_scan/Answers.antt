use Rattle.std.proofs.Common.{◌∙◌, ◌≡◌, false, sym, ap, subst}
use Rattle.std.proofs.lemmas.Bool.{true≢false}
use Rattle.zs_walk.specs.Walking.{runs}
use Rattle.zs_scan.specs.View.{ScanView}
use Rattle.zs_scan.specs.Steps.{IsComplete}
use Rattle.zs_core.specs.Ending.{EndsWith}
use Rattle.zs_core.proofs.Ended.{ends_done, ends_saved, saves_if, saves_none}
use Rattle.zs_core.proofs.apply.end_scan.Goals as goal

pub returns-then-finish : goal.returns-then-finish
returns-then-finish c = ends_done c.args.txg _ _ (c.finish.ensures.complete.0 c.if-finish.true) (c.finish.ensures.done c.if-finish.true) c.finish.ensures.keeps (c.finish.ensures.all c.if-finish.true)

pub returns-then-not-is_running : goal.returns-then-not-is_running
returns-then-not-is_running c =
    let same : c.finish.new.self ≡ c.args.scan.now = c.finish.ensures.rest c.if-finish.false in
    let rests : runs c.args.scan.now.run.status ≡ false = ap (λ (v : ScanView). runs v.run.status) (sym same) ∙ sym c.is_running.ensures ∙ c.if-not-is_running.true in
    subst (λ (v : ScanView). EndsWith c.args.txg c.args.scan.now false v) (sym same)
    (ends_saved c.args.txg c.args.scan.now c.args.scan.now (λ complete. true≢false (sym (c.finish.ensures.complete.1 complete) ∙ c.if-finish.false)) (saves_none c.args.txg c.args.scan.now rests) (λ room g n h s. s))

pub returns : goal.returns
returns c =
    let same : c.finish.new.self ≡ c.args.scan.now = c.finish.ensures.rest c.if-finish.false in
    subst (λ (v : ScanView). EndsWith c.args.txg v false c.checkpoint.new.self) same
    (ends_saved c.args.txg c.finish.new.self c.checkpoint.new.self (λ complete. true≢false (sym (c.finish.ensures.complete.1 (subst IsComplete same complete)) ∙ c.if-finish.false))
    (saves_if c.args.txg c.finish.new.self c.checkpoint.new.self c.checkpoint.result (sym c.is_running.ensures ∙ c.if-not-is_running.false) c.checkpoint.ensures.drained c.checkpoint.ensures.done c.checkpoint.ensures.rest) c.checkpoint.ensures.keeps)
