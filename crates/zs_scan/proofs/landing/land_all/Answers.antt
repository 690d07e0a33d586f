use Rattle.std.proofs.Common.{◌∙◌, ◌+◌, ◌<◌, ◌++◌, List, length, arith, subst, sym, ap}
use Rattle.std.proofs.lemmas.List.{take_more}
use Rattle.zs_ledger.specs.declared.entry.Entry.{Entry}
use Rattle.zs_scan.specs.Steps.{still_flying}
use Rattle.zs_scan.proofs.Pieces.{rising_apart}
use Rattle.zs_scan.proofs.Landings.{HaveLanded, land_marks, land_entries, land_count}
use Rattle.zs_scan.proofs.landing.land_all.Goals as goal

pub loop-entry-preserved : goal.loop-entry-preserved
loop-entry-preserved c =
    let i = c.loop-entry.entry-index in
    let below : c.loop-entry.entry-index < length c.args.entries.now = omega arith in
    let more = take_more c.args.entries.now c.loop-entry.entry-index _ below in
    let apart = rising_apart (λ (x : Entry). x.piece) c.args.entries.now c.loop-entry.entry-index _ c.requires.rising below in
    record {
      made = ap (λ k. c.loop-entry.made + k) c.land_one-made.ensures.made ∙ land_count _ _ c.args.number _ _ _ c.loop-entry.invariant.marks apart c.loop-entry.invariant.made ∙ ap (λ (l : List Entry). length (still_flying c.args.marks.now c.args.number l)) (sym more);
      entries = land_entries _ _ c.args.number _ _ _ _ _ c.loop-entry.invariant.marks apart c.loop-entry.invariant.entries c.land_one-made.ensures.entries ∙ ap (λ (l : List Entry). c.args.ledger.now.entries ++ still_flying c.args.marks.now c.args.number l) (sym more);
      marks = subst (λ (l : List Entry). HaveLanded c.args.marks.now c.land_one-made.new.marks c.args.number l) (sym more) (land_marks _ _ _ c.args.number _ _ c.loop-entry.invariant.marks c.land_one-made.ensures.marks);
      few = omega (arith, c.land_one-made.ensures.few, c.loop-entry.invariant.few);
      room = c.land_one-made.ensures.room;
    }
