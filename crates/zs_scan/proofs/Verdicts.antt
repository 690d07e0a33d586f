-- A verdict keeps the scan the datasets' own: what flew in the batch is checked.
use Rattle.std.proofs.Common.{◌≡◌, ℕ, ◌==◌, ◌||◌, ◌++◌, Bool, true, false, not, cond, List, [], ◌∷◌, filter, refl, sym, ◌∙◌, ap, subst, is_some}
use Rattle.std.specs.Prelude.{Option, Some, None}
use Rattle.std.proofs.Math.Bool.{or-true}
use Rattle.std.proofs.Math.Nat.{le_refl}
use Rattle.std.proofs.lemmas.List.{take-append-le}
use Rattle.std.proofs.lemmas.List.Folds.{list_any-append}
use Rattle.zs_cover.specs.Laws.{IsCovered}
use Rattle.zs_ids.specs.declared.block.Piece.{Piece}
use Rattle.zs_ledger.specs.declared.entry.Entry.{Entry}
use Rattle.zs_ids.specs.Piece.{is_piece}
use Rattle.zs_ledger.specs.Kept.{has_piece}
use Rattle.zs_queue.specs.Lists.{has-filter}
use Rattle.zs_cover.proofs.Rests.{later_keeps as later_covered}
use Rattle.zs_scan.specs.declared.batch.Batch.{Batch}
use Rattle.zs_scan.specs.View.{Mark, ScanView, is_same, mark_of, flies_in, is_done}
use Rattle.zs_scan.specs.Kept.{IsOrderly}
use Rattle.zs_scan.specs.Covered.{Keeps}
use Rattle.zs_scan.specs.Steps.{IsVerdict, Judged, has_entry, still_flying}
use Rattle.zs_scan.proofs.Pieces.{same_is, same_itself}
use Rattle.zs_scan.proofs.Judging.{piece_same, flying_named}

-- of the entries, that of a piece that flies in the batch is kept
into_still : (marks : List (Piece × Mark)) (number : ℕ) (entries : List Entry) (p : Piece) → flies_in number (mark_of marks p) ≡ true → has_entry entries p ≡ true → has_piece (still_flying marks number entries) p ≡ true
into_still marks number [] p flew h = cc
into_still marks number (e ∷ es) p flew h = at (λ g. into_still marks number es p flew g) (is_same e.piece p) refl h
  where
    wider : (b : Bool) → has_piece (still_flying marks number es) p ≡ true → has_piece (cond b (e ∷ still_flying marks number es) (still_flying marks number es)) p ≡ true
    wider true rest = rw rest (or-true (is_piece p e.piece))
    wider false rest = rest

    at : (has_entry es p ≡ true → has_piece (still_flying marks number es) p ≡ true) → (same : Bool) → is_same e.piece p ≡ same → (same || has_entry es p) ≡ true → has_piece (cond (flies_in number (mark_of marks e.piece)) (e ∷ still_flying marks number es) (still_flying marks number es)) p ≡ true
    at later true is _ =
        let one : e.piece ≡ p = same_is e.piece p is in
        let passes : flies_in number (mark_of marks e.piece) ≡ true = subst (λ (x : Piece). flies_in number (mark_of marks x) ≡ true) (sym one) flew in
        let found : is_piece p e.piece ≡ true = piece_same p e.piece ∙ subst (λ (x : Piece). is_same p x ≡ true) (sym one) (same_itself p) in
        rw (passes, found) refl
    at later false is h = wider (flies_in number (mark_of marks e.piece)) (later h)

-- a piece that was done is done with more entries
widened : (a s m : Bool) → (a || m) ≡ true → ((a || s) || m) ≡ true
widened true s m h = refl
widened false true m h = refl
widened false false m h = h

module _ (v : ScanView) (number : ℕ) (entries : List Entry) (marks : List (Piece × Mark)) (room : ℕ) (kept : IsOrderly v) (verdict : IsVerdict v number entries) (cleared : (q : Piece) → mark_of marks q ≡ cond (flies_in number (mark_of v.marks q)) None (mark_of v.marks q)) where
  abbrev after : ScanView
  after = record v { checked = v.checked ++ still_flying v.marks number entries; marks = marks; flight = filter (λ b. not (b.number == number)) v.flight; room = room }

  -- what was done is done
  done_stays : (p : Piece) → is_done v p ≡ true → is_done after p ≡ true
  done_stays p done = go (flies_in number (mark_of v.marks p)) refl
    where
      parts : has_piece (v.checked ++ still_flying v.marks number entries) p ≡ (has_piece v.checked p || has_piece (still_flying v.marks number entries) p)
      parts = list_any-append (λ (e : Entry). is_piece p e.piece) v.checked (still_flying v.marks number entries)

      go : (b : Bool) → flies_in number (mark_of v.marks p) ≡ b → is_done after p ≡ true
      go true flew =
          let made : has_piece (still_flying v.marks number entries) p ≡ true = into_still v.marks number entries p flew (flying_named v number entries kept verdict p flew) in
          ap (λ b. b || is_some (mark_of marks p)) (parts ∙ ap (λ b. has_piece v.checked p || b) made ∙ or-true (has_piece v.checked p))
      go false stayed =
          let same : mark_of marks p ≡ mark_of v.marks p = cleared p ∙ ap (λ b. cond b None (mark_of v.marks p)) stayed in
          ap (λ b. b || is_some (mark_of marks p)) parts ∙ ap (λ (m : Option Mark). (has_piece v.checked p || has_piece (still_flying v.marks number entries) p) || is_some m) same
          ∙ widened (has_piece v.checked p) (has_piece (still_flying v.marks number entries) p) (is_some (mark_of v.marks p)) done

  -- a mark that is left was there before
  was : (p : Piece) (m : Mark) → mark_of marks p ≡ Some m → mark_of v.marks p ≡ Some m
  was p m there = go (flies_in number (mark_of v.marks p)) (sym (cleared p) ∙ there)
    where
      go : (b : Bool) → cond b None (mark_of v.marks p) ≡ Some m → mark_of v.marks p ≡ Some m
      go true e = cc
      go false e = e

  after_is : Keeps v after
  after_is own g n h is = record {
    covered = later_covered own g n h h v.scope v.run (is_done v) (is_done after) is.covered (le_refl h) (λ p live done. done_stays p done);
    stored = subst (λ (l : List Entry). IsCovered own g n h v.scope v.kept (λ p. has_piece l p)) (sym (take-append-le v.stored v.checked (still_flying v.marks number entries) kept.stored)) is.stored;
    live = record {
      waiting = is.live.waiting;
      flying = λ b i here item flies. is.live.flying b i (has-filter (λ (x : Batch). not (x.number == number)) v.flight b here).0 item (was i.piece (Some b.number) flies);
    };
    in_room = λ b i here item. is.in_room b i (has-filter (λ (x : Batch). not (x.number == number)) v.flight b here).0 item;
  }

-- a verdict keeps the scan the datasets' own
pub verdict_keeps : (v now new : ScanView) (number : ℕ) (entries : List Entry) → v ≡ now → IsOrderly v → IsVerdict now number entries → Judged now number entries new → Keeps now new
verdict_keeps v now new number entries same kept verdict judged =
    let orderly : IsOrderly now = subst IsOrderly same kept in
    subst (λ (o : ScanView). Keeps now o) (sym judged.rest) (after_is now number entries new.marks new.room orderly verdict judged.marks)
