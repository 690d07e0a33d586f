-- A freed piece that is no longer live leaves the scan the datasets' own.
use Rattle.std.proofs.Common.{◌≡◌, ℕ, ◌||◌, Bool, true, false, cond, List, [], ◌∷◌, refl, sym, ◌∙◌, ap, subst, is_some}
use Rattle.std.specs.Prelude.{Option, Some, None}
use Rattle.std.proofs.Math.Nat.{le_refl}
use Rattle.zs_ids.specs.declared.block.Piece.{Piece}
use Rattle.zs_ids.specs.Graph.{Graph, IsLive}
use Rattle.zs_ids.specs.GraphValid.{Room}
use Rattle.zs_ledger.specs.Kept.{has_piece}
use Rattle.zs_queue.specs.Lists.{has-filter}
use Rattle.zs_queue.specs.Waiting.{without}
use Rattle.zs_cover.proofs.Rests.{later_keeps as later_covered}
use Rattle.zs_scan.specs.View.{Mark, ScanView, is_same, mark_of, is_done, MarksAs}
use Rattle.zs_scan.specs.Covered.{IsScanOf}
use Rattle.zs_scan.specs.Steps.{Freed}
use Rattle.zs_scan.proofs.Pieces.{same_is}
use Rattle.zs_scan.proofs.Marking.{kept_mark}

module _ (v : ScanView) (piece : Piece) (marks : List (Piece × Mark)) (room : ℕ) (as_before : MarksAs v.marks marks piece None) where
  abbrev after : ScanView
  after = record v { waiting = without v.waiting (piece ∷ []); marks = marks; room = room }

  -- what was done and is live is done
  done_stays : (g : Graph) → (IsLive g piece → ⊥) → (p : Piece) → IsLive g p → is_done v p ≡ true → is_done after p ≡ true
  done_stays g dead p live done = go (is_same piece p) refl
    where
      go : (b : Bool) → is_same piece p ≡ b → is_done after p ≡ true
      go true same = absurd (dead (subst (λ (x : Piece). IsLive g x) (sym (same_is piece p same)) live))
      go false apart = ap (λ (m : Option Mark). has_piece v.checked p || is_some m) (as_before p ∙ ap (λ b. cond b None (mark_of v.marks p)) apart) ∙ done

  after_is : (own : Room) (g : Graph) (n h : ℕ) → (IsLive g piece → ⊥) → IsScanOf own g n h v → IsScanOf own g n h after
  after_is own g n h dead is = record {
    covered = later_covered own g n h h v.scope v.run (is_done v) (is_done after) is.covered (le_refl h) (λ p live done. done_stays g dead p live done);
    stored = is.stored;
    live = record {
      waiting = λ e h. is.live.waiting e (has-filter _ v.waiting e h).0;
      flying = λ b i here item flies. is.live.flying b i here item (kept_mark v.marks marks piece i.piece (Some b.number) as_before flies);
    };
    in_room = is.in_room;
  }

-- a freed piece that is not live leaves the scan the datasets' own
pub freed_keeps : (old new : ScanView) (piece : Piece) → Freed old piece new → (own : Room) (g : Graph) (n h : ℕ) → (IsLive g piece → ⊥) → IsScanOf own g n h old → IsScanOf own g n h new
freed_keeps old new piece freed own g n h dead is = subst (λ (o : ScanView). IsScanOf own g n h o) (sym freed.rest) (after_is old piece new.marks new.room freed.marks own g n h dead is)
