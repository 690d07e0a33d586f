-- A batch that is taken, and a change of the ledger's room, keep a scan the datasets' own.
use Rattle.std.proofs.Common.{◌≡◌, ℕ, ◌<◌, ◌||◌, Bool, true, false, cond, List, refl, sym, ◌∙◌, ap, subst, inl, inr, arith, is_some}
use Rattle.std.proofs.Math.Bool.{or-true}
use Rattle.std.specs.Prelude.{Option, Some, None, IsTrue}
use Rattle.zs_ids.specs.declared.block.Piece.{Piece}
use Rattle.zs_ids.specs.declared.block.Item.{Item}
use Rattle.zs_ids.specs.Graph.{Has, Graph}
use Rattle.zs_ids.specs.GraphValid.{Room}
use Rattle.zs_ledger.specs.Kept.{has_piece}
use Rattle.zs_cover.proofs.Rests.{later_keeps}
use Rattle.zs_queue.specs.Lists.{has-filter}
use Rattle.zs_queue.specs.Lowest.{lowest_is_batch}
use Rattle.zs_queue.specs.Waiting.{lowest}
use Rattle.zs_scan.specs.declared.batch.Batch.{Batch}
use Rattle.zs_scan.specs.View.{Mark, ScanView, mark_of, is_done, has_item}
use Rattle.zs_scan.specs.Kept.{IsOrderly}
use Rattle.zs_scan.specs.Steps.{Taken}
use Rattle.zs_scan.specs.Covered.{IsScanOf, Keeps}
use Rattle.zs_scan.proofs.Batches.{from-last, below_next}
use Rattle.zs_scan.proofs.InRoom.{block_in_room}

-- the room of the ledger tells nothing of the datasets
pub room_keeps : (room : Room) (g : Graph) (n h : ℕ) (v : ScanView) (r : ℕ) → IsScanOf room g n h v → IsScanOf room g n h (record v { room = r })
room_keeps room g n h v r was = record { covered = was.covered; stored = was.stored; live = record { waiting = was.live.waiting; flying = was.live.flying }; in_room = was.in_room }

-- a batch of the lowest pieces was taken
pub taken_keeps : (old new : ScanView) (b : Batch) (vdev most : ℕ) → IsOrderly old → b.number ≡ old.batches → b.items ≡ lowest old.waiting vdev most → Taken old b new → Keeps old new
taken_keeps old new b vdev most kept number items taken = λ room g n h was.
    subst (λ (v : ScanView). IsScanOf room g n h v) (sym taken.rest) (record {
      covered = later_keeps room g n h h old.scope old.run (is_done old) (λ p. has_piece old.checked p || is_some (mark_of new.marks p)) was.covered (omega arith) (λ p live done. still p (has_item b.items p) refl done);
      stored = was.stored;
      live = record {
        waiting = λ e has. was.live.waiting e (has-filter _ old.waiting e has).0;
        flying = λ c i here has there. elim (from-last old.flight b c here) [
          | inl before ↦ was.live.flying c i before has (flew i.piece c before (has_item b.items i.piece) (sym (taken.marks i.piece) ∙ there))
          | inr this ↦ was.live.waiting (i.piece, i) (waited i (subst (λ (x : Batch). Has x.items i) (sym this) has))
        ];
      };
      in_room = λ c i here has. elim (from-last old.flight b c here) [
        | inl before ↦ was.in_room c i before has
        | inr this ↦ block_in_room room g n i.piece i.sectors i.sum was.covered.valid (was.live.waiting (i.piece, i) (waited i (subst (λ (x : Batch). Has x.items i) (sym this) has)))
      ];
    })
  where
    -- what was done is done still
    still : (p : Piece) (x : Bool) → has_item b.items p ≡ x → IsTrue (is_done old p) → IsTrue (has_piece old.checked p || is_some (mark_of new.marks p))
    still p true in_batch done = rw (taken.marks p, in_batch) (or-true (has_piece old.checked p))
    still p false apart done = rw (taken.marks p, apart) done

    number_of : Option Mark → ℕ
    number_of None = 0
    number_of (Some None) = 0
    number_of (Some (Some k)) = k

    -- what flies in a batch of before flew in it
    flew : (p : Piece) (c : Batch) → Has old.flight c → (x : Bool) → cond x (Some (Some b.number)) (mark_of old.marks p) ≡ Some (Some c.number) → mark_of old.marks p ≡ Some (Some c.number)
    flew p c before true e =
        let same : b.number ≡ c.number = ap number_of e in
        let less : c.number < old.batches = below_next old.batches old.flight c kept.numbers before in
        absurd (omega (arith, same, less, number))
    flew p c before false e = e

    -- the batch's items waited
    waited : (i : Item) → Has b.items i → Has old.waiting (i.piece, i)
    waited i has = (lowest_is_batch old.waiting vdev most kept.named kept.ordered).waiting i (subst (λ (l : List Item). Has l i) items has)

-- so too where the scan before is given by its parts
pub taken_from : (v old new : ScanView) (b : Batch) (vdev most : ℕ) → v ≡ old → IsOrderly v → b.number ≡ v.batches → b.items ≡ lowest v.waiting vdev most → Taken old b new → Keeps old new
taken_from v old new b vdev most same kept number items taken = taken_keeps old new b vdev most (subst IsOrderly same kept) (number ∙ ap (λ (x : ScanView). x.batches) same) (items ∙ ap (λ (x : ScanView). lowest x.waiting vdev most) same) taken
