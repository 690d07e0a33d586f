-- A scan that was opened is that of the datasets which its state covers with its entries.
use Rattle.std.proofs.Common.{◌≡◌, ◌||◌, ℕ, Bool, true, false, List, take, length, refl, sym, subst}
use Rattle.std.proofs.Math.Nat.{le_refl}
use Rattle.std.proofs.lemmas.List.{take_all}
use Rattle.zs_ids.specs.declared.block.Piece.{Piece}
use Rattle.zs_ids.specs.Graph.{Graph}
use Rattle.zs_ids.specs.GraphValid.{Room}
use Rattle.zs_ledger.specs.declared.entry.Entry.{Entry}
use Rattle.zs_ledger.specs.Kept.{has_piece}
use Rattle.zs_phys.specs.declared.phys.Phys.{Phys}
use Rattle.zs_phys.specs.declared.scope.Scope.{Scope}
use Rattle.zs_cover.specs.Laws.{IsCovered}
use Rattle.zs_cover.proofs.Rests.{later_keeps}
use Rattle.zs_scan.specs.View.{ScanView, is_done, is_stored}
use Rattle.zs_scan.specs.Covered.{IsScanOf}
use Rattle.zs_scan.specs.Steps.{opened_scan}

or_true : (b : Bool) → b ≡ true → (b || false) ≡ true
or_true true h = refl
or_true false h = h

-- all of its entries are stored
all_stored : (entries : List Entry) (p : Piece) → has_piece entries p ≡ true → has_piece (take (length entries) entries) p ≡ true
all_stored entries p has = subst (λ (l : List Entry). has_piece l p ≡ true) (sym (take_all (length entries) entries (le_refl (length entries)))) has

pub opened_own : (v : ScanView) (scope : Scope) (kept : Phys) (entries : List Entry) (limit saved every ledger_room : ℕ) → v ≡ opened_scan scope kept entries limit saved every ledger_room
    → (room : Room) (g : Graph) (n h : ℕ) → IsCovered room g n h scope kept (λ p. has_piece entries p) → IsScanOf room g n h v
opened_own v scope kept entries limit saved every ledger_room is room g n h covered = subst (λ (x : ScanView). IsScanOf room g n h x) (sym is) (record {
  covered = later_keeps room g n h h scope kept (λ p. has_piece entries p) (λ p. is_done (opened_scan scope kept entries limit saved every ledger_room) p) covered (le_refl h) (λ p live has. or_true (has_piece entries p) has);
  stored = later_keeps room g n h h scope kept (λ p. has_piece entries p) (λ p. is_stored (opened_scan scope kept entries limit saved every ledger_room) p) covered (le_refl h) (λ p live has. all_stored entries p has);
  live = record { waiting = λ e none. absurd none; flying = λ b i none. absurd none };
  in_room = λ b i none. absurd none;
})
