-- A scan that never ran is that of any datasets.
use Rattle.std.proofs.Common.{◌≡◌, ◌≤◌, ℕ, zero, suc, List, [], replicate, refl, sym, subst, inl, inr, arith}
use Rattle.std.specs.Prelude.{Result, Ok, Err, IfOk}
use Rattle.zs_ids.specs.Graph.{Graph, Has}
use Rattle.zs_ids.specs.GraphValid.{Room, Valid}
use Rattle.zs_ranges.specs.declared.set.Interval.{Interval}
use Rattle.zs_phys.specs.Handlers.{idle}
use Rattle.zs_phys.specs.Sound.{Sound}
use Rattle.zs_phys.specs.Sound.EndsBy.{past}
use Rattle.zs_cover.proofs.States.{at≢nowhere}
use Rattle.zs_scan.specs.View.{ScanView}
use Rattle.zs_scan.specs.Covered.{IsScanOf}
use Rattle.zs_scan.specs.Steps.{blank_scan, no_scope}

-- each of so many empty sets is empty
all_empty : (many : ℕ) (log : List Interval) → Has (replicate many []) log → log ≡ []
all_empty zero log none = absurd none
all_empty (suc many) log here = elim here [ inl is ↦ sym is | inr later ↦ all_empty many log later ]

-- the state of a scan that never ran belongs to any datasets
idle_sound : (g : Graph) (h devices width : ℕ) → Sound g h (no_scope devices width) idle
idle_sound g h devices width = record {
  exist = λ id none. absurd none;
  once = tt;
  unrelated = λ a b none. absurd none;
  mins = λ q none. absurd none;
  ends = past (omega arith);
  pass = λ d k here at. absurd (at≢nowhere d.id k (sym at));
  rests = λ _. record { nowhere = refl; empty = refl; goes_on = refl };
  between = λ _. record { no_min = refl; no_max = refl; no_again = refl };
  idle = (λ _. refl, λ _. refl);
  empty = λ _. (refl, refl);
  scrubs = λ paused. cc;
  logs = λ _ log here. all_empty devices log here;
}

-- and so does such a scan
blank_own : (v : ScanView) (devices width limit every ledger_room : ℕ) → v ≡ blank_scan devices width limit every ledger_room → (room : Room) (g : Graph) (n h : ℕ) → n ≤ h → Valid room g n → IsScanOf room g n h v
blank_own v devices width limit every ledger_room is room g n h early valid = subst (λ (x : ScanView). IsScanOf room g n h x) (sym is) (record {
  covered = record { early = early; valid = valid; sound = idle_sound g h devices width; covers = record { covered = λ claim d e p home piece in_range. cc } };
  stored = record { early = early; valid = valid; sound = idle_sound g h devices width; covers = record { covered = λ claim d e p home piece in_range. cc } };
  live = record { waiting = λ e none. absurd none; flying = λ b i none. absurd none };
  in_room = λ b i none. absurd none;
})

-- where it could be made
pub blank_if : {E : Type 0} (r : Result ScanView E) (devices width limit every : ℕ) → IfOk r (λ s. s ≡ blank_scan devices width limit every s.room)
    → IfOk r (λ s. (room : Room) (g : Graph) (n h : ℕ) → n ≤ h → Valid room g n → IsScanOf room g n h s)
blank_if (Ok s) devices width limit every is = blank_own s devices width limit every s.room is
blank_if (Err why) devices width limit every none = tt
