-- A scan that is stopped stays the datasets' own: it claims nothing any more.
use Rattle.std.proofs.Common.{◌≡◌, ℕ, Bool, true, List, [], refl, sym, ◌∙◌, subst}
use Rattle.std.specs.Prelude.{Some, None}
use Rattle.zs_ids.specs.declared.block.Piece.{Piece}
use Rattle.zs_ids.specs.Graph.{Graph}
use Rattle.zs_ids.specs.GraphValid.{Room}
use Rattle.zs_phys.specs.declared.scope.Scope.{Scope}
use Rattle.zs_phys.specs.declared.phys.Phys.{Phys}
use Rattle.zs_phys.specs.declared.phys.At.TheVariants.{Nowhere}
use Rattle.zs_phys.specs.declared.phys.Status.TheVariants.{Never, Scanning, Canceled}
use Rattle.zs_phys.specs.Sound.{EndsBy, Sound}
use Rattle.zs_phys.specs.Sound.EndsBy.{past, started, canceled as canceled_by}
use Rattle.zs_cover.specs.Laws.{IsCovered}
use Rattle.zs_cover.proofs.States.{at≢nowhere}
use Rattle.zs_walk.specs.Walking.{runs}
use Rattle.zs_scan.specs.View.{ScanView, is_done, is_stored}
use Rattle.zs_scan.specs.Covered.{Keeps}
use Rattle.zs_scan.specs.Steps.{canceled, stopped}
use Rattle.zs_scan.proofs.Pauses.{scanning}

ends_canceled : (h : ℕ) (scope : Scope) (s : Phys) → EndsBy h scope s → EndsBy h scope (canceled s)
ends_canceled h scope s (past by) = past by
ends_canceled h scope s (started at by todo) = canceled_by refl by refl
ends_canceled h scope s (canceled_by at by status) = canceled_by refl by refl

sound_canceled : (g : Graph) (h : ℕ) (scope : Scope) (s : Phys) → s.status ≡ Scanning → Sound g h scope s → Sound g h scope (canceled s)
sound_canceled g h scope s scans sound = record {
  exist = λ id none. absurd none;
  once = tt;
  unrelated = λ a b none. absurd none;
  mins = λ q none. absurd none;
  ends = ends_canceled h scope s sound.ends;
  pass = λ d k here at. absurd (at≢nowhere d.id k (sym at));
  rests = λ _. record { nowhere = refl; empty = refl; goes_on = refl };
  between = λ _. record { no_min = refl; no_max = refl; no_again = refl };
  idle = (λ kind. let e : Scanning ≡ Never = sym scans ∙ sound.idle.0 kind in cc, λ (e : Canceled ≡ Never). cc);
  empty = sound.empty;
  scrubs = λ paused. cc;
  logs = sound.logs;
}

-- the state of a scan that was stopped covers, whatever was done
covered_canceled : (own : Room) (g : Graph) (n h : ℕ) (scope : Scope) (s : Phys) (done more : Piece → Bool) → s.status ≡ Scanning → IsCovered own g n h scope s done → IsCovered own g n h scope (canceled s) more
covered_canceled own g n h scope s done more scans is = record {
  early = is.early;
  valid = is.valid;
  sound = sound_canceled g h scope s scans is.sound;
  covers = record { covered = λ claim d e p home piece in_range. cc };
}

-- a scan that is stopped stays the datasets' own
stopped_keeps : (v : ScanView) → runs v.run.status ≡ true → Keeps v (stopped v)
stopped_keeps v running own g n h is = record {
  covered = covered_canceled own g n h v.scope v.run (is_done v) (is_done (stopped v)) scans is.covered;
  stored = covered_canceled own g n h v.scope v.run (is_done v) (is_stored (stopped v)) scans is.covered;
  live = record { waiting = λ e none. absurd none; flying = λ b i here item (flies : None ≡ Some (Some b.number)). cc };
  in_room = is.in_room;
}
  where
    scans : v.run.status ≡ Scanning
    scans = scanning v.run.status running

-- the same, where what the call leaves is told by an equation
pub stop_keeps : (now new : ScanView) → runs now.run.status ≡ true → new ≡ stopped now → Keeps now new
stop_keeps now new running is = subst (λ (o : ScanView). Keeps now o) (sym is) (stopped_keeps now running)
