-- A scrub that is paused, or goes on, stays the datasets' own.
use Rattle.std.proofs.Common.{◌≡◌, ◌≤◌, ◌&&◌, ◌∙◌, ℕ, Bool, true, false, refl, sym, subst}
use Rattle.std.specs.Prelude.{Result, Ok, Err, OnOk}
use Rattle.zs_ids.specs.declared.key.Key.{Key}
use Rattle.zs_ids.specs.declared.block.Bp.{Bp}
use Rattle.zs_ids.specs.declared.dataset.DsId.{DsId}
use Rattle.zs_ids.specs.Graph.{Graph}
use Rattle.zs_ids.specs.GraphValid.{Room}
use Rattle.zs_phys.specs.declared.scope.Scope.{Scope}
use Rattle.zs_ids.specs.declared.block.Piece.{Piece}
use Rattle.zs_phys.specs.declared.scope.Kind.{Kind}
use Rattle.zs_phys.specs.declared.scope.Kind.TheVariants.{Idle, Scrub, Resilver}
use Rattle.zs_phys.specs.declared.phys.Phys.{Phys}
use Rattle.zs_phys.specs.declared.phys.Status.{Status}
use Rattle.zs_phys.specs.declared.phys.Status.TheVariants.{Never, Scanning, Finished, Canceled}
use Rattle.zs_phys.specs.Ahead.{Ahead}
use Rattle.zs_phys.specs.Ahead.Ahead.{later, queued, passing, again}
use Rattle.zs_phys.specs.Sound.{EndsBy, Sound}
use Rattle.zs_phys.specs.Sound.EndsBy.{past, started, canceled}
use Rattle.zs_walk.specs.Walking.{runs}
use Rattle.zs_cover.specs.Laws.{IsCovered}
use Rattle.zs_scan.specs.View.{ScanView, is_done, is_stored}
use Rattle.zs_scan.specs.Kept.{IsOrderly}
use Rattle.zs_scan.specs.Covered.{IsScanOf, Keeps}
use Rattle.zs_scan.specs.Steps.{is_scrub, is_scrubbing, paused_as, with_paused}
use mathlib.Core.Logic.{inl, inr}

ends_paused : (b : Bool) (h : ℕ) (scope : Scope) (s : Phys) → EndsBy h scope s → EndsBy h scope (paused_as b s)
ends_paused b h scope s (past by) = past by
ends_paused b h scope s (started at by todo) = started at by todo
ends_paused b h scope s (canceled at by status) = canceled at by status

ahead_paused : (b : Bool) (g : Graph) (s : Phys) (id : DsId) (e : Key × Bp) → Ahead g s id e → Ahead g (paused_as b s) id e
ahead_paused b g s id e (later l) = later (record { ancestor = l.ancestor; is_pending = l.is_pending; above = l.above })
ahead_paused b g s id e (queued q i name born) = queued q i name born
ahead_paused b g s id e (passing k here key born old) = passing k here key born old
ahead_paused b g s id e (again k here on born) = again k here on born

sound_paused : (b : Bool) (g : Graph) (h : ℕ) (scope : Scope) (s : Phys) → s.status ≡ Scanning → scope.kind ≡ Scrub → Sound g h scope s → Sound g h scope (paused_as b s)
sound_paused b g h scope s scans scrub sound = record {
  exist = sound.exist;
  once = sound.once;
  unrelated = sound.unrelated;
  mins = sound.mins;
  ends = ends_paused b h scope s sound.ends;
  pass = λ d k here at. let p = sound.pass d k here at in record { in_range = p.in_range; in_snapshot = p.in_snapshot; whole = p.whole };
  rests = λ ne. absurd (ne scans);
  between = λ e. let b = sound.between e in record { no_min = b.no_min; no_max = b.no_max; no_again = b.no_again };
  idle = sound.idle;
  empty = sound.empty;
  scrubs = λ paused. scrub;
  logs = sound.logs;
}

covered_paused : (b : Bool) (room : Room) (g : Graph) (n h : ℕ) (scope : Scope) (s : Phys) (done : Piece → Bool) → s.status ≡ Scanning → scope.kind ≡ Scrub → IsCovered room g n h scope s done → IsCovered room g n h scope (paused_as b s) done
covered_paused b room g n h scope s done scans scrub is = record {
  early = is.early;
  valid = is.valid;
  sound = sound_paused b g h scope s scans scrub is.sound;
  covers = record {
    covered = λ claim d e p home piece in_range. elim ((is.covers).covered claim d e p home piece in_range) [
      | inl is_done ↦ inl is_done
      | inr ahead ↦ inr (ahead_paused b g s d.id e ahead)
    ];
  };
}

-- a scan that runs is scanning
pub scanning : (s : Status) → runs s ≡ true → s ≡ Scanning
scanning Never h = cc
scanning Scanning h = refl
scanning Finished h = cc
scanning Canceled h = cc

-- and a scrub is one
is_one : (k : Kind) → is_scrub k ≡ true → k ≡ Scrub
is_one Idle h = cc
is_one Scrub h = refl
is_one Resilver h = cc

both : (a b : Bool) → (a && b) ≡ true → (a ≡ true) × (b ≡ true)
both true b h = (refl, h)
both false b h = cc

-- a scrub that is paused, or goes on, stays the datasets' own
paused_keeps : (b : Bool) (v : ScanView) → IsOrderly v → is_scrubbing v ≡ true → Keeps v (with_paused b v)
paused_keeps b v orderly runs_one own g n h is = record {
  covered = covered_paused b own g n h v.scope v.run (is_done v) scans scrub is.covered;
  stored = covered_paused b own g n h v.scope v.kept (is_stored v) (orderly.same_status ∙ scans) scrub is.stored;
  live = record { waiting = is.live.waiting; flying = is.live.flying };
  in_room = is.in_room;
}
  where
    scans : v.run.status ≡ Scanning
    scans = scanning v.run.status (both (runs v.run.status) (is_scrub v.scope.kind) runs_one).0

    scrub : v.scope.kind ≡ Scrub
    scrub = is_one v.scope.kind (both (runs v.run.status) (is_scrub v.scope.kind) runs_one).1

-- the same, where the scan is another's view
pub pause_keeps : (b : Bool) (v now : ScanView) → v ≡ now → IsOrderly v → is_scrubbing now ≡ true → Keeps now (with_paused b v)
pause_keeps b v now same orderly runs_one = subst (λ (o : ScanView). Keeps now (with_paused b o)) (sym same) (paused_keeps b now (subst IsOrderly same orderly) runs_one)

-- where a scrub that was paused goes on, it stays the datasets' own at any later transaction group
pub go_on_keeps : {T E : Type 0} (t : ℕ) (old new : ScanView) (result : Result T E) → OnOk result (Keeps old new) → OnOk result ((own : Room) (g : Graph) (n h : ℕ) → t ≤ h → IsScanOf own g n h old → IsScanOf own g n h new)
go_on_keeps t old new (Ok x) keeps = λ own g n h by here. keeps own g n h here
go_on_keeps t old new (Err x) keeps = tt
