-- A scan stays the datasets' own while later transaction groups come.
use Rattle.std.proofs.Common.{◌≤◌, ℕ}
use Rattle.zs_ids.specs.Graph.{Graph}
use Rattle.zs_ids.specs.GraphValid.{Room}
use Rattle.zs_cover.proofs.Rests.{later_keeps as later_covered}
use Rattle.zs_scan.specs.View.{ScanView, is_done, is_stored}
use Rattle.zs_scan.specs.Covered.{IsScanOf}

-- a scan of the datasets stays theirs for later transaction groups
pub later_keeps : (room : Room) (g : Graph) (n h k : ℕ) (v : ScanView) → h ≤ k → IsScanOf room g n h v → IsScanOf room g n k v
later_keeps room g n h k v later is = record {
  covered = later_covered room g n h k v.scope v.run (is_done v) (is_done v) is.covered later (λ p live done. done);
  stored = later_covered room g n h k v.scope v.kept (is_stored v) (is_stored v) is.stored later (λ p live done. done);
  live = is.live;
  in_room = is.in_room;
}
