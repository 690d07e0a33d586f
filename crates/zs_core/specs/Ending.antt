-- How a scan comes to its end, or makes a checkpoint, when the tasks of a transaction group have run.
use Rattle.std.specs.Prelude.{◌≡◌, ◌↔◌, ◌⊎◌, ℕ, Bool, true, false, IsTrue}
use Rattle.zs_ids.specs.Graph.{Graph}
use Rattle.zs_ids.specs.GraphValid.{Room}
use Rattle.zs_scan.specs.View.{ScanView}
use Rattle.zs_phys.specs.declared.phys.Status.TheVariants.{Scanning}
use Rattle.zs_scan.specs.Steps.{IsComplete, IsDrained, checkpointed, finished}
use Rattle.zs_scan.specs.Covered.{IsScanOf, AllAreChecked}

-- a scan that is scanning, paused or not, makes a checkpoint where nothing waits and no batch is in flight
pub record IsAtCheckpoint (v : ScanView) : Type 0 where
  pub scans : v.run.status ≡ Scanning
  pub drained : IsDrained v

-- in the transaction group t a scan makes a checkpoint exactly where it may, and else nothing changes
abbrev pub SavesIfDrained : ℕ → ScanView → ScanView → Type 0
SavesIfDrained t old new = (IsAtCheckpoint old × (new ≡ checkpointed t old)) ⊎ ((IsAtCheckpoint old → ⊥) × (new ≡ old))

-- a scan ends exactly where it is complete, and every live piece in its scope is checked then; else it makes a checkpoint where
-- it may. It stays that of the datasets
pub record EndsWith (t : ℕ) (old : ScanView) (ended : Bool) (new : ScanView) : Type 0 where
  pub complete : IsTrue ended ↔ IsComplete old
  pub done : ended ≡ true → new ≡ finished old
  pub saves : ended ≡ false → SavesIfDrained t old new
  pub keeps : (room : Room) (g : Graph) (n h : ℕ) → IsScanOf room g n h old → IsScanOf room g n h new
  pub all : ended ≡ true → (room : Room) (g : Graph) (n h : ℕ) → IsScanOf room g n h old → AllAreChecked g old.scope old.checked
