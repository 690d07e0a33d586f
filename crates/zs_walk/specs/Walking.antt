-- When the walk may go on, and what is known of a block that it meets.
use Rattle.std.specs.Prelude.{◌≡◌, ◌<◌, ◌≤◌, ◌&&◌, ℕ, Bool, true, false, not}
use Rattle.zs_ids.specs.declared.key.Key.{Key}
use Rattle.zs_ids.specs.declared.block.Bp.{Bp}
use Rattle.zs_ids.specs.Graph.{Has, Dataset, Graph}
use Rattle.zs_ids.specs.GraphValid.{Room, Valid}
use Rattle.zs_phys.specs.declared.scope.Scope.{Scope}
use Rattle.zs_phys.specs.declared.phys.Phys.{Phys}
use Rattle.zs_phys.specs.declared.phys.Status.{Status}
use Rattle.zs_phys.specs.declared.phys.Status.TheVariants.{Never, Scanning, Finished, Canceled}
use Rattle.zs_phys.specs.declared.step.Step.{Step}
use Rattle.zs_phys.specs.declared.step.Step.TheVariants as steps
use Rattle.zs_phys.specs.Sound.{Sound}

-- the graph is valid up to some transaction group n, and the state belongs to it, where the tasks of some h, not before
-- n, come next
pub record MayWalk (g : Graph) (scope : Scope) (s : Phys) : Type 0 where
  pub room : Room
  pub n : ℕ
  pub h : ℕ
  pub early : n ≤ h
  pub valid : Valid room g n
  pub sound : Sound g h scope s

-- a block of a dataset: there is a key right behind its own, and its pointer uses one to three places
pub record IsOfDataset (k : Key) (bp : Bp) : Type 0 where
  pub shallow : k.depth < 4
  pub some : 1 ≤ bp.count
  pub few : bp.count ≤ 3

-- the block that the turn meets, where it meets one, is a block of a dataset
abbrev pub MeetsBlock : Step → Type 0
MeetsBlock (steps.At k bp) = IsOfDataset k bp
MeetsBlock steps.Nothing = Unit {0}
MeetsBlock steps.Skip = Unit {0}
MeetsBlock (steps.Enter id least) = Unit {0}
MeetsBlock (steps.End id) = Unit {0}

-- no head has a transaction group in which it was taken
abbrev pub AreHeadsUndated : Graph → Type 0
AreHeadsUndated g = (d : Dataset) → Has g d → d.head ≡ true → d.creation ≡ 0

-- a scan runs
abbrev pub runs : Status → Bool
runs Never = false
runs Scanning = true
runs Finished = false
runs Canceled = false

-- a scan runs, and is not paused
abbrev pub is_walking : Phys → Bool
is_walking s = runs s.status && not s.paused
