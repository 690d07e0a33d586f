-- Calls on a device, one after another: which marks they make, and what they leave of its bytes.
use Rattle.std.specs.Prelude.{◌≡◌, ℕ, ◌+◌, List, [], ◌∷◌, ◌++◌, map, length, option_map, Result, Ok, Err}
use Rattle.zs_sum.specs.Sum.{sha256}
use Rattle.zs_io.specs.Told.{Told, BothTold, Torn, over}
use Rattle.zs_io.specs.Faults.{Rose}
use Rattle.zs_lane.specs.declared.mark.Mark.{Mark}
use Rattle.zs_lane.specs.declared.mark.Mark.TheVariants.{Wrote, Synced, Failed as FailedMark}
use Rattle.zs_lane.specs.declared.fault.LaneFault.{LaneFault}
use Rattle.zs_lane.specs.declared.fault.LaneFault.TheVariants.{Failed, Memory}
use Rattle.zs_lane.specs.Children.{DeviceView}

-- a write of these bytes from there on, or a sync
pub data Step : Type 0 where
  Write : ℕ → List ℕ → Step
  Sync : Step

-- its mark in the journal
abbrev pub mark_of : Step → Mark
mark_of (Write at bytes) = Wrote at (length bytes) (sha256 bytes)
mark_of Sync = Synced

-- the bytes as they read behind these steps
abbrev pub behind : List Step → List ℕ → List ℕ
behind [] b = b
behind (Write at bytes ∷ steps) b = behind steps (over at bytes b)
behind (Sync ∷ steps) b = behind steps b

-- what a step that fails leaves of the bytes
abbrev pub Breaks : Step → List ℕ → List ℕ → Type 0
Breaks (Write at bytes) old new = Torn at bytes old new
Breaks Sync old new = new ≡ old

-- All these steps were done. The mark of the last one stands at this place.
pub record AreDone (steps : List Step) (place : ℕ) (old new : DeviceView) : Type 0 where
  pub journal : new.journal ≡ option_map (λ j. j ++ map mark_of steps) old.journal
  pub last : Told old.journal (λ j. place + 1 ≡ length j + length steps)
  pub told : new.told ≡ option_map (behind steps) old.told
  pub faults : new.faults ≡ old.faults

-- These steps were done, and the one after them failed; its mark stands at this place, and the count of faults rose.
pub record HasFailed (steps : List Step) (step : Step) (place : ℕ) (old new : DeviceView) : Type 0 where
  pub journal : new.journal ≡ option_map (λ j. j ++ (map mark_of steps ++ FailedMark ∷ [])) old.journal
  pub place_is : Told old.journal (λ j. place ≡ length j + length steps)
  pub told : BothTold (λ b c. Breaks step (behind steps b) c) old.told new.told
  pub rose : Rose old.faults new.faults

-- These steps were done, and the one after them wanted memory.
pub record HasWanted (steps : List Step) (old new : DeviceView) : Type 0 where
  pub journal : new.journal ≡ option_map (λ j. j ++ map mark_of steps) old.journal
  pub told : new.told ≡ option_map (behind steps) old.told
  pub faults : new.faults ≡ old.faults

abbrev pub Stops : List Step → Step → LaneFault → DeviceView → DeviceView → Type 0
Stops steps step (Failed place) old new = HasFailed steps step place old new
Stops steps step Memory old new = HasWanted steps old new

-- One of the steps stopped them: those before it were done, and those behind it were not begun.
pub record HaveStopped (steps : List Step) (fault : LaneFault) (old new : DeviceView) : Type 0 where
  pub before : List Step
  pub step : Step
  pub rest : List Step
  pub whole : steps ≡ before ++ step ∷ rest
  pub stops : Stops before step fault old new

-- the steps were made in order, and the answer tells how far
abbrev pub AreMade : List Step → Result ℕ LaneFault → DeviceView → DeviceView → Type 0
AreMade steps (Ok place) old new = AreDone steps place old new
AreMade steps (Err fault) old new = HaveStopped steps fault old new
