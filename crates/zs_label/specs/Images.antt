-- What was read of the images of a set, and the answer that it gives.
use Rattle.std.specs.Prelude.{◌≡◌, ◌⊎◌, ℕ, ◌≤◌, List, ◌∷◌, [], ◌++◌, length, slice_get, slice_range, Option, Some, None, option_map, Result, Err}
use Rattle.zs_sum.specs.Sum.{sha256}
use Rattle.zs_io.specs.Told.{Told}
use Rattle.zs_io.specs.Faults.{Rose}
use Rattle.zs_lane.specs.declared.mark.Mark.{Mark}
use Rattle.zs_lane.specs.declared.mark.Mark.TheVariants.{Read, Failed}
use Rattle.zs_lane.specs.Children.{DeviceView, Stays, GoesOn}
use Rattle.zs_label.specs.Layout.{SLOTS}
use Rattle.zs_label.specs.Leaving.{Leaves}
use Rattle.zs_label.specs.Best.{best_of}
use Rattle.zs_label.specs.declared.label.Label.{Label}
use Rattle.zs_label.specs.declared.fault.LabelFault.{LabelFault}
use Rattle.zs_label.specs.declared.fault.LabelFault.TheVariants.{Memory}

-- the mark of the read of a device's slots, by the bytes that it gave; or of one that failed
abbrev pub read_mark : Option (List ℕ) → Mark
read_mark None = Failed
read_mark (Some bytes) = Read 0 SLOTS (sha256 bytes)

-- a read that gave bytes gave those of the device; one that gave none raised its count of faults
abbrev pub Gave : Option (List ℕ) → DeviceView → DeviceView → Type 0
Gave None old new = Rose old.faults new.faults
Gave (Some bytes) old new = (length bytes ≡ SLOTS) × Told old.told (λ b. bytes ≡ slice_range b 0 SLOTS) × (new.faults ≡ old.faults)

-- The slots of a device were read, in one call.
pub record WasRead (read : Option (List ℕ)) (old new : DeviceView) : Type 0 where
  pub journal : new.journal ≡ option_map (λ j. j ++ read_mark read ∷ []) old.journal
  pub gave : Gave read old new
  pub told : new.told ≡ old.told
  pub leaves : Leaves (λ d c. c ≡ d) old new
  pub goes_on : GoesOn old new

-- The first devices of a set were read, and the others were let alone.
pub record WereRead (reads : List (Option (List ℕ))) (count_old count_new : ℕ) (old new : ℕ → DeviceView) : Type 0 where
  pub count : count_new ≡ count_old
  pub sizes : (e : ℕ) → (new e).size ≡ (old e).size
  pub each : (e : ℕ) (read : Option (List ℕ)) → slice_get reads e ≡ Some read → WasRead read (old e) (new e)
  pub others : (e : ℕ) → length reads ≤ e → Stays (old e) (new e)

-- The answer is the best label of what was read of all devices, or why there is none. Where memory was wanting, some may not have been read.
pub record HasBest (devices : ℕ) (result : Result (Label × ℕ) LabelFault) (count_old count_new : ℕ) (old new : ℕ → DeviceView) : Type 0 where
  pub reads : List (Option (List ℕ))
  pub read : WereRead reads count_old count_new old new
  pub few : length reads ≤ devices
  pub answer : (result ≡ Err Memory) ⊎ ((length reads ≡ devices) × (result ≡ best_of reads))
