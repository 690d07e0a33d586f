-- The two steps of a check, for which only its own functions ask.
use Rattle.std.specs.Prelude.{◌≡◌, ◌⊎◌, ℕ, ◌+◌, ◌<◌, ◌≤◌, Bool, true, false, List, [], ◌∷◌, slice_index_or}
use Rattle.zs_sum.specs.Sum.{sha256}
use Rattle.zs_lane.specs.declared.mark.Mark.TheVariants.{Wrote, Synced, Failed}
use Rattle.zs_lane.specs.Children.{DeviceView, Stays}
use Rattle.zs_ledger.specs.declared.entry.CopyResult.{CopyResult}
use Rattle.zs_ledger.specs.declared.entry.CopyResult.TheVariants.{Missing, Good, Rewritten, Bad, Fault, Absent}
use Rattle.zs_mirror.specs.Mirror.{nowhere, has_bit, Went, IsDurable}
use Rattle.zs_mirror.specs.Mirror.Change.{Kept, Put, Opened}
use Rattle.zs_mirror.specs.Calls.{WasRead}

-- The first copies were read, each with its letter, and where one is good, these bytes have the sum.
pub record AreRead (online first copies at len : ℕ) (sum good : List ℕ) (letters : List CopyResult) (marks : List ℕ)
    (old new : ℕ → DeviceView) : Type 0 where
  pub each : (k : ℕ) → k < copies → WasRead (has_bit online (first + k)) (slice_index_or letters k Missing) at len sum
      (slice_index_or marks k nowhere) (old (first + k)) (new (first + k))
  pub missing_else : (k : ℕ) → copies ≤ k → slice_index_or letters k Missing ≡ Missing
  pub nowhere_else : (k : ℕ) → copies ≤ k → slice_index_or marks k nowhere ≡ nowhere
  pub sum_is : (k : ℕ) → slice_index_or letters k Missing ≡ Good → sha256 good ≡ sum

-- what a sync was, by the letter that it gives: it succeeded, or failed
abbrev pub WasSynced : CopyResult → ℕ → DeviceView → DeviceView → Type 0
WasSynced Rewritten place old new = Went Kept (Synced ∷ []) false place old new × IsDurable new
WasSynced Fault place old new = Went Kept (Failed ∷ []) true place old new
WasSynced _ place old new = ⊥

-- What a rewrite was, by the letter that it gives: the bytes were written and synced; or the write or the sync failed.
abbrev pub WasRewritten : CopyResult → ℕ → ℕ → ℕ → List ℕ → List ℕ → DeviceView → DeviceView → Type 0
WasRewritten Rewritten place at len sum good old new = Went (Put at good) (Wrote at len sum ∷ Synced ∷ []) false place old new × IsDurable new
WasRewritten Fault place at len sum good old new = Went (Opened at good) (Failed ∷ []) true place old new
    ⊎ Went (Put at good) (Wrote at len sum ∷ Failed ∷ []) true place old new
WasRewritten _ place at len sum good old new = ⊥

-- What the repair of a copy was, by its letter before and after: a bad copy was rewritten, and any other was left alone.
abbrev pub WasRepaired : CopyResult → ℕ → CopyResult → ℕ → ℕ → ℕ → List ℕ → List ℕ → DeviceView → DeviceView → Type 0
WasRepaired Bad was copy place at len sum good old new = WasRewritten copy place at len sum good old new
WasRepaired before was copy place at len sum good old new = (copy ≡ before) × (place ≡ was) × Stays old new

-- the first copies were repaired, and the others are still to be
pub record AreRepaired (first copies at len : ℕ) (sum good : List ℕ) (before : List CopyResult) (was : List ℕ)
    (letters : List CopyResult) (marks : List ℕ) (old new : ℕ → DeviceView) : Type 0 where
  pub each : (k : ℕ) → k < copies → WasRepaired (slice_index_or before k Missing) (slice_index_or was k nowhere) (slice_index_or letters k Missing)
      (slice_index_or marks k nowhere) at len sum good (old (first + k)) (new (first + k))
  pub same_letters : (k : ℕ) → copies ≤ k → slice_index_or letters k Missing ≡ slice_index_or before k Missing
  pub same_marks : (k : ℕ) → copies ≤ k → slice_index_or marks k nowhere ≡ slice_index_or was k nowhere

-- the letter is that of a good copy
abbrev pub is_good : CopyResult → Bool
is_good Missing = false
is_good Good = true
is_good Rewritten = false
is_good Bad = false
is_good Fault = false
is_good Absent = false
