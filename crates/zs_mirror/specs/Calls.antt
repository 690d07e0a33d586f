-- What the calls of a mirror answer, and what they leave.
use Rattle.std.specs.Prelude.{◌≡◌, ◌≢◌, ◌⊎◌, ℕ, ◌+◌, ◌<◌, ◌≤◌, Bool, true, false, List, [], ◌∷◌, length, slice_index_or, slice_range}
use Rattle.zs_sum.specs.Sum.{sha256}
use Rattle.zs_io.specs.Told.{Told}
use Rattle.zs_lane.specs.declared.mark.Mark.{Mark}
use Rattle.zs_lane.specs.declared.mark.Mark.TheVariants.{Read, Wrote, Synced, Failed}
use Rattle.zs_lane.specs.Children.{DeviceView, Stays}
use Rattle.zs_ids.specs.declared.block.Item.{Item}
use Rattle.zs_ledger.specs.declared.entry.CopyResult.{CopyResult}
use Rattle.zs_ledger.specs.declared.entry.CopyResult.TheVariants.{Missing, Good, Rewritten, Bad, Fault, Absent}
use Rattle.zs_ledger.specs.declared.entry.Entry.{Entry}
use Rattle.zs_ledger.specs.Entry.{AreCopies}
use Rattle.zs_mirror.specs.Mirror.{Untouched, nowhere, has_bit, start_of, first_of, size_of, IsOther, Change, Went, IsDurable, Uncalled, Touched}
use Rattle.zs_mirror.specs.Mirror.Change.{Kept, Put, Opened}

-- What a write made of a copy, by whether its device was online, and whether the copy counts as failed: it was written
-- or its write failed; an offline one was left alone, and counts as failed.
abbrev pub WasWritten : Bool → Bool → ℕ → List ℕ → ℕ → DeviceView → DeviceView → Type 0
WasWritten true false at bytes place old new = Went (Put at bytes) (Wrote at (length bytes) (sha256 bytes) ∷ []) false place old new
WasWritten true true at bytes place old new = Went (Opened at bytes) (Failed ∷ []) true place old new
WasWritten false true at bytes place old new = Uncalled place old new
WasWritten false false at bytes place old new = ⊥

-- The first copies were written, as the mask of those that failed and the places tell.
pub record AreWritten (online first copies at : ℕ) (bytes : List ℕ) (failed : ℕ) (places : List ℕ) (old new : ℕ → DeviceView) : Type 0 where
  pub each : (k : ℕ) → k < copies → WasWritten (has_bit online (first + k)) (has_bit failed (first + k)) at bytes
      (slice_index_or places (first + k) nowhere) (old (first + k)) (new (first + k))
  pub none_else : (e : ℕ) → IsOther first copies e → has_bit failed e ≡ false
  pub nowhere_else : (e : ℕ) → IsOther first copies e → slice_index_or places e nowhere ≡ nowhere

-- A copy was read, and its bytes had this sum.
pub record HasRead (at len : ℕ) (sum : List ℕ) (place : ℕ) (old new : DeviceView) : Type 0 where
  pub bytes : Told old.told (λ b. sha256 (slice_range b at (at + len)) ≡ sum)
  pub went : Went Kept (Read at len sum ∷ []) false place old new

-- A copy was read, and its bytes had another sum; these marks and this change came after the read.
pub record HasReadOther (at len : ℕ) (sum : List ℕ) (change : Change) (more : List Mark) (failed : Bool) (place : ℕ) (old new : DeviceView) : Type 0 where
  pub read : List ℕ
  pub differs : read ≢ sum
  pub bytes : Told old.told (λ b. sha256 (slice_range b at (at + len)) ≡ read)
  pub went : Went change (Read at len read ∷ more) failed place old new

-- What the read of a copy was, by whether its device was online, and its letter: its bytes had the sum, or had not;
-- the read failed; or the device was offline and there was no call.
abbrev pub WasRead : Bool → CopyResult → ℕ → ℕ → List ℕ → ℕ → DeviceView → DeviceView → Type 0
WasRead true Good at len sum place old new = HasRead at len sum place old new
WasRead true Bad at len sum place old new = HasReadOther at len sum Kept [] false place old new
WasRead true Fault at len sum place old new = Went Kept (Failed ∷ []) true place old new
WasRead false Absent at len sum place old new = Uncalled place old new
WasRead _ _ at len sum place old new = ⊥

-- a copy was tried, and gave no bytes that have the sum
abbrev pub WasLost : Bool → ℕ → ℕ → List ℕ → ℕ → DeviceView → DeviceView → Type 0
WasLost online at len sum place old new = (copy : CopyResult) × (copy ≢ Good) × WasRead online copy at len sum place old new

-- The first copies were tried, and none gave bytes that have the sum.
pub record AreLost (online first copies at len : ℕ) (sum places : List ℕ) (old new : ℕ → DeviceView) : Type 0 where
  pub each : (k : ℕ) → k < copies → WasLost (has_bit online (first + k)) at len sum (slice_index_or places k nowhere) (old (first + k)) (new (first + k))
  pub nowhere_else : (k : ℕ) → copies ≤ k → slice_index_or places k nowhere ≡ nowhere

-- A copy was read whose bytes have the sum; the ones before it were tried in vain, and those after it were not tried.
pub record IsFound (online first width at len : ℕ) (sum places : List ℕ) (old new : ℕ → DeviceView) : Type 0 where
  pub copy : ℕ
  pub there : copy < width
  pub good : WasRead (has_bit online (first + copy)) Good at len sum (slice_index_or places copy nowhere) (old (first + copy)) (new (first + copy))
  pub before : (k : ℕ) → k < copy → WasLost (has_bit online (first + k)) at len sum (slice_index_or places k nowhere) (old (first + k)) (new (first + k))
  pub untried : (k : ℕ) → copy < k → Stays (old (first + k)) (new (first + k))
  pub nowhere_else : (k : ℕ) → copy < k → slice_index_or places k nowhere ≡ nowhere

-- What the check of a copy was, by whether its device was online, and its letter. `good` are the bytes of a good copy.
-- A copy whose bytes had another sum is bad, or good bytes were written over it and synced; where that write or that
-- sync failed, or the read did, it is a fault. A good copy is not written.
abbrev pub WasChecked : Bool → CopyResult → ℕ → ℕ → List ℕ → List ℕ → ℕ → DeviceView → DeviceView → Type 0
WasChecked true Good at len sum good place old new = HasRead at len sum place old new
WasChecked true Bad at len sum good place old new = HasReadOther at len sum Kept [] false place old new
WasChecked true Rewritten at len sum good place old new =
    (sha256 good ≡ sum) × HasReadOther at len sum (Put at good) (Wrote at len sum ∷ Synced ∷ []) false place old new × IsDurable new
WasChecked true Fault at len sum good place old new = Went Kept (Failed ∷ []) true place old new
    ⊎ ((sha256 good ≡ sum) × (HasReadOther at len sum (Opened at good) (Failed ∷ []) true place old new
    ⊎ HasReadOther at len sum (Put at good) (Wrote at len sum ∷ Failed ∷ []) true place old new))
WasChecked false Absent at len sum good place old new = Uncalled place old new
WasChecked _ _ at len sum good place old new = ⊥

-- The check of a block: each of its copies was checked; those from the width on are missing, and have no place.
pub record AreChecked (online first width at len : ℕ) (sum : List ℕ) (letters : List CopyResult) (marks : List ℕ)
    (old new : ℕ → DeviceView) : Type 0 where
  -- the bytes of a good copy, where there is one
  pub good : List ℕ
  pub long : length good ≡ len
  pub each : (k : ℕ) → k < width → WasChecked (has_bit online (first + k)) (slice_index_or letters k Missing) at len sum good
      (slice_index_or marks k nowhere) (old (first + k)) (new (first + k))
  pub copies : AreCopies width letters
  pub nowhere_else : (k : ℕ) → width ≤ k → slice_index_or marks k nowhere ≡ nowhere
  -- a copy is rewritten only beside a good one, and bad only where there is none
  pub beside : (k : ℕ) → slice_index_or letters k Missing ≡ Rewritten → (j : ℕ) × (j < width) × (slice_index_or letters j Missing ≡ Good)
  pub alone : (j k : ℕ) → slice_index_or letters j Missing ≡ Good → slice_index_or letters k Missing ≢ Bad

-- the check of an item, as its entry tells
abbrev pub IsChecked : ℕ → ℕ → Item → Entry → (ℕ → DeviceView) → (ℕ → DeviceView) → Type 0
IsChecked online width item entry old new = AreChecked online (first_of item.piece.place.vdev width) width (start_of item.piece.place)
    (size_of item) item.sum entry.copies entry.marks old new

-- A copy where a check was broken off: it was not written, or a write of bytes with the sum was made or begun.
abbrev pub MayBeRewritten : ℕ → ℕ → List ℕ → DeviceView → DeviceView → Type 0
MayBeRewritten at len sum old new = Untouched old new ⊎ ((good : List ℕ) × (length good ≡ len) × (sha256 good ≡ sum) × Touched at good old new)

-- the entry is of the item's piece, with its size and sum
pub record IsEntryOf (item : Item) (entry : Entry) : Type 0 where
  pub piece : entry.piece ≡ item.piece
  pub sectors : entry.sectors ≡ item.sectors
  pub sum : entry.sum ≡ item.sum
