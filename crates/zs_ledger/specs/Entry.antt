-- Which copies an entry has, and which copies and entries of a ledger are errors.
use Rattle.std.specs.Prelude.{◌≡◌, ◌≢◌, ℕ, ◌<◌, ◌≤◌, ◌/◌, ◌%◌, ◌==◌, ◌&&◌, Bool, true, false, List, Option, Some, None, length, slice_get, slice_index_or}
use Rattle.std.specs.List.{list_any}
use Rattle.zs_ids.specs.Graph.{Has}
use Rattle.zs_ledger.specs.declared.entry.CopyResult.{CopyResult}
use Rattle.zs_ledger.specs.declared.entry.CopyResult.TheVariants.{Missing, Good, Rewritten, Bad, Fault, Absent}
use Rattle.zs_ledger.specs.declared.entry.Entry.{Entry}

-- the copy was not left with good bytes, or was not seen to have them
abbrev pub is_bad : CopyResult → Bool
is_bad Missing = false
is_bad Good = false
is_bad Rewritten = false
is_bad Bad = true
is_bad Fault = true
is_bad Absent = true

-- the copy is there, and an error
abbrev pub is_bad_copy : Option CopyResult → Bool
is_bad_copy None = false
is_bad_copy (Some copy) = is_bad copy

-- a copy is an error
abbrev pub has_error : Entry → Bool
has_error entry = list_any is_bad entry.copies

-- the entry's copy on the device is an error, in a pool of mirrors of that width: the device's mirror is the piece's,
-- and its place in the mirror is the copy's
abbrev pub failed_on : ℕ → ℕ → Entry → Bool
failed_on dev width entry = (entry.piece.place.vdev == dev / width) && is_bad_copy (slice_get entry.copies (dev % width))

-- an entry with that birth has an error on the device
abbrev pub has_failed_birth : List Entry → ℕ → ℕ → ℕ → Bool
has_failed_birth entries dev width txg = list_any (λ e. failed_on dev width e && (e.piece.birth == txg)) entries

-- the copies of an entry in a pool of mirrors of that width: four, of which just those from the width on are missing
pub record AreCopies (width : ℕ) (copies : List CopyResult) : Type 0 where
  pub four : length copies ≡ 4
  pub there : (k : ℕ) → k < width → slice_index_or copies k Missing ≢ Missing
  pub missing : (k : ℕ) → width ≤ k → slice_index_or copies k Missing ≡ Missing

-- so it is for each entry
abbrev pub HaveCopies : ℕ → List Entry → Type 0
HaveCopies width entries = (e : Entry) → Has entries e → AreCopies width e.copies
