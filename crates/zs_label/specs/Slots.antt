-- The steps that write a label and its record into their slot, and what an image has there.
use Rattle.std.specs.Prelude.{◌≡◌, ◌≢◌, ◌⊎◌, ℕ, ◌+◌, ◌*◌, ◌≤◌, List, [], ◌∷◌, ◌++◌, length, slice_index, slice_range, true, Some, None}
use Rattle.zs_ids.specs.declared.limits.TheConstants.{SECTOR}
use Rattle.zs_sum.specs.Sum.{sha256}
use Rattle.zs_lane.specs.Children.{DeviceView}
use Rattle.zs_label.specs.Layout.{slot_of, body_at, gate_at, record_at, data_start}
use Rattle.zs_label.specs.Label.{label_bytes, is_valid, body_of, label_of}
use Rattle.zs_label.specs.Laws.{SaysLabel}
use Rattle.zs_label.specs.Steps.{Step}
use Rattle.zs_label.specs.Steps.Step.{Write, Sync}
use Rattle.zs_label.specs.Leaving.{IsOutside}
use Rattle.zs_label.specs.declared.label.Label.{Label}

-- The label is one of this device and of this record, and the device has the room for both.
pub record IsLabelFor (dev : ℕ) (rec : List ℕ) (device : DeviceView) (label : Label) : Type 0 where
  pub valid : is_valid label ≡ true
  pub number : label.number ≡ dev
  pub long : label.length ≡ length rec
  pub sum : label.sum ≡ sha256 rec
  pub room : SECTOR * data_start label.blocks ≤ device.size

-- the first byte of the record
abbrev pub record_of : Label → ℕ
record_of label = record_at label.blocks (slot_of label.txg)

-- a slot is closed, filled, and opened; each of them is synced
abbrev pub close_steps : ℕ → List Step
close_steps slot = Write (gate_at slot) (0 ∷ []) ∷ Sync ∷ []

abbrev pub fill_steps : Label → List ℕ → List Step
fill_steps label rec = Write (record_of label) rec ∷ Write (body_at (slot_of label.txg)) (label_bytes label) ∷ Sync ∷ []

abbrev pub open_steps : ℕ → List Step
open_steps slot = Write (gate_at slot) (1 ∷ []) ∷ Sync ∷ []

-- the seven of them
abbrev pub put_steps : Label → List ℕ → List Step
put_steps label rec = close_steps (slot_of label.txg) ++ fill_steps label rec ++ open_steps (slot_of label.txg)

abbrev pub IsClosed : ℕ → List ℕ → Type 0
IsClosed slot c = slice_index c (gate_at slot) ≡ 0

-- The slot's body is the label's, and the record stands in its slot; the gate may be open or closed.
pub record IsFilled (label : Label) (rec c : List ℕ) : Type 0 where
  pub says : SaysLabel label (body_of (slot_of label.txg) c)
  pub stands : slice_range c (record_of label) (record_of label + length rec) ≡ rec

-- The slot is the label, with its record.
pub record HoldsLabel (label : Label) (rec c : List ℕ) : Type 0 where
  pub found : label_of (slot_of label.txg) c ≡ Some label
  pub stands : slice_range c (record_of label) (record_of label + length rec) ≡ rec

-- outside of the slot's body and the record; and outside of the gate too
abbrev pub IsUnfilled : Label → List ℕ → ℕ → Type 0
IsUnfilled label rec i = IsOutside (body_at (slot_of label.txg)) SECTOR i × IsOutside (record_of label) (length rec) i

abbrev pub IsElsewhere : Label → List ℕ → ℕ → Type 0
IsElsewhere label rec i = (i ≢ gate_at (slot_of label.txg)) × IsOutside (body_at (slot_of label.txg)) SECTOR i × IsOutside (record_of label) (length rec) i

-- what the slot is at any moment of a put: it and all else is as before, it has no label, or it is the new label with its record
abbrev pub IsOneOfThree : Label → List ℕ → List ℕ → List ℕ → Type 0
IsOneOfThree label rec d c = (c ≡ d) ⊎ ((label_of (slot_of label.txg) c ≡ None) ⊎ HoldsLabel label rec c)
