-- A label has one spelling: what was written is read, and what is read spells back to the same bytes.
use Rattle.std.specs.Prelude.{◌≡◌, ◌≤◌, ◌<◌, ◌^◌, ℕ, List, length, true, Some}
use Rattle.zs_io.specs.Told.{AreBytes}
use Rattle.zs_label.specs.Layout.{SLOTS, slot_of}
use Rattle.zs_label.specs.Label.{label_bytes, fields_of, is_valid, is_label, is_open, body_of, label_of}
use Rattle.zs_label.specs.declared.label.Label.{Label}

-- what is true of every label that a program holds
pub record HasWidths (l : Label) : Type 0 where
  pub pool : l.pool < 2 ^ 64
  pub sum : length l.sum ≡ 32

-- the body is that of a label of its own slot, and says just this label
pub record SaysLabel (l : Label) (body : List ℕ) : Type 0 where
  pub label : is_label (slot_of l.txg) body ≡ true
  pub fields : fields_of body ≡ l

-- What was written is read.
abbrev pub ReadsWritten : Type 0
ReadsWritten = (l : Label) → HasWidths l → is_valid l ≡ true → SaysLabel l (label_bytes l)

-- A body that says a label is found where its slot is open.
abbrev pub FindsOpen : Type 0
FindsOpen = (l : Label) (bytes : List ℕ) → is_open (slot_of l.txg) bytes ≡ true → SaysLabel l (body_of (slot_of l.txg) bytes)
    → label_of (slot_of l.txg) bytes ≡ Some l

-- What is read spells back to the bytes of the body.
abbrev pub SpellsRead : Type 0
SpellsRead = (slot : ℕ) (l : Label) (bytes : List ℕ) → slot < 2 → AreBytes bytes → SLOTS ≤ length bytes → label_of slot bytes ≡ Some l
    → label_bytes l ≡ body_of slot bytes
