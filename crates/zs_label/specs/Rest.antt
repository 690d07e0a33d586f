-- What a put leaves of a device beside its slot: the other slot with its record, and the space.
use Rattle.std.specs.Prelude.{◌≡◌, ℕ, ◌+◌, ◌-◌, ◌*◌, List, length, slice_range, drop, true}
use Rattle.zs_ids.specs.declared.limits.TheConstants.{SECTOR}
use Rattle.zs_label.specs.Layout.{slot_of, record_at, record_sectors, data_start}
use Rattle.zs_label.specs.Label.{is_valid, label_of}
use Rattle.zs_label.specs.Leaving.{AreSame}
use Rattle.zs_label.specs.Slots.{IsElsewhere}
use Rattle.zs_label.specs.declared.label.Label.{Label}

-- the slot that is not the label's
abbrev pub other_slot : Label → ℕ
other_slot label = 1 - slot_of label.txg

-- The other slot is what it was, and so are its record and the space.
pub record KeepsRest (label : Label) (d c : List ℕ) : Type 0 where
  pub slot : label_of (other_slot label) c ≡ label_of (other_slot label) d
  pub stands : slice_range c (record_at label.blocks (other_slot label)) (record_at label.blocks (other_slot label) + SECTOR * record_sectors label.blocks)
      ≡ slice_range d (record_at label.blocks (other_slot label)) (record_at label.blocks (other_slot label) + SECTOR * record_sectors label.blocks)
  pub space : drop (SECTOR * data_start label.blocks) c ≡ drop (SECTOR * data_start label.blocks) d

-- All that is the same elsewhere keeps them.
abbrev pub RestStays : Type 0
RestStays = (label : Label) (rec d c : List ℕ) → is_valid label ≡ true → label.length ≡ length rec → AreSame (IsElsewhere label rec) d c → KeepsRest label d c
