-- Where labels and records stand on a device: two slots of each, and behind them the space.
use Rattle.std.specs.Prelude.{ℕ, ◌+◌, ◌*◌, ◌/◌, ◌%◌}
use Rattle.zs_ids.specs.declared.limits.TheConstants.{SECTOR}

-- the slot of a transaction group
abbrev pub slot_of : ℕ → ℕ
slot_of t = t % 2

-- the first byte of a slot's body, which is one sector, and the byte of its gate, which is the first one of the sector behind it
abbrev pub body_at : ℕ → ℕ
body_at slot = SECTOR * (2 * slot)

abbrev pub gate_at : ℕ → ℕ
gate_at slot = SECTOR * (2 * slot + 1)

-- how many bytes the two slots have
abbrev pub SLOTS : ℕ
SLOTS = SECTOR * 4

-- how many sectors a record may have in a pool made for that many blocks
abbrev pub record_sectors : ℕ → ℕ
record_sectors blocks = 128 + blocks / 4

-- the first byte of a slot's record: the slots of the records begin at sector 8
abbrev pub record_at : ℕ → ℕ → ℕ
record_at blocks slot = SECTOR * (8 + slot * record_sectors blocks)

-- the first sector of the space
abbrev pub data_start : ℕ → ℕ
data_start blocks = 8 + 2 * record_sectors blocks
