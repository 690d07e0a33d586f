-- The bytes of a label, and which bytes are one.
use Rattle.std.specs.Prelude.{ℕ, ◌+◌, ◌*◌, ◌/◌, ◌%◌, List, ◌++◌, Bool, ◌&&◌, not, ◌==◌, nat_lt, nat_le, slice_index, slice_range, replicate, codes, Option, Some, None, if◌then◌else◌}
use Rattle.std.specs.Int.{is_in_range}
use Rattle.std.specs.List.{list_all}
use lib.Pointwise.{pointwise}
use Rattle.byteorder.specs.Endian.{big_bytes, big_number}
use Rattle.zs_ids.specs.declared.limits.TheConstants.{BLOCKS, DEVICES, EVERY, LEAST_BLOCKS, MIRRORS, SECTOR, TXG_END, WAITING, WIDTH}
use Rattle.zs_label.specs.Layout.{body_at, gate_at, record_sectors}
use Rattle.zs_label.specs.declared.label.Label.{Label}

-- the 512 bytes of a label's body: magic, version 1, the fields, and zeros to the end; each number has its most significant byte first
unfoldable pub label_bytes : Label → List ℕ
label_bytes l = codes "ZSCANLAB" ++ big_bytes 4 1 ++ big_bytes 4 l.number ++ big_bytes 8 l.pool ++ big_bytes 4 l.devices ++ big_bytes 4 l.width
    ++ big_bytes 4 l.blocks ++ big_bytes 4 l.limit ++ big_bytes 4 l.every ++ big_bytes 4 l.length ++ big_bytes 8 l.txg ++ replicate 8 0
    ++ l.sum ++ replicate 416 0

-- the number in the n bytes from that one on
abbrev pub field : ℕ → ℕ → List ℕ → ℕ
field n at body = big_number n (slice_range body at (at + n))

-- what a body says where it is a label's
unfoldable pub fields_of : List ℕ → Label
fields_of body = record {
  pool = field 8 16 body;
  number = field 4 12 body;
  devices = field 4 24 body;
  width = field 4 28 body;
  blocks = field 4 32 body;
  limit = field 4 36 body;
  every = field 4 40 body;
  length = field 4 44 body;
  txg = field 8 48 body;
  sum = slice_range body 64 96;
}

abbrev pub has_magic : List ℕ → Bool
has_magic body = pointwise ◌==◌ (slice_range body 0 8) (codes "ZSCANLAB")

abbrev pub version_of : List ℕ → ℕ
version_of body = field 4 8 body

-- what stands between and behind the fields is zero
abbrev pub has_zeros : List ℕ → Bool
has_zeros body = list_all (λ b. b == 0) (slice_range body 56 64) && list_all (λ b. b == 0) (slice_range body 96 512)

-- devices in whole mirrors, at most so many of them, and the device is one of them
abbrev pub has_shape : Label → Bool
has_shape l = is_in_range 1 DEVICES l.devices && is_in_range 1 WIDTH l.width && (l.devices % l.width == 0) && nat_le (l.devices / l.width) MIRRORS
    && nat_lt l.number l.devices

-- the numbers that a pool is made with
abbrev pub has_limits : Label → Bool
has_limits l = is_in_range LEAST_BLOCKS BLOCKS l.blocks && (l.blocks % 4 == 0) && is_in_range 1 WAITING l.limit && is_in_range 1 EVERY l.every

-- every field is in its range; the record fits its slot
unfoldable pub is_valid : Label → Bool
is_valid l = has_shape l && has_limits l && is_in_range 1 TXG_END l.txg && is_in_range 1 (SECTOR * record_sectors l.blocks) l.length

-- the body is that of a label of this slot
abbrev pub is_label : ℕ → List ℕ → Bool
is_label slot body = has_magic body && (version_of body == 1) && has_zeros body && is_valid (fields_of body) && ((fields_of body).txg % 2 == slot)

-- of the first bytes of a device: whether a slot is open, and its body
abbrev pub is_open : ℕ → List ℕ → Bool
is_open slot bytes = slice_index bytes (gate_at slot) == 1

abbrev pub body_of : ℕ → List ℕ → List ℕ
body_of slot bytes = slice_range bytes (body_at slot) (body_at slot + SECTOR)

-- the label in a slot: it is open, and its body is that of a label
unfoldable pub label_of : ℕ → List ℕ → Option Label
label_of slot bytes = if is_open slot bytes && is_label slot (body_of slot bytes) then Some (fields_of (body_of slot bytes)) else None

-- the slot is open, and has a label of another version
unfoldable pub has_other_version : ℕ → List ℕ → Bool
has_other_version slot bytes = is_open slot bytes && has_magic (body_of slot bytes) && not (version_of (body_of slot bytes) == 1)
