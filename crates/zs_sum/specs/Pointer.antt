-- The bytes of a block pointer, as they stand inside the blocks above it.
use Rattle.std.specs.Prelude.{ℕ, ◌+◌, ◌==◌, ◌&&◌, ◌||◌, nat_lt, not, Bool, false, List, [], ◌∷◌, ◌++◌, flat_map, slice_index, slice_range, Result, Ok, Err, Option, Some, None, if◌then◌else◌}
use Rattle.std.specs.Int.{Width, w16, w32, w64, byte_len, from_be_bytes}
use Rattle.std.specs.List.{list_all}
use Rattle.byteorder.specs.Endian.{big_bytes}
use Rattle.zs_ids.specs.declared.block.Place.{Place}
use Rattle.zs_ids.specs.declared.block.Bp.{Bp}
use Rattle.zs_ids.specs.declared.limits.TheConstants.{BLOCK_SECTORS, DEVICE_SECTORS}
use Rattle.zs_sum.specs.declared.fault.BpFault.{BpFault}
use Rattle.zs_sum.specs.declared.fault.BpFault.TheVariants as faults

-- a place: the mirror in one byte, the sector in four
unfoldable pub place_bytes : Place → List ℕ
place_bytes place = place.vdev ∷ big_bytes 4 place.sector

-- what stands before the places: count, level, sectors, four zeros and birth, each number with its most
-- significant byte first
unfoldable pub head_bytes : Bp → List ℕ
head_bytes bp = bp.count ∷ bp.level ∷ big_bytes 2 bp.sectors ++ big_bytes 4 0 ++ big_bytes 8 bp.birth

-- a pointer in 64 bytes: the head, the three places, a zero, and the sum
unfoldable pub bp_bytes : Bp → List ℕ
bp_bytes bp = head_bytes bp ++ flat_map place_bytes bp.places ++ 0 ∷ bp.sum

-- the number that stands at a place of the bytes
abbrev pub number_at : Width → ℕ → List ℕ → ℕ
number_at w at bytes = from_be_bytes w (slice_range bytes at (at + byte_len w))

-- the place of a block that stands at a place of the bytes
unfoldable pub place_at : ℕ → List ℕ → Place
place_at at bytes = record { vdev = slice_index bytes at; sector = number_at w32 (at + 1) bytes }

-- the fields that stand where a pointer in 64 bytes has them, whatever they hold
unfoldable pub fields_of : List ℕ → Bp
fields_of bytes = record {
  count = slice_index bytes 0;
  level = slice_index bytes 1;
  sectors = number_at w16 2 bytes;
  birth = number_at w64 8 bytes;
  places = place_at 16 bytes ∷ place_at 21 bytes ∷ place_at 26 bytes ∷ [];
  sum = slice_range bytes 32 64;
}

-- all of the bytes are zero
abbrev pub are_zeros : List ℕ → Bool
are_zeros bytes = list_all (λ b. b == 0) bytes

-- the bytes are zero in which a pointer has nothing
unfoldable pub has_pads : List ℕ → Bool
has_pads bytes = are_zeros (slice_range bytes 4 8) && slice_index bytes 31 == 0

-- a place that is used lies on one of eight mirrors; one that is not is zero
abbrev pub is_place : Bool → Place → Bool
is_place used place =
    if used then nat_lt place.vdev 8 && nat_lt place.sector DEVICE_SECTORS else place.vdev == 0 && place.sector == 0

-- of the three places the first ones are used, as many as the count says
abbrev pub are_places : ℕ → List Place → Bool
are_places count (a ∷ b ∷ c ∷ []) = is_place (nat_lt 0 count) a && (is_place (nat_lt 1 count) b && is_place (nat_lt 2 count) c)
are_places count _ = false

-- the first fault of a pointer with these fields, whose zeros are zero or not
unfoldable pub fault_of : Bool → Bp → Option BpFault
fault_of padded bp =
    if nat_lt bp.count 1 || nat_lt 3 bp.count then Some faults.Count
    else if nat_lt 3 bp.level then Some faults.Level
    else if nat_lt bp.sectors 1 || nat_lt BLOCK_SECTORS bp.sectors then Some faults.Size
    else if not padded then Some faults.Pad
    else if bp.birth == 0 then Some faults.Birth
    else if not (are_places bp.count bp.places) then Some faults.Place
    else None

abbrev pub unless : Option BpFault → Bp → Result Bp BpFault
unless (Some fault) bp = Err fault
unless None bp = Ok bp

-- the pointer that stands in 64 bytes, or its first fault
unfoldable pub bp_of : List ℕ → Result Bp BpFault
bp_of bytes = unless (fault_of (has_pads bytes) (fields_of bytes)) (fields_of bytes)
