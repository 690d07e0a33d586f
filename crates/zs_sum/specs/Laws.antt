-- Which pointers have a spelling, and that it is one.
use Rattle.std.specs.Prelude.{◌≡◌, ◌<◌, ◌^◌, ℕ, true, List, length, slice_index, Ok, None}
use Rattle.zs_ids.specs.declared.block.Bp.{Bp}
use Rattle.zs_sum.specs.Pointer.{bp_bytes, bp_of, fault_of}

-- each number of the list is a byte
abbrev pub AreBytes : List ℕ → Type 0
AreBytes bytes = (i : ℕ) → slice_index bytes i < 256

-- the pointer is in range: it has no fault, and its fields are as wide as they are
pub record IsPointer (bp : Bp) : Type 0 where
  pub in_range : fault_of true bp ≡ None
  pub birth : bp.birth < 2 ^ 64
  pub places : length bp.places ≡ 3
  pub sum : length bp.sum ≡ 32

-- a pointer in range is read back from its bytes, and a pointer that is read has just the bytes from which it was read
pub record PointerLaw : Type 0 where
  pub back : (bp : Bp) → IsPointer bp → bp_of (bp_bytes bp) ≡ Ok bp
  pub spells : (bytes : List ℕ) (bp : Bp) → length bytes ≡ 64 → AreBytes bytes → bp_of bytes ≡ Ok bp → IsPointer bp × (bp_bytes bp ≡ bytes)
