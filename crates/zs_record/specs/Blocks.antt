-- Keys and pointers: the entries of a dataset.
use Rattle.std.specs.Prelude.{ℕ, ◌-◌, ◌%◌, ◌^◌, ◌==◌, ◌&&◌, nat_lt, nat_le, not, Bool, true, List, Option, None, Some, Result, Ok, Err, if◌then◌else◌}
use Rattle.std.specs.Int.{w8, w16, w32, is_power_of_two}
use Rattle.std.specs.Ordering.{is_lt}
use Rattle.zs_ids.specs.declared.block.Bp.{Bp}
use Rattle.zs_ids.specs.declared.key.Key.{Key}
use Rattle.zs_ids.specs.declared.limits.TheConstants.{OBJECTS}
use Rattle.zs_ids.specs.Key.{key_cmp}
use Rattle.zs_sum.specs.declared.fault.BpFault.{BpFault}
use Rattle.zs_sum.specs.Pointer.{bp_of}
use Rattle.zs_record.specs.declared.fault.RecordFault.TheVariants as faults
use Rattle.zs_record.specs.Reading.{Read, ◌>>=◌, items_of}
use Rattle.zs_record.specs.Numbers.{number_of, bytes_of}

-- a key in eight bytes: object, rank, depth and leaf
unfoldable pub key_of : List ℕ → Read Key
key_of bytes = do
  object ← number_of w16 bytes
  rank ← number_of w8 object.1
  depth ← number_of w8 rank.1
  leaf ← number_of w32 depth.1
  Ok (record { object = object.0; rank = rank.0; leaf = leaf.0; depth = depth.0 }, leaf.1)

-- a root or a block of dnodes has the key, whose rank and leaf are 0
abbrev pub is_top : Key → Bool
is_top k = if k.depth == 0 then k.object == 0 else k.depth == 1 && (k.object % 32 == 0 && nat_le k.object OBJECTS)

-- a block at that depth may begin at the leaf, of at most 64 ^ 3
unfoldable pub is_leaf : ℕ → ℕ → Bool
is_leaf leaf depth = nat_lt leaf 262144 && leaf % 64 ^ (3 - depth) == 0

-- some block has the key: a root, a block of dnodes, or a block of an object
unfoldable pub is_key : Key → Bool
is_key k =
    if k.rank == 0 then k.leaf == 0 && is_top k
    else k.rank == 1 && (not (k.object == 0) && (nat_le k.object OBJECTS && (nat_le k.depth 3 && is_leaf k.leaf k.depth)))

-- the level of the block at a key
abbrev pub level_at : Key → ℕ
level_at k = if k.rank == 0 then 1 - k.depth else 3 - k.depth

-- the block at a key may have this size in sectors: a record a power of two, every other block eight
abbrev pub is_size_at : Key → ℕ → Bool
is_size_at k sectors = if k.rank == 1 && k.depth == 3 then is_power_of_two sectors else sectors == 8

-- the key stands behind the last one
abbrev pub is_behind : Option Key → Key → Bool
is_behind None k = true
is_behind (Some last) k = is_lt (key_cmp last k)

-- a key of some block, behind the last one
unfoldable pub key_behind : Option Key → List ℕ → Read Key
key_behind last bytes =
    key_of bytes >>= λ k. if not (is_key k.0) then Err faults.Field else if is_behind last k.0 then Ok k else Err faults.Order

-- a pointer in 64 bytes with one place; each fault of it is one of a field
abbrev pub one_place : Result Bp BpFault → List ℕ → Read Bp
one_place (Ok bp) rest = if bp.count == 1 then Ok (bp, rest) else Err faults.Field
one_place (Err fault) rest = Err faults.Field

unfoldable pub pointer_of : List ℕ → Read Bp
pointer_of bytes = bytes_of 64 bytes >>= λ x. one_place (bp_of x.0) x.1

-- the pointer of the block at a key
unfoldable pub pointer_at : Key → List ℕ → Read Bp
pointer_at key bytes =
    pointer_of bytes >>= λ bp. if bp.0.level == level_at key && is_size_at key bp.0.sectors then Ok bp else Err faults.Field

-- an entry behind the last key
unfoldable pub entry_of : Option Key → List ℕ → Read (Key × Bp)
entry_of last bytes = do
  key ← key_behind last bytes
  bp ← pointer_at key.0 key.1
  Ok ((key.0, bp.0), bp.1)

-- so many entries, their keys rising
abbrev pub entries_of : ℕ → Option Key → List ℕ → Read (List (Key × Bp))
entries_of count last bytes = items_of entry_of (λ before e. Some e.0) count last bytes
