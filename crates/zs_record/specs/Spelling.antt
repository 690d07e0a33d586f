-- How the parts of a record are spelled.
use Rattle.std.specs.Prelude.{ℕ, ◌-◌, ◌^◌, List, ◌++◌, length, flat_map, Option, Some, None, if◌then◌else◌}
use Rattle.std.specs.Int.{w8, w16, w32, w64}
use Rattle.zs_ids.specs.declared.block.Bp.{Bp}
use Rattle.zs_ids.specs.declared.dataset.DsId.{DsId}
use Rattle.zs_ids.specs.declared.dataset.Name.{Name}
use Rattle.zs_ids.specs.declared.key.Key.{Key}
use Rattle.zs_ledger.specs.declared.entry.CopyResult.{CopyResult}
use Rattle.zs_ledger.specs.declared.entry.Entry.{Entry}
use Rattle.zs_ranges.specs.declared.set.Interval.{Interval}
use Rattle.zs_sum.specs.Pointer.{bp_bytes}
use Rattle.zs_record.specs.declared.head.Head.{Head}
use Rattle.zs_record.specs.declared.mirrors.Mirrors.{Mirrors}
use Rattle.zs_record.specs.declared.sets.SetHead.{SetHead}
use Rattle.zs_record.specs.declared.sets.StoredSet.{StoredSet}
use Rattle.zs_record.specs.Checked.{number_of_copy}
use Rattle.zs_record.specs.Head.{magic, devices_of}
use Rattle.zs_record.specs.Numbers.{number_bytes}

-- a name: its length, and twelve bytes
unfoldable pub name_bytes : Name → List ℕ
name_bytes name = number_bytes w8 name.len ++ name.bytes

-- a key: object, rank, depth and leaf
unfoldable pub key_bytes : Key → List ℕ
key_bytes key = number_bytes w16 key.object ++ number_bytes w8 key.rank ++ number_bytes w8 key.depth ++ number_bytes w32 key.leaf

-- an entry: its key, and its pointer
unfoldable pub entry_bytes : Key × Bp → List ℕ
entry_bytes e = key_bytes e.0 ++ bp_bytes e.1

-- an interval: its first group, and its last
unfoldable pub interval_bytes : Interval → List ℕ
interval_bytes s = number_bytes w64 s.first ++ number_bytes w64 s.last

-- a set: how many intervals, and they
unfoldable pub set_bytes : List Interval → List ℕ
set_bytes spans = number_bytes w32 (length spans) ++ flat_map interval_bytes spans

-- the result of a copy
unfoldable pub copy_bytes : CopyResult → List ℕ
copy_bytes copy = number_bytes w8 (number_of_copy copy)

-- what was checked: the piece's mirror, its copies, its size, its sector and birth, and its sum
unfoldable pub checked_bytes : Entry → List ℕ
checked_bytes e =
    number_bytes w8 e.piece.place.vdev ++ flat_map copy_bytes e.copies ++ number_bytes w8 0 ++ number_bytes w16 e.sectors
    ++ number_bytes w32 e.piece.place.sector ++ number_bytes w32 0 ++ number_bytes w64 e.piece.birth ++ e.sum

-- the ledger: how many entries, and they
unfoldable pub ledger_bytes : List Entry → List ℕ
ledger_bytes entries = number_bytes w32 (length entries) ++ flat_map checked_bytes entries

-- the head, of a pool with these mirrors
unfoldable pub head_bytes : Mirrors → Head → List ℕ
head_bytes mirrors head =
    magic ++ number_bytes w32 1 ++ number_bytes w64 head.txg ++ number_bytes w32 head.next_id ++ number_bytes w32 head.datasets
    ++ number_bytes w32 (devices_of mirrors) ++ number_bytes w32 head.offline

-- the number of a parent; that of none is the greatest
abbrev pub number_of_parent : Option DsId → ℕ
number_of_parent None = 2 ^ 32 - 1
number_of_parent (Some parent) = parent.0

-- the fields of a dataset before its entries
unfoldable pub set_head_bytes : SetHead → List ℕ
set_head_bytes d =
    number_bytes w32 d.id.0 ++ number_bytes w8 (if d.head then 1 else 0) ++ name_bytes d.owner ++ name_bytes d.label ++ number_bytes w8 0
    ++ number_bytes w32 (number_of_parent d.parent) ++ number_bytes w64 d.creation

-- a dataset: those fields, how many entries, and they
unfoldable pub stored_set_bytes : StoredSet → List ℕ
stored_set_bytes set = set_head_bytes set.head ++ number_bytes w32 (length set.entries) ++ flat_map entry_bytes set.entries
