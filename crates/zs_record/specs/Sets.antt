-- The datasets, each with the entries that are at home in it.
use Rattle.std.specs.Prelude.{ℕ, ◌-◌, ◌^◌, ◌==◌, nat_lt, Bool, true, List, Option, Some, None, Ok, Err, if◌then◌else◌}
use Rattle.std.specs.Int.{w8, w32, w64}
use Rattle.zs_ids.specs.declared.dataset.DsId.{DsId}
use Rattle.zs_record.specs.declared.fault.RecordFault.TheVariants as faults
use Rattle.zs_record.specs.declared.sets.SetHead.{SetHead}
use Rattle.zs_record.specs.declared.sets.StoredSet.{StoredSet}
use Rattle.zs_record.specs.Reading.{Read, ◌>>=◌, items_of}
use Rattle.zs_record.specs.Numbers.{number_of, number_within}
use Rattle.zs_record.specs.Names.{name_of}
use Rattle.zs_record.specs.Blocks.{entries_of}

-- the id is above the last one
abbrev pub is_above : Option DsId → ℕ → Bool
is_above None id = true
is_above (Some last) id = nat_lt last.0 id

-- an id above the last one
unfoldable pub id_above : Option DsId → List ℕ → Read DsId
id_above last bytes =
    number_of w32 bytes >>= λ id. if is_above last id.0 then Ok (record { 0 = id.0 }, id.1) else Err faults.Order

-- the parent of a dataset; the number of none is the greatest
abbrev pub parent_with : ℕ → Option DsId
parent_with n = if n == 2 ^ 32 - 1 then None else Some (record { 0 = n })

-- the fields of a dataset before its entries; only the origin may lack a name, and a head has neither label nor creation
unfoldable pub set_head_of : Option DsId → List ℕ → Read SetHead
set_head_of last bytes = do
  id ← id_above last bytes
  kind ← number_within w8 0 1 id.1
  owner ← name_of (if id.0.0 == 0 then 0 else 1) 12 kind.1
  label ← name_of (if id.0.0 == 0 then 0 else (1 - kind.0)) (if kind.0 == 1 then 0 else 12) owner.1
  pad ← number_within w8 0 0 label.1
  parent ← number_of w32 pad.1
  creation ← number_within w64 0 (if kind.0 == 1 then 0 else (2 ^ 64 - 1)) parent.1
  Ok (
    record {
      id = id.0;
      head = kind.0 == 1;
      owner = owner.0;
      label = label.0;
      parent = parent_with parent.0;
      creation = creation.0;
    },
    creation.1,
  )

-- a dataset behind the last one
unfoldable pub stored_set_of : Option DsId → List ℕ → Read StoredSet
stored_set_of last bytes = do
  head ← set_head_of last bytes
  count ← number_of w32 head.1
  entries ← entries_of count.0 None count.1
  Ok (record { head = head.0; entries = entries.0 }, entries.1)

-- the last id of a list of datasets that has one more
abbrev pub id_next : Option DsId → StoredSet → Option DsId
id_next last set = Some set.head.id

-- so many datasets, their ids rising
abbrev pub sets_of : ℕ → Option DsId → List ℕ → Read (List StoredSet)
sets_of count last bytes = items_of stored_set_of id_next count last bytes
