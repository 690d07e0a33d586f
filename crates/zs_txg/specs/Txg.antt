-- An open transaction group: the records and blocks staged in it, in order of dataset and key, and its tasks.
use Rattle.std.specs.Prelude.{Bool, true, ℕ, ◌-◌, ◌==◌, List, Option, Some, None, if◌then◌else◌, find, filter, map, slice_get, sum_by}
use Rattle.std.specs.Ordering.{nat_cmp, ordering_then, is_lt}
use Rattle.std.specs.declared.cmp.Ordering.{Ordering}
use Rattle.std.specs.Map.{lookup, keys_of, values_of}
use Rattle.std.specs.BTreeMap.{insert_entry, is_at}
use Rattle.std.specs.List.Sorted.{IsStrictlySortedBy}
use Rattle.zs_ids.specs.Key.{key_cmp}
use Rattle.zs_ids.specs.declared.dataset.DsId.{DsId}
use Rattle.zs_ids.specs.declared.key.Key.{Key}
use Rattle.zs_txg.specs.declared.staged.Staging.{Staging}
use Rattle.zs_txg.specs.declared.staged.StagedEntry.{StagedEntry}
use Rattle.zs_txg.specs.declared.task.Task.{Task}

-- where a block is staged: a dataset and a key, in lexicographic order
abbrev pub Slot : Type 0
Slot = DsId × Key

abbrev pub slot_cmp : Slot → Slot → Ordering
slot_cmp a b = ordering_then (nat_cmp a.0.0 b.0.0) (key_cmp a.1 b.1)

-- what contracts see of an open transaction group: its number, what is staged in order of slot, the tasks in
-- order of queuing with the client that queued each, and how many more blocks are sure to find memory
pub record Open : Type 0 where
  pub txg : ℕ
  pub staged : List (Slot × Staging)
  pub tasks : List (ℕ × Task)
  pub room : ℕ

-- what is staged at a slot
abbrev pub staged_at : List (Slot × Staging) → Slot → Option Staging
staged_at staged slot = lookup (is_at (slot_cmp slot)) staged

-- the staged blocks with one more, in order; what stood at its slot goes
abbrev pub put_staged : List (Slot × Staging) → Slot → Staging → List (Slot × Staging)
put_staged staged slot what = insert_entry slot_cmp staged slot what

-- whether a slot is above the given one; each is above none
abbrev pub is_after : Option Slot → Slot → Bool
is_after None slot = true
is_after (Some a) slot = is_lt (slot_cmp a slot)

-- the least staged block, or the least above a slot
abbrev pub first_after : List (Slot × Staging) → Option Slot → Option (Slot × Staging)
first_after staged after = find (λ e. is_after after e.0) staged

-- the sectors of all staged blocks
abbrev pub sectors_of : List (Slot × Staging) → ℕ
sectors_of staged = sum_by (λ s. s.sectors) (values_of staged)

-- what is staged for one dataset
abbrev pub staged_for : List (Slot × Staging) → DsId → List (Slot × Staging)
staged_for staged ds = filter (λ e. e.0.0.0 == ds.0) staged

-- the k-th task, from 1
abbrev pub task_at : List (ℕ × Task) → ℕ → Option (ℕ × Task)
task_at tasks k = if k == 0 then None else slice_get tasks (k - 1)

-- the slots rise
abbrev pub IsInSlotOrder : List (Slot × Staging) → Type 0
IsInSlotOrder staged = IsStrictlySortedBy slot_cmp (keys_of staged)

-- a staged block with its slot
abbrev pub entry_of : Slot × Staging → StagedEntry
entry_of e = record { ds = e.0.0; key = e.0.1; place = e.1.place; sectors = e.1.sectors; fill = e.1.fill }

-- what is staged for one dataset, in order of key
abbrev pub entries_for : List (Slot × Staging) → DsId → List StagedEntry
entries_for staged ds = map entry_of (staged_for staged ds)

-- the keys rise
abbrev pub IsInKeyOrder : List StagedEntry → Type 0
IsInKeyOrder entries = IsStrictlySortedBy key_cmp (map (λ e. e.key) entries)
