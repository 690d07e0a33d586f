-- The state of the abstract machine. It has the graph, the staged records and tasks, and of the scan only its
-- range and the list of what was checked: no bookmark, no queue, no places in waiting.
use Rattle.std.specs.Prelude.{ℕ, ◌==◌, ◌&&◌, ◌||◌, not, Bool, List, find, Option, Some, None, is_some}
use Rattle.std.specs.Cmp.Lexicographic.{pointwise}
use Rattle.std.specs.Option.{option_or}
use Rattle.zs_ids.specs.declared.key.Key.{Key}
use Rattle.zs_ids.specs.declared.block.Bp.{Bp}
use Rattle.zs_ids.specs.declared.dataset.DsId.{DsId}
use Rattle.zs_ids.specs.declared.dataset.DsName.{DsName}
use Rattle.zs_ids.specs.declared.dataset.Name.{Name}
use Rattle.zs_ids.specs.Key.{record_key}
use Rattle.zs_ids.specs.Blocks.{bp_at}
use Rattle.zs_ids.specs.Graph.{Dataset, Graph}
use Rattle.zs_txg.specs.declared.task.Task.{Task}
use Rattle.zs_txg.specs.declared.staged.Staging.{Staging}
use Rattle.zs_txg.specs.Txg.{Slot, staged_at}
use Rattle.zs_ledger.specs.declared.entry.Entry.{Entry}
use Rattle.zs_phys.specs.declared.scope.Scope.{Scope}
use Rattle.zs_phys.specs.declared.phys.Status.{Status}
use Rattle.zs_walk.specs.Walking.{runs}
use Rattle.zs_scan.specs.Steps.{is_scrub}
use Rattle.zs_script.specs.declared.refusal.Refusal.{Refusal}
use Rattle.zs_machine.specs.declared.event.Stage.{Stage}
use Rattle.zs_machine.specs.declared.event.OpenRead.{OpenRead}

-- a transaction group: its number, the blocks that are staged in it, by dataset and key, and its tasks, each
-- with the client who queued it
pub record Txg : Type 0 where
  pub txg : ℕ
  pub staged : List (Slot × Staging)
  pub tasks : List (ℕ × Task)

-- a scan: what it examines, what it has checked, in order, and how many of these entries are saved
pub record ScanState : Type 0 where
  pub scope : Scope
  pub status : Status
  pub paused : Bool
  pub checked : List Entry
  pub saved : ℕ

-- what tasks change: the datasets, the id that the next one gets, and the scan
pub record Data : Type 0 where
  pub graph : Graph
  pub next_id : ℕ
  pub scan : ScanState

-- the present state of a pool
pub record PoolState : Type 0 where
  -- the datasets, and the id that the next one gets
  pub graph : Graph
  pub next_id : ℕ
  -- the last transaction group whose changes the graph has
  pub applied : ℕ
  -- how many devices the pool has, and which of them are online, a bit for each
  pub devices : ℕ
  pub online : ℕ
  -- the open transaction group, and the one that a sync has closed and not yet applied
  pub open_txg : Txg
  pub closed : Option Txg
  pub stage : Stage
  pub scan : ScanState
  pub suspended : Bool
  -- of the last sync: why each task was refused, and whether the scan came to its end
  pub answers : List (Option Refusal)
  pub finished : Bool
  pub reads : List OpenRead

-- what is staged at a slot in a transaction group that a sync may have closed
abbrev pub closed_at : Option Txg → Slot → Option Staging
closed_at None slot = None
closed_at (Some txg) slot = staged_at txg.staged slot

-- what is staged for a dataset at a key, in the open transaction group or else in the closed one
abbrev pub staged_record : PoolState → DsId → Key → Option Staging
staged_record s ds key = option_or (staged_at s.open_txg.staged (ds, key)) (closed_at s.closed (ds, key))

-- how many sectors a record has that is staged, or else mapped
abbrev pub sectors_from : Option Staging → Option Bp → ℕ
sectors_from (Some e) bp = e.sectors
sectors_from None (Some bp) = bp.sectors
sectors_from None None = 0

-- how many sectors each record of an object of the dataset has
abbrev pub record_sectors : PoolState → Dataset → ℕ → ℕ
record_sectors s d object = sectors_from (staged_record s d.id (record_key object 0)) (bp_at d.entries (record_key object 0))

-- the dataset has the object: its record 0 is mapped or staged
abbrev pub has_object : PoolState → Dataset → ℕ → Bool
has_object s d object = is_some (staged_record s d.id (record_key object 0)) || is_some (bp_at d.entries (record_key object 0))

-- a scan is running, paused or not
abbrev pub is_running : ScanState → Bool
is_running scan = runs scan.status

-- a scrub is running, paused or not
abbrev pub is_scrubbing : ScanState → Bool
is_scrubbing scan = is_running scan && is_scrub scan.scope.kind

-- a scrub is running that is paused
abbrev pub is_paused_scrub : ScanState → Bool
is_paused_scrub scan = is_scrubbing scan && scan.paused

-- a scan is running that is not a paused scrub
abbrev pub is_busy : ScanState → Bool
is_busy scan = is_running scan && not (scan.paused && is_scrub scan.scope.kind)

-- a scan is running that is not paused
abbrev pub is_at_work : ScanState → Bool
is_at_work scan = is_running scan && not scan.paused
