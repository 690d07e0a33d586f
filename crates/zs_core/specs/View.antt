-- What contracts see of a pool: the machine's state, and beside it what is waiting, in flight and handed out.
use Rattle.std.specs.Prelude.{◌≡◌, ℕ, List, [], ◌∷◌, ◌++◌, flat_map, Option, Some, None}
use Rattle.zs_ids.specs.declared.key.Key.{Key}
use Rattle.zs_ids.specs.declared.block.Bp.{Bp}
use Rattle.zs_graph.specs.View.{GraphView}
use Rattle.zs_txg.specs.declared.task.Task.{Task}
use Rattle.zs_txg.specs.Txg.{Open}
use Rattle.zs_core.specs.declared.parts.Changes.{Changes}
use Rattle.zs_core.specs.declared.parts.Closed.{Closed}
use Rattle.zs_machine.specs.declared.event.OpenRead.{OpenRead}
use Rattle.zs_machine.specs.declared.shape.Shape.{Shape}
use Rattle.zs_machine.specs.declared.event.Event.{Event}
use Rattle.zs_scan.specs.View.{ScanView}
use Rattle.zs_machine.specs.Machine.{PoolState, Txg, Data, ScanState}

-- a transaction group without the room that is reserved in it
abbrev pub txg_of : Open → Txg
txg_of o = record { txg = o.txg; staged = o.staged; tasks = o.tasks }

abbrev pub closed_of : Option Closed → Option Txg
closed_of None = None
closed_of (Some c) = Some (txg_of c.txg)

-- the keys and pointers of the blocks that are staged for some datasets, one after another
abbrev pub pointers_of_all : List Changes → List (Key × Bp)
pointers_of_all changes = flat_map (λ own. own.blocks.items) changes

-- those of a transaction group that is closed
abbrev pub pointers_in : Option Closed → List (Key × Bp)
pointers_in None = []
pointers_in (Some c) = pointers_of_all c.changes.items

-- the tasks of a transaction group that is closed
abbrev pub tasks_in : Option Txg → List (ℕ × Task)
tasks_in None = []
tasks_in (Some txg) = txg.tasks

-- the scan as the machine has it: what is stored with the state that is kept for a crash is saved
abbrev pub scan_of : ScanView → ScanState
scan_of v = record { scope = v.scope; status = v.run.status; paused = v.run.paused; checked = v.checked; saved = v.stored }

-- what contracts see of the present state of a pool
pub record CoreView : Type 0 where
  -- the machine's state
  pub state : PoolState
  -- the scan, with its bookmark, what waits and what is in flight
  pub scan : ScanView
  -- the keys and pointers of the blocks of the transaction group that is closed
  pub pointers : List (Key × Bp)
  -- the numbers that the pool was made with
  pub shape : Shape
  -- the next sector to be handed out, and the first past the space
  pub next_sector : ℕ
  pub end_sector : ℕ

-- what contracts see of a pool: its present state and its history
pub record PoolView : Type 0 where
  pub core : CoreView
  pub history : List Event

-- what tasks change, of a pool with these datasets and this scan
abbrev pub data_of : GraphView → ScanView → Data
data_of v scan = record { graph = v.sets; next_id = v.next; scan = scan_of scan }

-- the course of a pool is as it was: its stage, whether it is suspended, and its open reads
pub record KeepsCourse (old new : PoolState) : Type 0 where
  pub stage : new.stage ≡ old.stage
  pub suspended : new.suspended ≡ old.suspended
  pub reads : new.reads ≡ old.reads

-- a pool that is not suspended keeps its open reads
pub record KeepsReads (old new : PoolState) : Type 0 where
  pub suspended : new.suspended ≡ old.suspended
  pub reads : new.reads ≡ old.reads

-- a read more is open
abbrev pub with_read : CoreView → OpenRead → CoreView
with_read v r = record v { state = record v.state { reads = v.state.reads ++ r ∷ [] } }
