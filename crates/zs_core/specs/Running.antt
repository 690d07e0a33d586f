-- What tasks make of the scan, and what stays true while they run.
use Rattle.std.specs.Prelude.{◌≡◌, ℕ, List, [], ◌∷◌, Option, Some, None, true, false}
use Rattle.zs_ids.specs.declared.block.Item.{Item}
use Rattle.zs_ids.specs.declared.dataset.DsId.{DsId}
use Rattle.zs_ids.specs.Graph.{Dataset, Graph, Has}
use Rattle.zs_ids.specs.GraphTree.{dataset_named}
use Rattle.zs_ids.specs.GraphValid.{Room}
use Rattle.zs_ids.specs.GraphChange.{MayDestroy, destroyed}
use Rattle.zs_phys.specs.Handlers.{Event, Handled, Event as events}
use Rattle.zs_txg.specs.declared.task.Task.{Task}
use Rattle.zs_txg.specs.declared.task.Task.TheVariants as task
use Rattle.zs_scan.specs.View.{ScanView}
use Rattle.zs_scan.specs.declared.batch.ScanFault.{ScanFault}
use Rattle.zs_scan.specs.declared.batch.ScanFault.TheVariants as faults
use Rattle.zs_script.specs.declared.refusal.Refusal.TheVariants as refusals
use Rattle.std.specs.Prelude.{Result, Ok, Err}
use Rattle.zs_scan.specs.Covered.{IsScanOf}
use Rattle.zs_scan.specs.Steps.{after_start, stopped, with_paused}
use Rattle.zs_machine.specs.Born.{AreBornItems}
use Rattle.zs_machine.specs.Machine.{Data}
use Rattle.zs_machine.specs.Replies.{after_run, head_named, task_refusal}
use Rattle.zs_graph.specs.View.{GraphView}
use Rattle.zs_graph.specs.Made.{IsUpTo}
use Rattle.zs_script.specs.declared.refusal.Refusal.{Refusal}
use Rattle.zs_core.specs.View.{data_of}
use Rattle.zs_core.specs.Datasets.{AreDatasets}
use Rattle.zs_core.specs.Freeing.{HasLost}

-- the walk's state took an event of the datasets, and so did the one that is kept for a crash; all else of the scan is as it
-- was
pub record HasHandled (old : ScanView) (e : Event) (new : ScanView) : Type 0 where
  pub run : Handled old.run e new.run
  pub kept : Handled old.kept e new.kept
  pub rest : new ≡ record old { run = new.run; kept = new.kept }

-- a dataset was destroyed: bookmark and queue of the walk left it for its child, where it has one, and what is not live any
-- more was freed
pub record HasSeenDestroyed (g : Graph) (gone : Dataset) (old new : ScanView) : Type 0 where
  pub next : Option DsId
  pub only : MayDestroy g gone next
  pub moved : ScanView
  pub handled : HasHandled old (events.destroyed gone.id next) moved
  pub lost : HasLost g (destroyed g gone) moved new

-- what a task that is not refused makes of the scan
abbrev pub HasSeen : ℕ → Data → Task → ScanView → ScanView → Type 0
HasSeen txg d (task.Fs name) old new = new ≡ old
HasSeen txg d (task.Snap head label) old new =
    (h : Dataset) → head_named d.graph head ≡ Some h → HasHandled old (events.snapshot_taken h.id (record { 0 = d.next_id })) new
HasSeen txg d (task.Clone ds name) old new = new ≡ old
HasSeen txg d (task.Destroy ds) old new = (gone : Dataset) → dataset_named d.graph ds ≡ Some gone → HasSeenDestroyed d.graph gone old new
HasSeen txg d (task.Swap first second) old new =
    (a b : Dataset) → head_named d.graph first ≡ Some a → head_named d.graph second ≡ Some b → HasHandled old (events.swapped a.id b.id) new
HasSeen txg d task.Scrub old new = new ≡ record (after_start txg 0 old) { room = new.room }
HasSeen txg d task.Pause old new = new ≡ with_paused true old
HasSeen txg d task.Resume old new = new ≡ with_paused false old
HasSeen txg d task.Stop old new = new ≡ stopped old

-- what a task makes of the scan: a refused one leaves it
abbrev pub HasRun : ℕ → Data → Task → ScanView → ScanView → Type 0
HasRun txg d t old new = has_run (task_refusal txg d t)
  where
    has_run : Option Refusal → Type 0
    has_run None = HasSeen txg d t old new
    has_run (Some why) = new ≡ old

-- why a call of the scan is refused, as the reply to a task has it. A call of a task fails for no other reason
abbrev pub scan_refusal : ScanFault → Refusal
scan_refusal faults.ScanBusy = refusals.ScanBusy
scan_refusal faults.NoScan = refusals.NoScan
scan_refusal faults.Paused = refusals.Paused
scan_refusal faults.NotPaused = refusals.NotPaused
scan_refusal faults.Full = refusals.Full
scan_refusal faults.Draining = refusals.Draining
scan_refusal faults.Memory = refusals.NoScan

-- the same of an outcome
abbrev pub refusal_by : {A : Type 0} → Result A ScanFault → Option Refusal
refusal_by (Ok x) = None
refusal_by (Err why) = Some (scan_refusal why)

-- what a list of tasks makes of the scan, one after another
abbrev pub HaveRun : ℕ → Data → List (ℕ × Task) → ScanView → ScanView → Type 0
HaveRun txg d [] old new = new ≡ old
HaveRun txg d (t ∷ ts) old new = (mid : ScanView) × HasRun txg d t.1 old mid × HaveRun txg (after_run txg d t.1) ts mid new

-- a task ran, and this is why it was refused, if it was: what it made of the datasets and the scan
pub record RanTask (txg : ℕ) (t : Task)
    (old_graph : GraphView) (old : ScanView) (why : Option Refusal) (graph : GraphView) (new : ScanView) : Type 0 where
  pub answer : why ≡ task_refusal txg (data_of old_graph old) t
  pub after : data_of graph new ≡ after_run txg (data_of old_graph old) t
  pub seen : HasRun txg (data_of old_graph old) t old new

-- no part of a sync changes how many pieces of a scan may wait, how often its checkpoints are due, how many copies a block has,
-- or what is in flight
pub record KeepsRest (old new : ScanView) : Type 0 where
  pub limit : new.limit ≡ old.limit
  pub every : new.every ≡ old.every
  pub width : new.scope.width ≡ old.scope.width
  pub flight : new.flight ≡ old.flight

-- while tasks of the transaction group t run, where the blocks are born by t and nothing is staged: the datasets stay formed
-- and lie where they did; the scan stays their own; and the items are those of what is born in t and live, none of which is new
pub record RunsOn (t : ℕ) (old_graph : Graph) (old : ScanView) (old_items : List Item) (graph : Graph) (new : ScanView) (items : List Item) : Type 0 where
  pub kept : (start next : ℕ) → AreDatasets old_graph t start next [] → AreDatasets graph t start next []
  pub up_to : IsUpTo old_graph t → IsUpTo graph t
  pub scanned : (room : Room) → IsScanOf room old_graph t t old → IsScanOf room graph t t new
  pub born : AreBornItems old_graph t old_items → AreBornItems graph t items
  pub fewer : (i : Item) → Has items i → Has old_items i
  pub rest : KeepsRest old new
