-- What each command is answered with, and what each task does when it runs.
use Rattle.std.specs.Prelude.{ℕ, ◌+◌, ◌==◌, ◌&&◌, ◌||◌, not, true, false, if◌then◌else◌, List, [], ◌∷◌, ◌++◌, length, Option, Some, None, is_some}
use Rattle.zs_ids.specs.declared.dataset.DsName.{DsName}
use Rattle.zs_ids.specs.declared.dataset.Name.{Name}
use Rattle.zs_ids.specs.declared.dataset.TheConstants.Name.{EMPTY}
use Rattle.zs_ids.specs.declared.limits.TheConstants.{TXG_END}
use Rattle.zs_ids.specs.Graph.{Dataset, Graph}
use Rattle.zs_ids.specs.GraphTree.{dataset_named}
use Rattle.zs_ids.specs.GraphChange.{cloned, with_fs, with_snapshot, destroyed, swapped}
use Rattle.zs_graph.specs.declared.fault.GraphFault.{GraphFault}
use Rattle.zs_graph.specs.declared.fault.GraphFault.TheVariants as faults
use Rattle.zs_graph.specs.View.{GraphView}
use Rattle.zs_graph.specs.Refusals.{fs_refusal, clone_refusal, snapshot_refusal, destroy_refusal, swap_refusal}
use Rattle.zs_txg.specs.declared.task.Task.{Task}
use Rattle.zs_txg.specs.declared.task.Task.TheVariants as task
use Rattle.zs_phys.specs.declared.phys.Status.TheVariants as status
use Rattle.zs_phys.specs.declared.scope.Scope.{Scope}
use Rattle.zs_scan.specs.Steps.{scrub_scope}
use Rattle.zs_script.specs.declared.refusal.Refusal.{Refusal}
use Rattle.zs_script.specs.declared.refusal.Refusal.TheVariants.{NoDataset, Exists, NotHead, NotSnapshot, HasClones, HasSnapshots, NotSiblings, SameTxg, TooMany, NoScan, ScanBusy, NotPaused, Paused, NoObject, ObjectThere, PastEnd, Suspended, TxgEnd}
use Rattle.zs_script.specs.declared.reply.Reply.{Reply}
use Rattle.zs_script.specs.declared.reply.Reply.TheVariants as reply
use Rattle.zs_machine.specs.Machine.{PoolState, Data, ScanState, has_object, is_running, is_scrubbing, is_paused_scrub, is_busy}

-- the datasets with the id that the next one gets, as their changes see them
abbrev pub sets_of : Data → GraphView
sets_of d = record { sets = d.graph; next = d.next_id }

-- the head of that name
abbrev pub head_named : Graph → Name → Option Dataset
head_named g name = dataset_named g (record { owner = name; label = EMPTY })

-- why a change of the datasets is refused, as replies have it. Want of memory is no refusal of a task
abbrev pub reason : GraphFault → Option Refusal
reason faults.NoDataset = Some NoDataset
reason faults.Exists = Some Exists
reason faults.NotHead = Some NotHead
reason faults.NotSnapshot = Some NotSnapshot
reason faults.HasClones = Some HasClones
reason faults.HasSnapshots = Some HasSnapshots
reason faults.NotSiblings = Some NotSiblings
reason faults.SameTxg = Some SameTxg
reason faults.TooMany = Some TooMany
reason faults.Memory = None

abbrev pub told_as : Option GraphFault → Option Refusal
told_as None = None
told_as (Some why) = reason why

-- why a task on a dataset is refused, where there is one
abbrev pub refusal_on : Option Dataset → (Dataset → Option GraphFault) → Option Refusal
refusal_on None why = Some NoDataset
refusal_on (Some d) why = told_as (why d)

-- why a task on two datasets is refused, where both are there
abbrev pub refusal_on_both : Option Dataset → Option Dataset → (Dataset → Dataset → Option GraphFault) → Option Refusal
refusal_on_both None other why = Some NoDataset
refusal_on_both (Some d) None why = Some NoDataset
refusal_on_both (Some d) (Some e) why = told_as (why d e)

-- a scrub that starts in that transaction group, over the devices of a scope
abbrev pub scrub_from : Scope → ℕ → ScanState
scrub_from scope txg = record { scope = scrub_scope scope txg; status = status.Scanning; paused = false; checked = []; saved = 0 }

-- a scan that is stopped: it is canceled and not paused, and what it checked is saved, so that a commit drops none of it
abbrev pub stopped : ScanState → ScanState
stopped scan = record scan { status = status.Canceled; paused = false; saved = length scan.checked }

-- why a task is refused when it runs in a transaction group. Names are resolved then
abbrev pub task_refusal : ℕ → Data → Task → Option Refusal
task_refusal txg d (task.Fs name) = told_as (fs_refusal (sets_of d) name)
task_refusal txg d (task.Snap head label) = refusal_on (head_named d.graph head) (λ h. snapshot_refusal (sets_of d) h.id label txg)
task_refusal txg d (task.Clone ds name) = refusal_on (dataset_named d.graph ds) (λ s. clone_refusal (sets_of d) s.id name)
task_refusal txg d (task.Destroy ds) = refusal_on (dataset_named d.graph ds) (λ gone. destroy_refusal (sets_of d) gone.id)
task_refusal txg d (task.Swap first second) =
    refusal_on_both (head_named d.graph first) (head_named d.graph second) (λ a b. swap_refusal (sets_of d) a.id b.id)
task_refusal txg d task.Scrub = if is_busy d.scan then Some ScanBusy else None
task_refusal txg d task.Pause = if is_scrubbing d.scan then (if d.scan.paused then Some Paused else None) else Some NoScan
task_refusal txg d task.Resume = if is_paused_scrub d.scan then None else Some NotPaused
task_refusal txg d task.Stop = if is_running d.scan then None else Some NoScan

-- the datasets with one more, which gets the next id
abbrev pub with_one_more : Data → Graph → Data
with_one_more d g = record d { graph = g; next_id = d.next_id + 1 }

-- what is made of the data with a dataset, where there is one
abbrev pub data_with : Data → Option Dataset → (Dataset → Data) → Data
data_with d None change = d
data_with d (Some x) change = change x

-- what a task that is not refused does in a transaction group
abbrev pub after_task : ℕ → Data → Task → Data
after_task txg d (task.Fs name) = with_one_more d (with_fs d.graph (record { 0 = d.next_id }) name)
after_task txg d (task.Snap head label) =
    data_with d (head_named d.graph head) (λ h. with_one_more d (with_snapshot d.graph h (record { 0 = d.next_id }) label txg))
after_task txg d (task.Clone ds name) =
    data_with d (dataset_named d.graph ds) (λ snap. with_one_more d (cloned d.graph snap (record { 0 = d.next_id }) name))
after_task txg d (task.Destroy ds) = data_with d (dataset_named d.graph ds) (λ gone. record d { graph = destroyed d.graph gone })
after_task txg d (task.Swap first second) =
    data_with d (head_named d.graph first) (λ a. data_with d (head_named d.graph second) (λ b. record d { graph = swapped d.graph a b }))
after_task txg d task.Scrub = record d { scan = if is_running d.scan then record d.scan { paused = false } else scrub_from d.scan.scope txg }
after_task txg d task.Pause = record d { scan = record d.scan { paused = true } }
after_task txg d task.Resume = record d { scan = record d.scan { paused = false } }
after_task txg d task.Stop = record d { scan = stopped d.scan }

-- what a task does: a refused one changes nothing
abbrev pub after_run : ℕ → Data → Task → Data
after_run txg d t = if is_some (task_refusal txg d t) then d else after_task txg d t

-- what a list of tasks does, one after another
abbrev pub after_tasks : ℕ → Data → List (ℕ × Task) → Data
after_tasks txg d [] = d
after_tasks txg d (t ∷ ts) = after_tasks txg (after_run txg d t.1) ts

-- why each task of a list is refused
abbrev pub task_answers : ℕ → Data → List (ℕ × Task) → List (Option Refusal)
task_answers txg d [] = []
task_answers txg d (t ∷ ts) = task_refusal txg d t.1 ∷ task_answers txg (after_run txg d t.1) ts

-- the reply to a line that queues a task
abbrev pub task_reply : PoolState → Reply
task_reply s =
    if s.suspended
    then reply.Refused Suspended
    else (if s.open_txg.txg == TXG_END
    then reply.Refused TxgEnd
    else reply.Queued s.open_txg.txg (length s.open_txg.tasks + 1))

-- the state after a line that queues a task
abbrev pub after_queued : PoolState → ℕ → Task → PoolState
after_queued s by t =
    if s.suspended || (s.open_txg.txg == TXG_END)
    then s
    else record s { open_txg = record s.open_txg { tasks = s.open_txg.tasks ++ (by, t) ∷ [] } }

-- why a `make` is refused, but for want of space
abbrev pub make_refusal : PoolState → DsName → ℕ → Option Refusal
make_refusal s name object =
    if s.suspended then Some Suspended else refusal_in (dataset_named s.graph name)
  where
    refusal_in : Option Dataset → Option Refusal
    refusal_in None = Some NoDataset
    refusal_in (Some d) =
        if not d.head
        then Some NotHead
        else (if has_object s d object then Some ObjectThere else (if s.open_txg.txg == TXG_END then Some TxgEnd else None))

-- why a `write` is refused, but for want of space: every object has one record
abbrev pub write_refusal : PoolState → DsName → ℕ → ℕ → Option Refusal
write_refusal s name object leaf =
    if s.suspended then Some Suspended else refusal_in (dataset_named s.graph name)
  where
    refusal_in : Option Dataset → Option Refusal
    refusal_in None = Some NoDataset
    refusal_in (Some d) =
        if not d.head
        then Some NotHead
        else (if not (has_object s d object)
        then Some NoObject
        else (if not (leaf == 0) then Some PastEnd else (if s.open_txg.txg == TXG_END then Some TxgEnd else None)))

-- why a `read` is refused: every object has one record
abbrev pub read_refusal : PoolState → DsName → ℕ → ℕ → Option Refusal
read_refusal s name object leaf =
    if s.suspended then Some Suspended else refusal_in (dataset_named s.graph name)
  where
    refusal_in : Option Dataset → Option Refusal
    refusal_in None = Some NoDataset
    refusal_in (Some d) =
        if has_object s d object
        then (if leaf == 0 then None else Some PastEnd)
        else Some NoObject
