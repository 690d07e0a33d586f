-- The steps of the machine: which state an event leads to, and which replies it may have.
use Rattle.std.specs.Prelude.{◌≡◌, ℕ, ◌+◌, ◌-◌, ◌*◌, ◌/◌, ◌^◌, ◌==◌, ◌≤◌, ◌<◌, unwrap_or, true, false, if◌then◌else◌}
use Rattle.std.specs.Prelude.{List, [], ◌∷◌, ◌++◌, length, filter, map, Option, Some, None, is_some, ◌⊎◌}
use Rattle.std.specs.Int.{from_be_bytes, w64}
use Rattle.zs_ids.specs.declared.key.Key.{Key}
use Rattle.zs_ids.specs.declared.block.Bp.{Bp}
use Rattle.zs_ids.specs.declared.block.Place.{Place}
use Rattle.zs_ids.specs.declared.dataset.DsId.{DsId}
use Rattle.zs_ids.specs.declared.dataset.DsName.{DsName}
use Rattle.zs_ids.specs.declared.limits.TheConstants.{TXG_END}
use Rattle.zs_ids.specs.Key.{root_key, dnode_key, record_key}
use Rattle.zs_ids.specs.Blocks.{bp_at, entries_with}
use Rattle.zs_ids.specs.Graph.{Dataset, Graph}
use Rattle.zs_sum.specs.Sum.{sha256}
use Rattle.zs_objset.specs.declared.block.StagedBlock.{StagedBlock}
use Rattle.zs_objset.specs.Staged.{AreBlocksOf, pointers_of}
use Rattle.zs_txg.specs.declared.task.Task.{Task}
use Rattle.zs_txg.specs.declared.task.Task.TheVariants as task
use Rattle.zs_txg.specs.declared.staged.Staging.{Staging}
use Rattle.zs_txg.specs.Txg.{Slot, staged_at, put_staged, staged_for, entry_of}
use Rattle.zs_ledger.specs.declared.entry.Entry.{Entry}
use Rattle.zs_ledger.specs.Entry.{has_error}
use Rattle.zs_phys.specs.declared.phys.Status.TheVariants as status
use Rattle.zs_script.specs.declared.command.Command.{Command}
use Rattle.zs_script.specs.declared.command.Command.TheVariants as command
use Rattle.zs_script.specs.declared.refusal.Refusal.{Refusal}
use Rattle.zs_script.specs.declared.refusal.Refusal.TheVariants as refusal
use Rattle.zs_script.specs.declared.reply.Reply.{Reply}
use Rattle.zs_script.specs.declared.reply.Reply.TheVariants as reply
use Rattle.zs_script.specs.declared.reply.Finished.{Finished}
use Rattle.zs_ids.specs.declared.block.Item.{Item}
use Rattle.zs_machine.specs.Born.{AreBornItems}
use Rattle.zs_machine.specs.declared.event.Stage.{Stage}
use Rattle.zs_machine.specs.declared.event.Stage.TheVariants as stage
use Rattle.zs_machine.specs.declared.event.ReadPlan.{ReadPlan}
use Rattle.zs_machine.specs.declared.event.ReadPlan.TheVariants as plan
use Rattle.zs_machine.specs.declared.event.Step.{Step}
use Rattle.zs_machine.specs.declared.event.Step.TheVariants as step
use Rattle.zs_machine.specs.declared.event.Event.{Event}
use Rattle.zs_scan.specs.Walks.{item_of}
use Rattle.zs_scan.specs.Covered.{MayBeChecked, AllAreChecked}
use Rattle.zs_scan.specs.Steps.{no_scope}
use Rattle.zs_machine.specs.Status.{TellsStatus, kind_word, counted}
use Rattle.zs_machine.specs.Errors.{TellsErrors}
use Rattle.zs_machine.specs.Listing.{TellsList}
use Rattle.zs_machine.specs.declared.event.OpenRead.{OpenRead}
use Rattle.zs_machine.specs.Machine.{PoolState, Txg, Data, ScanState, staged_record, record_sectors, is_running, is_at_work}
use Rattle.zs_ids.specs.GraphTree.{dataset_named}
use Rattle.zs_ids.specs.GraphValid.{origin}
use Rattle.zs_machine.specs.Replies.{task_reply, after_queued, make_refusal, write_refusal, read_refusal, task_answers, after_tasks}

-- a transaction group in which nothing is staged or queued
abbrev pub empty_txg : ℕ → Txg
empty_txg t = record { txg = t; staged = []; tasks = [] }

-- a block is staged for a dataset, at a place of any choice, unless one is staged at the key
abbrev pub staged_once : List (Slot × Staging) → Slot → Place → List (Slot × Staging)
staged_once staged slot place =
    if is_some (staged_at staged slot)
    then staged
    else put_staged staged slot (record { place = place; sectors = 8; fill = None })

-- what was staged keeps its place
abbrev pub KeepsPlace : Option Staging → Place → Type 0
KeepsPlace None place = Unit {0}
KeepsPlace (Some e) place = place ≡ e.place

-- record 0 of an object is staged, with the blocks above it; what was staged before keeps its place
abbrev pub IsStagedWith : List (Slot × Staging) → DsId → ℕ → ℕ → ℕ → List (Slot × Staging) → Type 0
IsStagedWith old ds object sectors fill new =
    (root : Place) × (dnode : Place) × (place : Place) × KeepsPlace (staged_at old (ds, record_key object 0)) place
    × (new ≡ put_staged (staged_once (staged_once old (ds, root_key) root) (ds, dnode_key object) dnode) (ds, record_key object 0)
    (record { place = place; sectors = sectors; fill = Some fill }))

-- a `make`: refused, or the record is staged. Whether there is space for it is left open
abbrev pub MakeStep : PoolState → DsName → ℕ → ℕ → ℕ → Reply → PoolState → Type 0
MakeStep s name object size fill answer t = refused (make_refusal s name object)
  where
    staged_in : Option Dataset → Type 0
    staged_in None = ⊥
    staged_in (Some d) =
        (new : List (Slot × Staging)) × IsStagedWith s.open_txg.staged d.id object (size / 512) fill new
        × (t ≡ record s { open_txg = record s.open_txg { staged = new } })
        × (answer ≡ reply.Wrote name object 0 s.open_txg.txg)

    refused : Option Refusal → Type 0
    refused (Some why) = (answer ≡ reply.Refused why) × (t ≡ s)
    refused None = ((answer ≡ reply.Refused refusal.NoSpace) × (t ≡ s)) ⊎ staged_in (dataset_named s.graph name)

-- a `write`: refused, or the record is staged. Whether there is space for it is left open
abbrev pub WriteStep : PoolState → DsName → ℕ → ℕ → ℕ → Reply → PoolState → Type 0
WriteStep s name object leaf fill answer t = refused (write_refusal s name object leaf)
  where
    staged_in : Option Dataset → Type 0
    staged_in None = ⊥
    staged_in (Some d) =
        (new : List (Slot × Staging)) × IsStagedWith s.open_txg.staged d.id object (record_sectors s d object) fill new
        × (t ≡ record s { open_txg = record s.open_txg { staged = new } })
        × (answer ≡ reply.Wrote name object leaf s.open_txg.txg)

    refused : Option Refusal → Type 0
    refused (Some why) = (answer ≡ reply.Refused why) × (t ≡ s)
    refused None = ((answer ≡ reply.Refused refusal.NoSpace) × (t ≡ s)) ⊎ staged_in (dataset_named s.graph name)

-- a line that queues a task
abbrev pub TaskStep : PoolState → ℕ → Task → Reply → PoolState → Type 0
TaskStep s by queued answer t = (answer ≡ task_reply s) × (t ≡ after_queued s by queued)

-- a command that stages a record or queues a task
abbrev pub CommandStep : PoolState → ℕ → Command → Reply → PoolState → Type 0
CommandStep s by (command.Fs name) answer t = TaskStep s by (task.Fs name) answer t
CommandStep s by (command.Snap head label) answer t = TaskStep s by (task.Snap head label) answer t
CommandStep s by (command.Clone ds name) answer t = TaskStep s by (task.Clone ds name) answer t
CommandStep s by (command.Destroy ds) answer t = TaskStep s by (task.Destroy ds) answer t
CommandStep s by (command.Swap first second) answer t = TaskStep s by (task.Swap first second) answer t
CommandStep s by command.Scrub answer t = TaskStep s by task.Scrub answer t
CommandStep s by command.Pause answer t = TaskStep s by task.Pause answer t
CommandStep s by command.Resume answer t = TaskStep s by task.Resume answer t
CommandStep s by command.Stop answer t = TaskStep s by task.Stop answer t
CommandStep s by (command.Make ds object levels size fill) answer t = MakeStep s ds object size fill answer t
CommandStep s by (command.Write ds object leaf fill) answer t = WriteStep s ds object leaf fill answer t
CommandStep s by command.Status answer t = TellsStatus s answer × (t ≡ s)
CommandStep s by command.Errors answer t = TellsErrors s answer × (t ≡ s)
CommandStep s by command.List answer t = TellsList s answer × (t ≡ s)
CommandStep s by _ answer t = ⊥

-- a line whose events stand before it, with its reply: what a `sync` and a `finish` did is told by the replies of those
-- events, and both end between syncs; a `finish` comes to an end where no scan runs unpaused, or no transaction group is
-- left. A `rot` is of a device that the pool has; whether its range lies in the space, and what the device does, is left
-- open. A pool that is suspended refuses each line
abbrev pub LineStep : PoolState → Command → Reply → Type 0
LineStep s c (reply.Refused refusal.Suspended) = s.suspended ≡ true
LineStep s command.Finish (reply.Refused refusal.NoScan) = (s.suspended ≡ false) × (is_running s.scan ≡ false)
LineStep s command.Finish (reply.Refused refusal.Paused) = (s.suspended ≡ false) × (is_running s.scan ≡ true) × (s.scan.paused ≡ true)
LineStep s command.Finish reply.Nothing =
    (s.suspended ≡ false) × (s.stage ≡ stage.Between) × ((is_at_work s.scan ≡ false) ⊎ (s.open_txg.txg ≡ TXG_END))
LineStep s command.Sync reply.Nothing = (s.suspended ≡ false) × (s.stage ≡ stage.Between)
LineStep s (command.Walk n) (reply.Walked turns why waiting) = (s.suspended ≡ false) × (turns ≤ n)
LineStep s (command.Issue vdev n) (reply.Issued v pieces) = (s.suspended ≡ false) × (v ≡ vdev)
LineStep s (command.Hold vdev n) (reply.Held v sectors) = (s.suspended ≡ false) × (v ≡ vdev)
LineStep s command.Land (reply.Landed entries pieces) = s.suspended ≡ false
LineStep s (command.Rot dev sector count) (reply.Rotted d first many) =
    (s.suspended ≡ false) × (dev < s.devices) × (d ≡ dev) × (first ≡ sector) × (many ≡ count)
LineStep s (command.Rot dev sector count) (reply.Refused refusal.NoDevice) = (s.suspended ≡ false) × (s.devices ≤ dev)
LineStep s (command.Rot dev sector count) (reply.Refused refusal.OutOfRange) = (s.suspended ≡ false) × (dev < s.devices)
LineStep s (command.Rot dev sector count) (reply.Refused refusal.DeviceFault) = (s.suspended ≡ false) × (dev < s.devices)
LineStep s c _ = ⊥

-- the state with an entry more
abbrev pub with_checked : PoolState → Entry → PoolState
with_checked s e = record s { scan = record s.scan { checked = s.scan.checked ++ e ∷ [] } }

-- entries are added one after another
abbrev pub VerdictStep : PoolState → List Entry → PoolState → Type 0
VerdictStep s [] t = t ≡ s
VerdictStep s (e ∷ es) t = (is_running s.scan ≡ true) × MayBeChecked s.graph s.scan.scope s.scan.checked e × VerdictStep (with_checked s e) es t

-- the keys and pointers of the blocks that are staged for a dataset, over its entries
pub record AreChanges (entries : List (Key × Bp)) (staged : List (Slot × Staging)) (txg : ℕ) (changes : List (Key × Bp)) : Type 0 where
  pub blocks : List StagedBlock
  pub made : AreBlocksOf (bp_at entries) txg (map entry_of staged) blocks
  pub pointers : changes ≡ pointers_of blocks

-- a dataset with the blocks that were staged for it put over its own
pub record IsOverwritten (txg : ℕ) (staged : List (Slot × Staging)) (old new : Dataset) : Type 0 where
  pub changes : List (Key × Bp)
  pub are_changes : AreChanges old.entries staged txg changes
  pub is : new ≡ record old { entries = entries_with old.entries changes }

-- a dataset for which nothing was staged stays, another is overwritten
abbrev pub IsWritten : ℕ → List (Slot × Staging) → Dataset → Dataset → Type 0
IsWritten txg [] old new = new ≡ old
IsWritten txg (e ∷ es) old new = IsOverwritten txg (e ∷ es) old new

-- each dataset is written
abbrev pub AreWritten : Txg → Graph → Graph → Type 0
AreWritten txg [] [] = Unit {0}
AreWritten txg (d ∷ ds) (e ∷ es) = IsWritten txg.txg (staged_for txg.staged d.id) d e × AreWritten txg ds es
AreWritten txg [] (e ∷ es) = ⊥
AreWritten txg (d ∷ ds) [] = ⊥

-- the state after the tasks of a transaction group have run on the data
abbrev pub after_data : PoolState → Txg → Data → PoolState
after_data s txg d =
    let e = after_tasks txg.txg d txg.tasks in
    record s {
      graph = e.graph;
      next_id = e.next_id;
      scan = e.scan;
      applied = txg.txg;
      closed = None;
      stage = stage.Labelling;
      answers = task_answers txg.txg d txg.tasks;
    }

-- the scan comes to its end: it is running and not paused, and has checked all that it was to check
pub record Finishes (s t : PoolState) : Type 0 where
  pub running : is_running s.scan ≡ true
  pub unpaused : s.scan.paused ≡ false
  pub all : AllAreChecked s.graph s.scan.scope s.scan.checked
  pub finished : t ≡ record s { scan = record s.scan { status = status.Finished; saved = length s.scan.checked }; finished = true }

-- a scan that is running, paused or not, makes a checkpoint: all its entries are saved
pub record Saves (s t : PoolState) : Type 0 where
  pub running : is_running s.scan ≡ true
  pub saved : t ≡ record s { scan = record s.scan { saved = length s.scan.checked }; finished = false }

-- the scan comes to its end, or makes a checkpoint, or neither
abbrev pub EndStep : PoolState → PoolState → Type 0
EndStep s t = Finishes s t ⊎ (Saves s t ⊎ (t ≡ record s { finished = false }))

-- the closed transaction group is applied: its blocks are put over the datasets' own, its tasks run in order, and the scan
-- may come to its end or make a checkpoint. The items are those of the pieces that are born in it and live then
pub record DataStep (s : PoolState) (items : List Item) (t : PoolState) : Type 0 where
  pub txg : Txg
  pub was_closed : s.closed ≡ Some txg
  pub graph : Graph
  pub written : AreWritten txg s.graph graph
  pub ended : EndStep (after_data s txg (record { graph = graph; next_id = s.next_id; scan = s.scan })) t
  pub born : AreBornItems t.graph txg.txg items

-- the line of a scan that came to its end: how many pieces it checked, and how many of them are damaged
abbrev pub finished_line : PoolState → Option Finished
finished_line s =
    if s.finished
    then Some (record {
      kind = kind_word s.scan.scope.kind;
      checked = counted (length s.scan.checked);
      errors = counted (length (filter has_error s.scan.checked));
    })
    else None

-- the reply to a sync that was committed. The one that makes the pool has no text
abbrev pub committed_reply : PoolState → Reply
committed_reply s =
    if s.applied == 1
    then reply.Nothing
    else reply.Committed s.applied s.answers (finished_line s)

-- where the answer of a read comes from: the staged fill, else the dataset's pointer, else nowhere
abbrev pub plan_from : Option Staging → Option Bp → ℕ → ReadPlan
plan_from (Some e) bp online = plan.Staged (unwrap_or e.fill 0)
plan_from None (Some bp) online = plan.Pinned (item_of bp) online
plan_from None None online = plan.Hole

-- where the answer of a read of a dataset comes from
abbrev pub plan_in : PoolState → Dataset → ℕ → ℕ → ReadPlan
plan_in s d object leaf = plan_from (staged_record s d.id (record_key object leaf)) (bp_at d.entries (record_key object leaf)) s.online

-- a read begins: it is refused, or it is open with its plan
abbrev pub ReadBeginStep : PoolState → ℕ → DsName → ℕ → ℕ → Option ReadPlan → Reply → PoolState → Type 0
ReadBeginStep s by name object leaf planned answer t = refused (read_refusal s name object leaf)
  where
    planned_in : Option Dataset → Type 0
    planned_in None = ⊥
    planned_in (Some d) =
        (planned ≡ Some (plan_in s d object leaf)) × (answer ≡ reply.Nothing)
        × (t ≡ record s { reads = s.reads ++ record { by = by; ds = name; object = object; leaf = leaf; plan = plan_in s d object leaf } ∷ [] })

    refused : Option Refusal → Type 0
    refused (Some why) = (planned ≡ None) × (answer ≡ reply.Refused why) × (t ≡ s)
    refused None = planned_in (dataset_named s.graph name)

-- what an open read may be answered with: the staged fill, `hole`, or the first eight bytes of some bytes that
-- hash to the piece's sum, unless no such bytes were found
abbrev pub IsReadAnswer : OpenRead → ReadPlan → Reply → Type 0
IsReadAnswer r (plan.Staged fill) answer = answer ≡ reply.Read r.ds r.object r.leaf fill
IsReadAnswer r plan.Hole answer = answer ≡ reply.ReadHole r.ds r.object r.leaf
IsReadAnswer r (plan.Pinned item online) answer =
    ((bytes : List ℕ) × (sha256 bytes ≡ item.sum) × (answer ≡ reply.Read r.ds r.object r.leaf (from_be_bytes w64 bytes)))
    ⊎ (answer ≡ reply.Refused refusal.ReadLost)

-- an open read of the client with this plan ends
pub record ReadEndStep (s : PoolState) (by : ℕ) (p : ReadPlan) (answer : Reply) (t : PoolState) : Type 0 where
  pub before : List OpenRead
  pub read : OpenRead
  pub after : List OpenRead
  pub open_reads : s.reads ≡ before ++ read ∷ after
  pub client : read.by ≡ by
  pub same_plan : read.plan ≡ p
  pub answers : IsReadAnswer read p answer
  pub closed : t ≡ record s { reads = before ++ after }

-- no scan was started yet, over so many devices in mirrors of that width
abbrev pub no_scan : ℕ → ℕ → ScanState
no_scan devices width = record { scope = no_scope devices width; status = status.Never; paused = false; checked = []; saved = 0 }

-- the pool of a `pool` line: the datasets are just the origin, and the empty transaction group 1 is closed
abbrev pub blank_state : ℕ → ℕ → PoolState
blank_state width devices = record {
  graph = origin ∷ [];
  next_id = 1;
  applied = 0;
  devices = devices;
  online = 2 ^ devices - 1;
  open_txg = empty_txg 2;
  closed = Some (empty_txg 1);
  stage = stage.Writing;
  scan = no_scan devices width;
  suspended = false;
  answers = [];
  finished = false;
  reads = [];
}

-- the event with which a pool's history begins, and the state that it leads to
abbrev pub Begins : Event → PoolState → Type 0
Begins e s = begins e.step e.reply
  where
    begins : Step → Reply → Type 0
    begins (step.Made (command.Pool pool width limit every blocks)) (reply.Made made mirrors) = (made ≡ pool) × (s ≡ blank_state width (mirrors * width))
    begins _ _ = ⊥

-- the open transaction group is closed, and the next one is open
abbrev pub begun_sync : PoolState → PoolState
begun_sync s = record s { open_txg = empty_txg (s.open_txg.txg + 1); closed = Some s.open_txg; stage = stage.Writing }

-- a sync is in progress
abbrev pub IsSyncing : Stage → Type 0
IsSyncing stage.Between = ⊥
IsSyncing stage.Writing = Unit {0}
IsSyncing stage.Labelling = Unit {0}

-- a pool was suspended because memory was wanting in its sync, which goes on no more. How much of the closed transaction
-- group its datasets and its scan have is left open; what is open is as it was
pub record IsHalted (s t : PoolState) : Type 0 where
  pub suspended : t.suspended ≡ true
  pub between : t.stage ≡ stage.Between
  pub devices : t.devices ≡ s.devices
  pub online : t.online ≡ s.online
  pub reads : t.reads ≡ s.reads
  pub open_txg : t.open_txg ≡ s.open_txg

-- one step of the machine. No device fails in the writes of a sync's data. A pool that is suspended takes no turn and no
-- batch, and makes no sync; what was read from its devices by then may still come in
abbrev pub Steps : PoolState → Event → PoolState → Type 0
Steps s e t = steps e.step e.reply
  where
    steps : Step → Reply → Type 0
    steps (step.Command c) answer = CommandStep s e.by c answer t
    steps (step.Line c) answer = LineStep s c answer × (t ≡ s)
    steps (step.Walk turn) answer = (answer ≡ reply.Nothing) × (s.suspended ≡ false) × (t ≡ s)
    steps (step.Hold number vdev online pieces) answer =
        (answer ≡ reply.Nothing) × (s.suspended ≡ false) × (online ≡ s.online) × (t ≡ s)
    steps (step.Verdict number pieces entries) answer = (answer ≡ reply.Nothing) × VerdictStep s entries t
    steps step.BeginSync (reply.RefusedSync txg why) =
        (s.suspended ≡ false) × (s.stage ≡ stage.Between) × (s.open_txg.txg ≡ TXG_END)
        × (txg ≡ s.open_txg.txg) × (why ≡ refusal.TxgEnd) × (t ≡ s)
    steps step.BeginSync answer =
        (answer ≡ reply.Nothing) × (s.suspended ≡ false) × (s.stage ≡ stage.Between) × (s.closed ≡ None) × (s.open_txg.txg < TXG_END)
        × (t ≡ begun_sync s)
    steps (step.EndData online marks items) answer =
        (answer ≡ reply.Nothing) × (s.suspended ≡ false) × (online ≡ s.online) × (marks.failed ≡ 0) × DataStep s items t
    steps (step.Committed online) answer =
        (answer ≡ committed_reply s) × (s.suspended ≡ false) × (online ≡ s.online) × (s.stage ≡ stage.Labelling)
        × (t ≡ record s { stage = stage.Between })
    steps (step.Suspend online why) answer =
        (answer ≡ reply.Nothing) × (s.suspended ≡ false) × (online ≡ s.online) × IsSyncing s.stage × IsHalted s t
    steps (step.ReadBegin (command.Read ds object leaf) planned) answer = ReadBeginStep s e.by ds object leaf planned answer t
    steps (step.ReadBegin c planned) answer = ⊥
    steps (step.ReadEnd p places) answer = ReadEndStep s e.by p answer t
    steps (step.Made c) answer = ⊥
