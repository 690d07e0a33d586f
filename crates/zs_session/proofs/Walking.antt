-- What a turn of the walk leaves of a scan.
use Rattle.std.proofs.Common.{◌≡◌, ℕ, ◌<◌, ◌≤◌, ◌+◌, min, true, false, [], length, refl, sym, ◌∙◌, ap, subst, inl, inr, ◌⊎◌, arith}
use Rattle.std.specs.Prelude.{Option, Some, None}
use Rattle.zs_ids.specs.declared.block.Item.{Item}
use Rattle.zs_ids.specs.Graph.{Graph}
use Rattle.zs_phys.specs.declared.phys.Phys.{Phys}
use Rattle.zs_phys.specs.declared.phys.At.{At}
use Rattle.zs_phys.specs.declared.phys.At.TheVariants as ats
use Rattle.zs_phys.specs.declared.scope.Scope.{Scope}
use Rattle.zs_phys.specs.declared.step.Step.{Step}
use Rattle.zs_phys.specs.declared.step.Step.TheVariants as steps
use Rattle.zs_phys.specs.Turn.{HasNoWork, IsWalking, Comes, advanced, skipped}
use Rattle.zs_phys.specs.Turn.HasNoWork.{no_scan, paused, none_left}
use Rattle.zs_phys.specs.Turn.Comes.{rests}
use Rattle.zs_scan.specs.declared.batch.Turn.{Turn}
use Rattle.zs_scan.specs.declared.batch.Turn.TheVariants as turns
use Rattle.zs_scan.specs.View.{ScanView}
use Rattle.zs_scan.specs.Walks.{Walked, IsFull, PutIf, is_due, item_put, turn_of}
use Rattle.zs_scan.specs.Steps.{IsComplete}
use Rattle.zs_walk.specs.Left.{turns_left}
use Rattle.zs_core.specs.Safe.{IsSafe}
use Rattle.zs_core.specs.View.{CoreView}
use Rattle.zs_session.specs.Batches.{GoesOnScanning, IsTimedAs, StandsStill}

-- where just the run changed, and back, nothing did
run_back : (old new : ScanView) → new.run ≡ old.run → record new { run = old.run } ≡ old → new ≡ old
run_back old new is same = ap (λ (r : Phys). record new { run = r }) is ∙ same

-- a turn at which there was nothing to walk changed nothing
nothing_walked : (g : Graph) (old new : ScanView) (s : Step) → turns.Nothing ≡ turn_of s → Comes g old.scope old.run s → new.run ≡ advanced g old.scope old.run s → PutIf old (item_put old s) (record new { run = old.run }) → HasNoWork old.run × (new ≡ old)
nothing_walked g old new steps.Nothing named (rests none) becomes puts = (none, run_back old new becomes puts)
nothing_walked g old new steps.Skip named comes becomes puts = cc
nothing_walked g old new (steps.Enter id least) named comes becomes puts = cc
nothing_walked g old new (steps.At k bp) named comes becomes puts = cc
nothing_walked g old new (steps.End id) named comes becomes puts = cc

-- there is still nothing to walk then
pub no_work : (g : Graph) (old new : ScanView) (turn : Turn) → Walked g old turn new → turn ≡ turns.Nothing → HasNoWork new.run × (new ≡ old)
no_work g old new turn walked is =
    let nothing = nothing_walked g old new walked.step (sym is ∙ walked.named) walked.comes walked.becomes walked.puts in
    (subst (λ (v : ScanView). HasNoWork v.run) (sym nothing.1) nothing.0, nothing.1)

-- what a skip leaves runs as it did
skip_keeps : (at : At) (s : Phys) → ((skipped at s).status ≡ s.status) × ((skipped at s).paused ≡ s.paused)
skip_keeps ats.Nowhere s = (refl, refl)
skip_keeps ats.Destroyed s = (refl, refl)
skip_keeps (ats.Dataset id k) s = (refl, refl)

-- and so does what any turn leaves
turn_keeps : (g : Graph) (scope : Scope) (s : Phys) (step : Step) → ((advanced g scope s step).status ≡ s.status) × ((advanced g scope s step).paused ≡ s.paused)
turn_keeps g scope s steps.Nothing = (refl, refl)
turn_keeps g scope s steps.Skip = skip_keeps s.at s
turn_keeps g scope s (steps.Enter id least) = (refl, refl)
turn_keeps g scope s (steps.At k bp) = (refl, refl)
turn_keeps g scope s (steps.End id) = (refl, refl)

-- the batches in flight stay where an item is put
put_flight : (old new : ScanView) (item : Option Item) → PutIf old item new → new.flight ≡ old.flight
put_flight old new None puts = ap (λ (v : ScanView). v.flight) puts
put_flight old new (Some item) puts = ap (λ (v : ScanView). v.flight) puts.rest

-- and so does when the next checkpoint is due
put_saved : (old new : ScanView) (item : Option Item) → PutIf old item new → new.saved ≡ old.saved
put_saved old new None puts = ap (λ (v : ScanView). v.saved) puts
put_saved old new (Some item) puts = ap (λ (v : ScanView). v.saved) puts.rest

put_every : (old new : ScanView) (item : Option Item) → PutIf old item new → new.every ≡ old.every
put_every old new None puts = ap (λ (v : ScanView). v.every) puts
put_every old new (Some item) puts = ap (λ (v : ScanView). v.every) puts.rest

-- the batches in flight stay at a turn
pub flight_stays : (g : Graph) (old new : ScanView) (turn : Turn) → Walked g old turn new → new.flight ≡ old.flight
flight_stays g old new turn walked = put_flight old (record new { run = old.run }) (item_put old walked.step) walked.puts

-- a scan goes on as it did at a turn
pub walk_keeps : (old new : CoreView) (turn : Turn) → new ≡ record old { scan = new.scan } → Walked old.state.graph old.scan turn new.scan → GoesOnScanning old new
walk_keeps old new turn core walked =
    let keeps = turn_keeps old.state.graph old.scan.scope old.scan.run walked.step in
    record {
      time = record { applied = ap (λ (v : CoreView). v.state.applied) core; saved = put_saved old.scan (record new.scan { run = old.scan.run }) (item_put old.scan walked.step) walked.puts; every = put_every old.scan (record new.scan { run = old.scan.run }) (item_put old.scan walked.step) walked.puts; tasks = ap (λ (v : CoreView). v.state.open_txg.tasks) core };
      graph = ap (λ (v : CoreView). v.state.graph) core;
      status = ap (λ (s : Phys). s.status) walked.becomes ∙ keeps.0;
      paused = ap (λ (s : Phys). s.paused) walked.becomes ∙ keeps.1;
    }

-- and where nothing changed
pub same_keeps : (old new : CoreView) → new ≡ old → GoesOnScanning old new
same_keeps old new is = record { time = record { applied = ap (λ (v : CoreView). v.state.applied) is; saved = ap (λ (v : CoreView). v.scan.saved) is; every = ap (λ (v : CoreView). v.scan.every) is; tasks = ap (λ (v : CoreView). v.state.open_txg.tasks) is }; graph = ap (λ (v : CoreView). v.state.graph) is; status = ap (λ (v : CoreView). v.scan.run.status) is; paused = ap (λ (v : CoreView). v.scan.run.paused) is }

-- and where its walk stands where it stood
pub goes_judged : (old new : CoreView) → IsTimedAs old new → new.state.graph ≡ old.state.graph → new.scan.run ≡ old.scan.run → GoesOnScanning old new
goes_judged old new time graph run = record { time = time; graph = graph; status = ap (λ (s : Phys). s.status) run; paused = ap (λ (s : Phys). s.paused) run }

-- where just the scan changed and it is as it was, nothing changed
pub same_core : (old new : CoreView) → new ≡ record old { scan = new.scan } → new.scan ≡ old.scan → new ≡ old
same_core old new core is = core ∙ ap (λ (v : ScanView). record old { scan = v }) is

-- a scan that runs on does so where it goes on as it did
pub still_walking : (old new : CoreView) → GoesOnScanning old new → IsWalking old.scan.run → IsWalking new.scan.run
still_walking old new goes was = record { scans = goes.status ∙ was.scans; goes_on = goes.paused ∙ was.goes_on }

-- the walk of a scan that runs is at its end where there is nothing to walk
pub at_end : (s : Phys) → HasNoWork s → IsWalking s → (s.at ≡ ats.Nowhere) × (s.todo ≡ [])
at_end s (no_scan not) walks = absurd (not walks.scans)
at_end s (paused is) walks = let apart : true ≡ false = sym is ∙ walks.goes_on in cc
at_end s (none_left nowhere empty) walks = (nowhere, empty)

-- a walk that was refused as full at once has pieces that wait
pub full_walk : (start now : CoreView) → IsSafe start → (now ≡ start) ⊎ (turns_left now.state.graph now.scan.run < turns_left start.state.graph start.scan.run) → IsFull now.state.graph now.state.applied now.scan → turns_left now.state.graph now.scan.run < turns_left start.state.graph start.scan.run + min 1 (length start.scan.waiting)
full_walk start now safe (inl same) full =
    let many : length start.scan.waiting ≡ start.shape.limit = ap (λ (v : CoreView). length v.scan.waiting) (sym same) ∙ (full.none_left ∙ (ap (λ (v : CoreView). v.scan.limit) same ∙ safe.limit)) in
    let some : 1 ≤ length start.scan.waiting = subst (λ (n : ℕ). 1 ≤ n) (sym many) safe.shaped.shape.limit.0 in
    let left : turns_left now.state.graph now.scan.run ≡ turns_left start.state.graph start.scan.run = ap (λ (v : CoreView). turns_left v.state.graph v.scan.run) same in
    omega (arith, some, left)
full_walk start now safe (inr fewer) full = omega (arith, fewer)

-- a turn more leaves fewer turns than at the start
pub fewer_turns : (start old new : CoreView) → (old ≡ start) ⊎ (turns_left old.state.graph old.scan.run < turns_left start.state.graph start.scan.run) → turns_left new.state.graph new.scan.run < turns_left old.state.graph old.scan.run → (new ≡ start) ⊎ (turns_left new.state.graph new.scan.run < turns_left start.state.graph start.scan.run)
fewer_turns start old new (inl same) less = inr (subst (λ (n : ℕ). turns_left new.state.graph new.scan.run < n) (ap (λ (v : CoreView). turns_left v.state.graph v.scan.run) same) less)
fewer_turns start old new (inr fewer) less = inr (omega (arith, fewer, less))

-- no turn was made
pub turns_same : (old mid new : CoreView) → new ≡ mid → mid ≡ old → new ≡ old
turns_same old mid new second first = second ∙ first

-- the next checkpoint is due as it was over two calls
pub timed_twice : (old mid new : CoreView) → IsTimedAs old mid → IsTimedAs mid new → IsTimedAs old new
timed_twice old mid new first second = record { applied = second.applied ∙ first.applied; saved = second.saved ∙ first.saved; every = second.every ∙ first.every; tasks = second.tasks ∙ first.tasks }

-- so it is where nothing changed
pub timed_same : (v : CoreView) → IsTimedAs v v
timed_same v = record { applied = refl; saved = refl; every = refl; tasks = refl }

-- a checkpoint that is due for a scan that runs is due for it still
pub still_due : (old new : CoreView) → IsTimedAs old new → old.scan.run.status ≡ new.scan.run.status → is_due new.state.applied new.scan ≡ is_due old.state.applied old.scan
still_due old new time status = rw (time.applied, time.saved, time.every, status) refl

-- a scan stands still twice
pub still_twice : (old mid new : CoreView) → StandsStill old mid → StandsStill mid new → StandsStill old new
still_twice old mid new first second = record { time = timed_twice old mid new first.time second.time; graph = second.graph ∙ first.graph; run = second.run ∙ first.run; flight = λ none. second.flight (first.flight none) }

-- a scan that walked to its end, and of which nothing waits or flies, is complete
pub is_complete : (mid new : CoreView) → StandsStill mid new → IsWalking mid.scan.run → mid.scan.flight ≡ [] → (mid.scan.run.at ≡ ats.Nowhere) × (mid.scan.run.todo ≡ []) → new.scan.waiting ≡ [] → IsComplete new.scan
is_complete mid new still walks landed ended drained = record {
  scans = ap (λ (s : Phys). s.status) still.run ∙ walks.scans;
  goes_on = ap (λ (s : Phys). s.paused) still.run ∙ walks.goes_on;
  nowhere = ap (λ (s : Phys). s.at) still.run ∙ ended.0;
  walked = ap (λ (s : Phys). s.todo) still.run ∙ ended.1;
  drained = drained;
  landed = still.flight landed;
}

-- fewer turns and waiting pieces are left after a walk that was refused as full and a check of all that waited
pub fewer_left : (old mid new : CoreView) → StandsStill mid new → new.scan.waiting ≡ [] → turns_left mid.state.graph mid.scan.run < turns_left old.state.graph old.scan.run + min 1 (length old.scan.waiting) → turns_left new.state.graph new.scan.run + min 1 (length new.scan.waiting) < turns_left old.state.graph old.scan.run + min 1 (length old.scan.waiting)
fewer_left old mid new still drained fewer =
    let left : turns_left new.state.graph new.scan.run ≡ turns_left mid.state.graph mid.scan.run = ap (λ (g : Graph). turns_left g new.scan.run) still.graph ∙ ap (λ (s : Phys). turns_left mid.state.graph s) still.run in
    let none : length new.scan.waiting ≡ 0 = ap length drained in
    omega (arith, fewer, left, none)
