-- After the tasks the scan comes to its end as the machine asks, or makes a checkpoint, or goes on.
use Rattle.std.specs.Prelude.{◌≡◌, ◌≤◌, ◌+◌, ℕ, Bool, true, false, List, Option, None, refl}
use Rattle.std.specs.Prelude.{◌⊎◌, ◌↔◌, IsTrue}
use Rattle.std.proofs.Common.{sym, ap, ◌∙◌, subst, inl, inr, arith}
use Rattle.std.proofs.lemmas.Bool.{true≢false}
use Rattle.zs_ids.specs.Graph.{Graph}
use Rattle.zs_ids.specs.GraphValid.{Room}
use Rattle.zs_graph.specs.View.{GraphView}
use Rattle.zs_phys.specs.Sound.{EndsBy}
use Rattle.zs_phys.specs.Sound.EndsBy.{past, started, canceled}
use Rattle.zs_walk.specs.Walking.{runs}
use Rattle.zs_scan.specs.View.{ScanView}
use Rattle.zs_scan.specs.Covered.{IsScanOf, Keeps, AllAreChecked}
use Rattle.zs_phys.specs.declared.phys.Status.TheVariants.{Scanning, Finished}
use Rattle.zs_scan.specs.Steps.{IsComplete, IsDrained, checkpointed, finished}
use Rattle.zs_scan.proofs.Pauses.{scanning}
use Rattle.zs_scan.proofs.Later.{later_keeps}
use Rattle.zs_script.specs.declared.refusal.Refusal.{Refusal}
use Rattle.zs_machine.specs.declared.event.Stage.TheVariants.{Labelling}
use Rattle.zs_machine.specs.Machine.{PoolState, Data, Txg, is_running}
use Rattle.zs_machine.specs.Replies.{after_tasks, task_answers}
use Rattle.zs_machine.specs.Steps.{EndStep, Saves, after_data}
use Rattle.zs_core.specs.View.{data_of, scan_of}
use Rattle.zs_core.specs.Applying.{IsTended, Space}
use Rattle.zs_core.specs.Kept.{born_by}
use Rattle.zs_core.specs.Placed.{room_of}
use Rattle.zs_core.specs.Ending.{EndsWith, SavesIfDrained}
use Rattle.zs_core.specs.Running.{KeepsRest}
use Rattle.zs_core.specs.Synced.{EndsIfComplete}

-- a scan that finished has ended
pub ends_done : (t : ℕ) (old new : ScanView) → IsComplete old → new ≡ finished old → Keeps old new
    → ((room : Room) (g : Graph) (n h : ℕ) → IsScanOf room g n h old → AllAreChecked g old.scope old.checked) → EndsWith t old true new
ends_done t old new complete is keeps all = record { complete = (λ _. complete, λ _. refl); done = λ _. is; saves = λ no. absurd (true≢false no); keeps = keeps; all = λ _. all }

-- a scan that goes on has made a checkpoint where it might
pub ends_saved : (t : ℕ) (old new : ScanView) → (IsComplete old → ⊥) → SavesIfDrained t old new → Keeps old new → EndsWith t old false new
ends_saved t old new none saves keeps =
    record { complete = (λ no. absurd (true≢false (sym no)), λ complete. absurd (none complete)); done = λ no. absurd (true≢false (sym no)); saves = λ _. saves; keeps = keeps; all = λ no. absurd (true≢false (sym no)) }

-- no checkpoint is made where no scan is running
pub saves_none : (t : ℕ) (old : ScanView) → runs old.run.status ≡ false → SavesIfDrained t old old
saves_none t old rests = inr (λ at. true≢false (sym (ap runs at.scans) ∙ rests), refl)

-- where one is, it is made just where nothing waits and no batch is in flight
pub saves_if : (t : ℕ) (old new : ScanView) (made : Bool) → runs old.run.status ≡ true → (IsTrue made ↔ IsDrained old) → (made ≡ true → new ≡ checkpointed t old) → (made ≡ false → new ≡ old) → SavesIfDrained t old new
saves_if t old new true running drained done rest = inl (record { scans = scanning old.run.status running; drained = drained.0 refl }, done refl)
saves_if t old new false running drained done rest = inr (λ at. true≢false (sym (drained.1 at.drained)), rest refl)

-- a scan that may make a checkpoint keeps its limit, its width and what is in flight
saved_rest : (t : ℕ) (old new : ScanView) → SavesIfDrained t old new → KeepsRest old new
saved_rest t old new (inl made) = record { limit = ap (λ (v : ScanView). v.limit) made.1; every = ap (λ (v : ScanView). v.every) made.1; width = ap (λ (v : ScanView). v.scope.width) made.1; flight = ap (λ (v : ScanView). v.flight) made.1 }
saved_rest t old new (inr none) = record { limit = ap (λ (v : ScanView). v.limit) none.1; every = ap (λ (v : ScanView). v.every) none.1; width = ap (λ (v : ScanView). v.scope.width) none.1; flight = ap (λ (v : ScanView). v.flight) none.1 }

-- and so does one that ends
pub ended_rest : (t : ℕ) (old new : ScanView) (b : Bool) → EndsWith t old b new → KeepsRest old new
ended_rest t old new true ends = record { limit = ap (λ (v : ScanView). v.limit) (ends.done refl); every = ap (λ (v : ScanView). v.every) (ends.done refl); width = ap (λ (v : ScanView). v.scope.width) (ends.done refl); flight = ap (λ (v : ScanView). v.flight) (ends.done refl) }
ended_rest t old new false ends = saved_rest t old new (ends.saves refl)

-- a scan ends where it is complete, and else makes a checkpoint where it may
pub ended_if_complete : (t : ℕ) (old new : ScanView) (b : Bool) → EndsWith t old b new → EndsIfComplete t old new
ended_if_complete t old new true ends = inl (ends.complete.0 refl, ends.done refl)
ended_if_complete t old new false ends = inr (λ complete. true≢false (sym (ends.complete.1 complete)), ends.saves refl)

-- where the scan went on, none is complete after
saved_never : (t : ℕ) (old new : ScanView) → (IsComplete old → ⊥) → SavesIfDrained t old new → IsComplete new → ⊥
saved_never t old new none (inl made) complete =
    let c : IsComplete (checkpointed t old) = subst IsComplete made.1 complete in
    none (record { scans = c.scans; goes_on = c.goes_on; nowhere = c.nowhere; walked = c.walked; drained = c.drained; landed = c.landed })
saved_never t old new none (inr same) complete = none (subst IsComplete same.1 complete)

pub ended_never : (t : ℕ) (old new : ScanView) (b : Bool) → EndsWith t old b new → IsComplete new → ⊥
ended_never t old new true ends complete =
    let c : IsComplete (finished old) = subst IsComplete (ends.done refl) complete in
    let never : Finished ≡ Scanning = c.scans in cc
ended_never t old new false ends complete = saved_never t old new (λ was. true≢false (sym (ends.complete.1 was))) (ends.saves refl) complete

-- where nothing waits or flies, a scan that goes on has made a checkpoint
pub ended_saved : (t : ℕ) (old new : ScanView) (b : Bool) → EndsWith t old b new → IsDrained old → runs new.run.status ≡ true → new.saved ≡ t
ended_saved t old new true ends was running =
    let over : runs Finished ≡ true = ap (λ (v : ScanView). runs v.run.status) (sym (ends.done refl)) ∙ running in cc
ended_saved t old new false ends was running = elim (ends.saves refl) [
  | inl made ↦ ap (λ (v : ScanView). v.saved) made.1
  | inr none ↦ absurd (none.0 (record { scans = scanning old.run.status (ap (λ (v : ScanView). runs v.run.status) (sym none.1) ∙ running); drained = was }))
]

-- the scope of a scan ends by the transaction group after the one whose tasks come next
pub ends_by : (room : Room) (g : Graph) (n t : ℕ) (v : ScanView) → IsScanOf room g n t v → v.scope.max ≤ t + 1
ends_by room g n t v scan = go scan.covered.sound.ends
  where
    go : EndsBy t v.scope v.run → v.scope.max ≤ t + 1
    go (past by) = omega (arith, by)
    go (started at by todo) = by
    go (canceled at by status) = by

-- a scan of the datasets of t is one where the tasks of the next transaction group come next
pub next_scanned : (room : Room) (g : Graph) (t : ℕ) (v : ScanView) → 1 ≤ t → IsScanOf room g t t v → IsScanOf room g (born_by t) (t + 1) v
next_scanned room g t v since scan =
    let born : t ≡ born_by t = omega (arith, since) in
    subst (λ (n : ℕ). IsScanOf room g n (t + 1) v) born (later_keeps room g t t (t + 1) v (omega arith) scan)

-- what the machine has of a scan after a checkpoint, or where none is made
saved_step : (s : PoolState) (t : ℕ) (old new : ScanView) → s.scan ≡ scan_of old → SavesIfDrained t old new → (Saves s (record s { scan = scan_of new; finished = false })) ⊎ (record s { scan = scan_of new; finished = false } ≡ record s { finished = false })
saved_step s t old new is (inl made) = inl (record { running = ap is_running is ∙ ap runs made.0.scans; saved = rw (is, made.1) refl })
saved_step s t old new is (inr none) = inr (rw (is, none.1) refl)

-- the scan ends as the machine allows, or makes a checkpoint, or goes on
pub end_step : (s : PoolState) (txg : Txg) (d : Data) (space : Space) (g : GraphView) (old new : ScanView) (answers : List (Option Refusal)) (b : Bool)
    → after_tasks txg.txg d txg.tasks ≡ data_of g old → answers ≡ task_answers txg.txg d txg.tasks → IsTended space txg.txg g.sets old → EndsWith txg.txg old b new
    → EndStep (after_data s txg d) (record s { graph = g.sets; next_id = g.next; scan = scan_of new; applied = txg.txg; closed = None; stage = Labelling; answers = answers; finished = b })
end_step s txg d space g old new answers true after is tended ends =
    let complete : IsComplete old = ends.complete.0 refl in
    rw (after, is) (inl (record {
      running = ap runs complete.scans;
      unpaused = complete.goes_on;
      all = ends.all refl (room_of space.start space.end tended.blocks) g.sets txg.txg txg.txg tended.scan;
      finished = rw (ends.done refl) refl;
    }))
end_step s txg d space g old new answers false after is tended ends =
    rw (after, is) (inr (saved_step (record s { graph = g.sets; next_id = g.next; scan = scan_of old; applied = txg.txg; closed = None; stage = Labelling; answers = task_answers txg.txg d txg.tasks; finished = s.finished }) txg.txg old new refl (ends.saves refl)))
