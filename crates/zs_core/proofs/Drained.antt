-- What the tasks of a transaction group leave of a scan of which nothing waits or is in flight; and what none leave.
use Rattle.std.specs.Prelude.{◌≡◌, ℕ, Bool, true, false, List, [], ◌∷◌, Option, Some, None, is_some, refl}
use Rattle.std.proofs.Common.{sym, ◌∙◌, ap, subst}
use Rattle.std.proofs.lemmas.Bool.{true≢false}
use Rattle.zs_ids.specs.Graph.{Dataset}
use Rattle.zs_ids.specs.GraphTree.{dataset_named}
use Rattle.zs_ids.specs.declared.block.Piece.{Piece}
use Rattle.zs_ids.specs.declared.block.Item.{Item}
use Rattle.zs_graph.specs.Refusals.{destroy_refusal, snapshot_refusal, swap_refusal}
use Rattle.zs_phys.specs.Handlers.{Event as events}
use Rattle.zs_queue.specs.Waiting.{without}
use Rattle.zs_txg.specs.declared.task.Task.{Task}
use Rattle.zs_txg.specs.declared.task.Task.TheVariants as task
use Rattle.zs_walk.specs.Walking.{runs}
use Rattle.zs_scan.specs.View.{ScanView}
use Rattle.zs_scan.specs.Steps.{IsDrained, after_start, scrub_started, stopped, with_paused}
use Rattle.zs_script.specs.declared.refusal.Refusal.{Refusal}
use Rattle.zs_script.specs.declared.refusal.Refusal.TheVariants.{NoDataset}
use Rattle.zs_machine.specs.Machine.{Data, Txg}
use Rattle.zs_machine.specs.Replies.{after_run, head_named, refusal_on, refusal_on_both, task_refusal}
use Rattle.zs_core.specs.declared.parts.Closed.{Closed}
use Rattle.zs_core.specs.View.{closed_of, tasks_in}
use Rattle.zs_core.specs.Running.{HasHandled, HasSeen, HaveRun}

-- where no task is queued in the closed group, it has none
pub tasks_none : (o : Option Closed) (c : Closed) → o ≡ Some c → tasks_in (closed_of o) ≡ [] → c.txg.tasks ≡ []
tasks_none o c is none = ap (λ (x : Option Closed). tasks_in (closed_of x)) (sym is) ∙ none

-- where none ran, the scan is as it was
pub ran_none : (txg : ℕ) (d : Data) (ts : List (ℕ × Task)) (v w : ScanView) (P : ScanView → Type 0) → ts ≡ [] → HaveRun txg d ts v w → P v → P w
ran_none txg d ts v w P none run was = subst P (sym (subst (λ (l : List (ℕ × Task)). HaveRun txg d l v w) none run)) was

-- pieces that are freed leave nothing waiting
pub freed_drained : (old new : ScanView) (pieces : List Piece) → new ≡ record old { waiting = without old.waiting pieces; marks = new.marks; room = new.room } → IsDrained old → IsDrained new
freed_drained old new pieces is was = subst IsDrained (sym is) (record { drained = ap (λ (l : List (Piece × Item)). without l pieces) was.drained; landed = was.landed })

-- an event of the datasets leaves what waits and what is in flight
handled_drained : (old new : ScanView) → new ≡ record old { run = new.run; kept = new.kept } → IsDrained old → IsDrained new
handled_drained old new is was = subst IsDrained (sym is) (record { drained = was.drained; landed = was.landed })

-- a scrub that starts, or goes on, has nothing waiting either
start_drained : (t : ℕ) (old new : ScanView) → new ≡ record (after_start t 0 old) { room = new.room } → IsDrained old → IsDrained new
start_drained t old new is was = by (runs old.run.status) refl
  where
    by : (b : Bool) → runs old.run.status ≡ b → IsDrained new
    by true on = subst IsDrained (sym (rw on at is)) (record { drained = was.drained; landed = was.landed })
    by false off = subst IsDrained (sym (rw off at is)) (record { drained = refl; landed = was.landed })

no_refusal : {A : Type 0} (why : Refusal) → Some why ≡ None → A
no_refusal why is = absurd (true≢false (ap is_some is))

-- why a swap of two heads is refused, where they are there
abbrev swap_why : Data → Option Dataset → Option Dataset → Option Refusal
swap_why d o p = refusal_on_both o p (λ a b. swap_refusal (record { sets = d.graph; next = d.next_id }) a.id b.id)

-- a task that is not refused leaves nothing waiting
seen_drained : (txg : ℕ) (d : Data) (t : Task) (v w : ScanView) → task_refusal txg d t ≡ None → HasSeen txg d t v w → IsDrained v → IsDrained w
seen_drained txg d (task.Fs name) v w none seen was = subst IsDrained (sym seen) was
seen_drained txg d (task.Snap head label) v w none seen was = go (head_named d.graph head) refl
  where
    go : (o : Option Dataset) → head_named d.graph head ≡ o → IsDrained w
    go None is = no_refusal NoDataset (sym (ap (λ (o : Option Dataset). refusal_on o (λ h. snapshot_refusal (record { sets = d.graph; next = d.next_id }) h.id label txg)) is) ∙ none)
    go (Some h) is = handled_drained v w (seen h is).rest was
seen_drained txg d (task.Clone ds name) v w none seen was = subst IsDrained (sym seen) was
seen_drained txg d (task.Destroy ds) v w none seen was = go (dataset_named d.graph ds) refl
  where
    go : (o : Option Dataset) → dataset_named d.graph ds ≡ o → IsDrained w
    go None is = no_refusal NoDataset (sym (ap (λ (o : Option Dataset). refusal_on o (λ h. destroy_refusal (record { sets = d.graph; next = d.next_id }) h.id)) is) ∙ none)
    go (Some gone) is = let s = seen gone is in freed_drained s.moved w (s.lost).pieces (s.lost).freed.rest (handled_drained v s.moved (s.handled).rest was)
seen_drained txg d (task.Swap first second) v w none seen was = go (head_named d.graph first) (head_named d.graph second) refl refl
  where
    go : (o p : Option Dataset) → head_named d.graph first ≡ o → head_named d.graph second ≡ p → IsDrained w
    go None p is also = no_refusal NoDataset (sym (ap (λ (o : Option Dataset). swap_why d o (head_named d.graph second)) is) ∙ none)
    go (Some a) None is also = no_refusal NoDataset (sym (ap (λ (o : Option Dataset). swap_why d o (head_named d.graph second)) is ∙ ap (λ (p : Option Dataset). swap_why d (Some a) p) also) ∙ none)
    go (Some a) (Some b) is also = handled_drained v w (seen a b is also).rest was
seen_drained txg d task.Scrub v w none seen was = start_drained txg v w seen was
seen_drained txg d task.Pause v w none seen was = subst IsDrained (sym seen) (record { drained = was.drained; landed = was.landed })
seen_drained txg d task.Resume v w none seen was = subst IsDrained (sym seen) (record { drained = was.drained; landed = was.landed })
seen_drained txg d task.Stop v w none seen was = subst IsDrained (sym seen) (record { drained = refl; landed = was.landed })

-- nor do all of them
pub ran_drained : (txg : ℕ) (d : Data) (ts : List (ℕ × Task)) (v w : ScanView) → HaveRun txg d ts v w → IsDrained v → IsDrained w
ran_drained txg d [] v w run was = subst IsDrained (sym run) was
ran_drained txg d (t ∷ ts) v w run was = ran_drained txg (after_run txg d t.1) ts run.0 w run.2 (one (task_refusal txg d t.1) refl)
  where
    one : (r : Option Refusal) → task_refusal txg d t.1 ≡ r → IsDrained run.0
    one None is = seen_drained txg d t.1 v run.0 is (rw is at run.1) was
    one (Some why) is = subst IsDrained (sym (rw is at run.1)) was
