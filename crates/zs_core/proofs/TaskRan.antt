-- What each task makes of the datasets and the scan, where it is done and where it is refused.
use Rattle.std.proofs.Common.{◌≡◌, ◌∙◌, ℕ, Bool, true, false, Option, refl, sym, ap, subst}
use Rattle.std.proofs.Common.{inl, inr}
use Rattle.std.specs.Prelude.{Some, None, Result, Ok, Err, OnOk, OnErr, IsTrue, not, ◌&&◌, ◌↔◌, ◌⊎◌, ◌+◌, is_some, option_map, if◌then◌else◌}
use Rattle.zs_ids.specs.declared.dataset.DsId.{DsId}
use Rattle.zs_ids.specs.declared.dataset.DsName.{DsName}
use Rattle.zs_ids.specs.declared.dataset.Name.{Name}
use Rattle.zs_ids.specs.Graph.{Dataset, Graph}
use Rattle.zs_ids.specs.GraphTree.{dataset_at, dataset_named}
use Rattle.zs_ids.specs.GraphChange.{with_snapshot, cloned, destroyed, swapped, MayDestroy}
use Rattle.zs_graph.specs.declared.fault.GraphFault.{GraphFault}
use Rattle.zs_graph.specs.declared.freed.Freed.{Freed}
use Rattle.zs_graph.specs.View.{GraphView, IsGraph}
use Rattle.zs_graph.specs.Refusals.{Answers, clone_refusal, snapshot_refusal, destroy_refusal, swap_refusal}
use Rattle.zs_graph.specs.Made.{IsCloned, IsSnapshotTaken, IsDestroyed, IsSwapped}
use Rattle.zs_graph.proofs.Lists.{from-find, some_is, some≢none}
use Rattle.zs_graph.proofs.Graphs.{dataset_is, id_is}
use Rattle.zs_txg.specs.declared.task.Task.{Task}
use Rattle.zs_txg.specs.declared.task.Task.TheVariants as task
use Rattle.zs_phys.specs.declared.phys.Phys.{Phys}
use Rattle.zs_phys.specs.declared.phys.Status.{Status}
use Rattle.zs_phys.specs.declared.phys.At.TheVariants.{Destroyed}
use Rattle.zs_phys.specs.Handlers.{Event, Event as events, handled, is_on, dropped}
use Rattle.zs_walk.specs.Walking.{runs}
use Rattle.zs_scan.specs.View.{ScanView}
use Rattle.zs_scan.specs.Steps.{is_scrubbing, stopped, with_paused}
use Rattle.zs_scan.specs.declared.batch.ScanFault.{ScanFault}
use Rattle.zs_scan.specs.declared.batch.ScanFault.TheVariants as faults
use Rattle.zs_script.specs.declared.refusal.Refusal.TheVariants.{NoScan, NotPaused, Paused}
use Rattle.zs_script.specs.declared.refusal.Refusal.{Refusal}
use Rattle.zs_machine.specs.Machine.{Data, ScanState}
use Rattle.zs_machine.specs.Replies.{after_task, head_named, refusal_on, refusal_on_both, task_refusal, told_as, with_one_more, data_with}
use Rattle.zs_core.specs.View.{data_of, scan_of}
use Rattle.zs_core.specs.Freeing.{HasLost}
use Rattle.zs_core.specs.Running.{HasHandled, HasSeen, HasSeenDestroyed, RanTask, refusal_by}

-- a call that is done was not refused
pub answers_ok : {A : Type 0} (r : Option GraphFault) (x : A) → Answers r (Ok x) → r ≡ None
answers_ok None x a = refl
answers_ok (Some why) x a = absurd cc

module _ (txg : ℕ) (t : Task) (old : GraphView) (v : ScanView) where
  abbrev before : Data
  before = data_of old v

  -- a task that is not refused is done
  pub ran_done : (new : GraphView) (w : ScanView) → task_refusal txg before t ≡ None → data_of new w ≡ after_task txg before t → HasSeen txg before t v w
      → RanTask txg t old v None new w
  ran_done new w none is seen = record {
    answer = sym none;
    after = is ∙ sym (ap (λ (r : Option Refusal). if is_some r then before else after_task txg before t) none);
    seen = rw none seen;
  }

-- an id is that of its number
abbrev numbered : ℕ → DsId
numbered n = record { 0 = n }

numbered_is : (id : DsId) (n : ℕ) → id.0 ≡ n → id ≡ numbered n
numbered_is id n is = ap numbered is

-- the data with one dataset more
one_more : (old new : GraphView) (v : ScanView) (g : DsId → Graph) (id : DsId) → new.sets ≡ g id → id.0 ≡ old.next → new.next ≡ old.next + 1
    → data_of new v ≡ with_one_more (data_of old v) (g (numbered old.next))
one_more old new v g id is number next =
    ap (λ (x : GraphView). data_of x v) (same ∙ ap (λ (n : ℕ). let w : GraphView = record { sets = g (numbered old.next); next = n } in w) next)
  where
    same : new ≡ record { sets = g (numbered old.next); next = new.next }
    same = ap (λ (l : Graph). let w : GraphView = record { sets = l; next = new.next } in w) (is ∙ ap g (numbered_is id old.next number))

-- where a search finds a dataset by its name, its id leads to it
pub found_at : (v : GraphView) → IsGraph v → (name : DsName) (id : DsId) → Some id ≡ option_map (λ d. d.id) (dataset_named v.sets name)
    → (d : Dataset) × (dataset_named v.sets name ≡ Some d) × (d.id ≡ id) × (dataset_at v.sets id ≡ Some d)
found_at v valid name id found = go (dataset_named v.sets name) refl found
  where
    go : (o : Option Dataset) → dataset_named v.sets name ≡ o → Some id ≡ option_map (λ d. d.id) o → (d : Dataset) × (dataset_named v.sets name ≡ Some d) × (d.id ≡ id) × (dataset_at v.sets id ≡ Some d)
    go None is e = absurd (some≢none id e)
    go (Some d) is e =
        let same : d.id ≡ id = sym (some_is id d.id e) in
        (d, is, same, dataset_is v.sets valid.valid.tree.in_order d id (from-find _ v.sets d is).0 same)

-- what an id leads to has that id
pub id_at : (g : Graph) (id : DsId) (d : Dataset) → dataset_at g id ≡ Some d → d.id ≡ id
id_at g id d is = id_is d.id id (from-find _ g d is).1

-- why a task on a dataset that is there is refused
refusal_there : (o : Option Dataset) (d : Dataset) (why : Dataset → Option GraphFault) (r : Option GraphFault) → o ≡ Some d → why d ≡ r → refusal_on o why ≡ told_as r
refusal_there o d why r is same = ap (λ (x : Option Dataset). refusal_on x why) is ∙ ap told_as same

-- the walk's state without a dataset that has no child
abbrev left_out : DsId → Phys → Bool → Phys
left_out id s b = if b then record s { at = Destroyed; curmin = 0; curmax = 0; again = false; todo = dropped id s.todo } else record s { todo = dropped id s.todo }

left_out_status : (id : DsId) (s : Phys) (b : Bool) → ((left_out id s b).status ≡ s.status) × ((left_out id s b).paused ≡ s.paused)
left_out_status id s true = (refl, refl)
left_out_status id s false = (refl, refl)

-- an event of the datasets leaves what the machine knows of the scan
status_of : (e : Event) (s : Phys) → ((handled e s).status ≡ s.status) × ((handled e s).paused ≡ s.paused)
status_of (events.snapshot_taken head snap) s = (refl, refl)
status_of (events.destroyed id (Some next)) s = (refl, refl)
status_of (events.destroyed id None) s = left_out_status id s (is_on s.at id)
status_of (events.swapped a b) s = (refl, refl)
status_of (events.went_away dev) s = (refl, refl)

pub handled_scan : (v w : ScanView) (e : Event) → HasHandled v e w → scan_of w ≡ scan_of v
handled_scan v w e h =
    let both = status_of e v.run in
    ap (λ (x : ScanView). scan_of x) h.rest
    ∙ ap (λ (s : Status). record (scan_of v) { status = s; paused = w.run.paused }) (ap (λ (p : Phys). p.status) h.run ∙ both.0)
    ∙ ap (λ (b : Bool). record (scan_of v) { paused = b }) (ap (λ (p : Phys). p.paused) h.run ∙ both.1)

-- data with a scan of which the machine knows the same
same_scan : (g : GraphView) (v w : ScanView) → scan_of w ≡ scan_of v → data_of g w ≡ data_of g v
same_scan g v w is = ap (λ (x : ScanState). let d : Data = record { graph = g.sets; next_id = g.next; scan = x } in d) is

-- a snapshot is taken
module _ (txg : ℕ) (head label : Name) (old : GraphView) (v : ScanView) (h : Dataset) (id : DsId) (named : head_named old.sets head ≡ Some h) (is : h.id ≡ id) (at : dataset_at old.sets id ≡ Some h) where
  abbrev snap_is : (r : Option GraphFault) → snapshot_refusal old id label txg ≡ r → task_refusal txg (data_of old v) (task.Snap head label) ≡ told_as r
  snap_is r same = refusal_there (head_named old.sets head) h (λ x. snapshot_refusal old x.id label txg) r named (ap (λ (i : DsId). snapshot_refusal old i label txg) is ∙ same)

  pub snap_ran : (new : GraphView) (w : ScanView) (snap : DsId) → snapshot_refusal old id label txg ≡ None → IsSnapshotTaken old id label txg snap new → HasHandled v (events.snapshot_taken id snap) w
      → RanTask txg (task.Snap head label) old v None new w
  snap_ran new w snap none made handled =
      ran_done txg (task.Snap head label) old v new w (snap_is None none)
      (scan_is ∙ one_more old new v (λ i. with_snapshot old.sets h i label txg) snap (made.now ∙ ap (λ (x : Dataset). with_snapshot old.sets x snap label txg) of_is) made.added.number made.added.next ∙ sym (ap (λ (o : Option Dataset). data_with (data_of old v) o (λ x. with_one_more (data_of old v) (with_snapshot old.sets x (numbered old.next) label txg))) named))
      (λ x here. subst (λ (i : DsId). HasHandled v (events.snapshot_taken i (numbered old.next)) w) (sym (ap (λ (y : Dataset). y.id) (some_is x h (sym here ∙ named)) ∙ is)) (subst (λ (i : DsId). HasHandled v (events.snapshot_taken id i) w) (numbered_is snap old.next made.added.number) handled))
    where
      of_is : made.of ≡ h
      of_is = some_is made.of h (sym made.here ∙ at)

      scan_is : data_of new w ≡ data_of new v
      scan_is = same_scan new v w (handled_scan v w (events.snapshot_taken id snap) handled)

-- a clone is made
module _ (txg : ℕ) (ds : DsName) (name : Name) (old : GraphView) (v : ScanView) (on : Dataset) (id : DsId) (named : dataset_named old.sets ds ≡ Some on) (is : on.id ≡ id) (at : dataset_at old.sets id ≡ Some on) where
  abbrev clone_is : (r : Option GraphFault) → clone_refusal old id name ≡ r → task_refusal txg (data_of old v) (task.Clone ds name) ≡ told_as r
  clone_is r same = refusal_there (dataset_named old.sets ds) on (λ x. clone_refusal old x.id name) r named (ap (λ (i : DsId). clone_refusal old i name) is ∙ same)

  pub clone_ran : (new : GraphView) (made_id : DsId) → clone_refusal old id name ≡ None → IsCloned old id name made_id new → RanTask txg (task.Clone ds name) old v None new v
  clone_ran new made_id none made =
      ran_done txg (task.Clone ds name) old v new v (clone_is None none)
      (one_more old new v (λ i. cloned old.sets on i name) made_id (made.now ∙ ap (λ (x : Dataset). cloned old.sets x made_id name) (some_is made.on on (sym made.here ∙ at))) made.added.number made.added.next ∙ sym (ap (λ (o : Option Dataset). data_with (data_of old v) o (λ x. with_one_more (data_of old v) (cloned old.sets x (numbered old.next) name))) named))
      refl

-- a dataset is destroyed
module _ (txg : ℕ) (ds : DsName) (old : GraphView) (v : ScanView) (gone : Dataset) (id : DsId) (named : dataset_named old.sets ds ≡ Some gone) (is : gone.id ≡ id) (at : dataset_at old.sets id ≡ Some gone) where
  abbrev destroy_is : (r : Option GraphFault) → destroy_refusal old id ≡ r → task_refusal txg (data_of old v) (task.Destroy ds) ≡ told_as r
  destroy_is r same = refusal_there (dataset_named old.sets ds) gone (λ x. destroy_refusal old x.id) r named (ap (λ (i : DsId). destroy_refusal old i) is ∙ same)

  pub destroy_ran : (new : GraphView) (moved w : ScanView) (freed : Freed) → destroy_refusal old id ≡ None → IsDestroyed old id freed new → HasHandled v (events.destroyed id freed.next) moved
      → HasLost old.sets new.sets moved w → scan_of w ≡ scan_of moved → RanTask txg (task.Destroy ds) old v None new w
  destroy_ran new moved w freed none made handled lost same =
      ran_done txg (task.Destroy ds) old v new w (destroy_is None none)
      (same_scan new v w (same ∙ handled_scan v moved (events.destroyed id freed.next) handled)
      ∙ ap (λ (x : GraphView). data_of x v) (made.now ∙ ap (λ (x : Dataset). let y : GraphView = record old { sets = destroyed old.sets x } in y) gone_is)
      ∙ sym (ap (λ (o : Option Dataset). data_with (data_of old v) o (λ x. record (data_of old v) { graph = destroyed old.sets x })) named))
      (λ x here. subst (λ (y : Dataset). HasSeenDestroyed old.sets y v w) (some_is gone x (sym named ∙ here)) (record {
        next = freed.next;
        only = subst (λ (y : Dataset). MayDestroy old.sets y freed.next) gone_is made.may;
        moved = moved;
        handled = subst (λ (i : DsId). HasHandled v (events.destroyed i freed.next) moved) (sym is) handled;
        lost = subst (λ (g : Graph). HasLost old.sets g moved w) (ap (λ (x : GraphView). x.sets) made.now ∙ ap (λ (x : Dataset). destroyed old.sets x) gone_is) lost;
      }))
    where
      gone_is : made.gone ≡ gone
      gone_is = some_is made.gone gone (sym made.here ∙ at)

-- two heads are swapped
module _ (txg : ℕ) (first second : Name) (old : GraphView) (v : ScanView) (x y : Dataset) (a b : DsId) (named : head_named old.sets first ≡ Some x) (other_named : head_named old.sets second ≡ Some y) (is : x.id ≡ a) (other_is : y.id ≡ b) (at : dataset_at old.sets a ≡ Some x) (other_at : dataset_at old.sets b ≡ Some y) where
  abbrev swap_is : (r : Option GraphFault) → swap_refusal old a b ≡ r → task_refusal txg (data_of old v) (task.Swap first second) ≡ told_as r
  swap_is r same =
      ap (λ (o : Option Dataset). refusal_on_both o (head_named old.sets second) (λ p q. swap_refusal old p.id q.id)) named
      ∙ ap (λ (o : Option Dataset). refusal_on_both (Some x) o (λ p q. swap_refusal old p.id q.id)) other_named
      ∙ ap told_as (ap (λ (i : DsId). swap_refusal old i y.id) is ∙ ap (λ (i : DsId). swap_refusal old a i) other_is ∙ same)

  pub swap_ran : (new : GraphView) (w : ScanView) → swap_refusal old a b ≡ None → IsSwapped old a b new → HasHandled v (events.swapped a b) w → RanTask txg (task.Swap first second) old v None new w
  swap_ran new w none made handled =
      ran_done txg (task.Swap first second) old v new w (swap_is None none)
      (same_scan new v w (handled_scan v w (events.swapped a b) handled)
      ∙ ap (λ (z : GraphView). data_of z v) (made.now ∙ ap (λ (p : Dataset). let z : GraphView = record old { sets = swapped old.sets p made.second } in z) (some_is made.first x (sym made.first_here ∙ at)) ∙ ap (λ (q : Dataset). let z : GraphView = record old { sets = swapped old.sets x q } in z) (some_is made.second y (sym made.second_here ∙ other_at)))
      ∙ sym (ap (λ (o : Option Dataset). data_with (data_of old v) o (λ p. data_with (data_of old v) (head_named old.sets second) (λ q. record (data_of old v) { graph = swapped old.sets p q }))) named ∙ ap (λ (o : Option Dataset). data_with (data_of old v) o (λ q. record (data_of old v) { graph = swapped old.sets x q })) other_named))
      (λ p q one two. subst (λ (i : DsId). HasHandled v (events.swapped i q.id) w) (sym (ap (λ (d : Dataset). d.id) (some_is p x (sym one ∙ named)) ∙ is)) (subst (λ (i : DsId). HasHandled v (events.swapped a i) w) (sym (ap (λ (d : Dataset). d.id) (some_is q y (sym two ∙ other_named)) ∙ other_is)) handled))

-- a task that is refused changes nothing
pub ran_refused : (txg : ℕ) (t : Task) (g : GraphView) (v w : ScanView) (why : Refusal) → task_refusal txg (data_of g v) t ≡ Some why → w ≡ v → RanTask txg t g v (Some why) g w
ran_refused txg t g v w why refused same = record {
  answer = sym refused;
  after = ap (λ (x : ScanView). data_of g x) same ∙ sym (ap (λ (r : Option Refusal). if is_some r then data_of g v else after_task txg (data_of g v) t) refused);
  seen = rw refused same;
}

is_yes : (b : Bool) → (IsTrue (not b) → ⊥) → b ≡ true
is_yes true not_so = refl
is_yes false not_so = absurd (not_so refl)

is_no : (b : Bool) → (IsTrue b → ⊥) → b ≡ false
is_no true not_so = absurd (not_so refl)
is_no false not_so = refl

yes_not : (b : Bool) → IsTrue (not b) → b ≡ false
yes_not true h = cc
yes_not false h = refl

left_of : (a b : Bool) → IsTrue (a && b) → a ≡ true
left_of true b both = refl
left_of false b both = cc

right_of : (a b : Bool) → IsTrue (a && b) → b ≡ true
right_of true b both = both
right_of false b both = cc

ok≢err : {A E : Type 0} (x : A) (e : E) → Ok x ≡ Err e → ⊥
ok≢err x e is = cc

-- a scrub is paused, or that is refused
pub pause_ran : {A : Type 0} (txg : ℕ) (g : GraphView) (v w : ScanView) (r : Result A ScanFault) → ((r ≡ Err faults.NoScan) ↔ IsTrue (not (is_scrubbing v))) → ((r ≡ Err faults.Paused) ↔ IsTrue (is_scrubbing v && v.run.paused))
    → OnErr r ((r ≡ Err faults.NoScan) ⊎ (r ≡ Err faults.Paused)) → OnOk r (w ≡ with_paused true v) → OnErr r (w ≡ v) → RanTask txg task.Pause g v (refusal_by r) g w
pause_ran {A = A} txg g v w (Ok x) no_scan paused why ok err =
    let scrubs : is_scrubbing v ≡ true = is_yes (is_scrubbing v) (λ no. ok≢err x faults.NoScan (no_scan.1 no)) in
    let goes_on : (is_scrubbing v && v.run.paused) ≡ false = is_no (is_scrubbing v && v.run.paused) (λ yes. ok≢err x faults.Paused (paused.1 yes)) in
    let unpaused : v.run.paused ≡ false = ap (λ b. b && v.run.paused) (sym scrubs) ∙ goes_on in
    ran_done txg task.Pause g v g w (ap (λ b. if b then (if v.run.paused then Some Paused else None) else Some NoScan) scrubs ∙ ap (λ b. if b then Some Paused else None) unpaused) (ap (λ (x : ScanView). data_of g x) ok) ok
pause_ran {A = A} txg g v w (Err e) no_scan paused why ok err = elim why [
  | inl none ↦ subst (λ (r : Result A ScanFault). RanTask txg task.Pause g v (refusal_by r) g w) (sym none) (ran_refused txg task.Pause g v w NoScan (ap (λ b. if b then (if v.run.paused then Some Paused else None) else Some NoScan) (yes_not (is_scrubbing v) (no_scan.0 none))) err)
  | inr rests ↦ let both = paused.0 rests in
      subst (λ (r : Result A ScanFault). RanTask txg task.Pause g v (refusal_by r) g w) (sym rests)
      (ran_refused txg task.Pause g v w Paused (ap (λ b. if b then (if v.run.paused then Some Paused else None) else Some NoScan) (left_of (is_scrubbing v) v.run.paused both) ∙ ap (λ b. if b then Some Paused else None) (right_of (is_scrubbing v) v.run.paused both)) err)
]

-- a paused scrub goes on, or that is refused
pub resume_ran : {A : Type 0} (txg : ℕ) (g : GraphView) (v w : ScanView) (r : Result A ScanFault) → ((r ≡ Err faults.NotPaused) ↔ IsTrue (not (is_scrubbing v && v.run.paused))) → OnErr r (r ≡ Err faults.NotPaused)
    → OnOk r (w ≡ with_paused false v) → OnErr r (w ≡ v) → RanTask txg task.Resume g v (refusal_by r) g w
resume_ran {A = A} txg g v w (Ok x) not_paused why ok err =
    let rests : (is_scrubbing v && v.run.paused) ≡ true = is_yes (is_scrubbing v && v.run.paused) (λ no. ok≢err x faults.NotPaused (not_paused.1 no)) in
    ran_done txg task.Resume g v g w (ap (λ b. if b then None else Some NotPaused) rests) (ap (λ (x : ScanView). data_of g x) ok) ok
resume_ran {A = A} txg g v w (Err e) not_paused why ok err =
    subst (λ (r : Result A ScanFault). RanTask txg task.Resume g v (refusal_by r) g w) (sym why)
    (ran_refused txg task.Resume g v w NotPaused (ap (λ b. if b then None else Some NotPaused) (yes_not (is_scrubbing v && v.run.paused) (not_paused.0 why))) err)

-- a scan is stopped, or that is refused
pub stop_ran : {A : Type 0} (txg : ℕ) (g : GraphView) (v w : ScanView) (r : Result A ScanFault) → ((r ≡ Err faults.NoScan) ↔ IsTrue (not (runs v.run.status))) → OnErr r (r ≡ Err faults.NoScan)
    → OnOk r (w ≡ stopped v) → OnErr r (w ≡ v) → RanTask txg task.Stop g v (refusal_by r) g w
stop_ran {A = A} txg g v w (Ok x) no_scan why ok err =
    let on : runs v.run.status ≡ true = is_yes (runs v.run.status) (λ no. ok≢err x faults.NoScan (no_scan.1 no)) in
    ran_done txg task.Stop g v g w (ap (λ b. if b then None else Some NoScan) on) (ap (λ (x : ScanView). data_of g x) ok) ok
stop_ran {A = A} txg g v w (Err e) no_scan why ok err =
    subst (λ (r : Result A ScanFault). RanTask txg task.Stop g v (refusal_by r) g w) (sym why)
    (ran_refused txg task.Stop g v w NoScan (ap (λ b. if b then None else Some NoScan) (yes_not (runs v.run.status) (no_scan.0 why))) err)
