-- A scan that is reported as finished has checked all.
use Rattle.std.specs.Prelude.{◌≡◌, ◌==◌, ◌||◌, ℕ, ◌+◌, Bool, true, false, if◌then◌else◌, List, [], ◌∷◌, ◌++◌, drop, filter, length, unwrap_or, Option, Some, None, refl}
use Rattle.std.proofs.Common.{◌∙◌, sym, ap, subst, inl, inr}
use Rattle.zs_ids.specs.declared.block.Item.{Item}
use Rattle.zs_ids.specs.Graph.{Dataset}
use Rattle.zs_ids.specs.declared.dataset.DsName.{DsName}
use Rattle.zs_ledger.specs.declared.entry.Entry.{Entry}
use Rattle.zs_ledger.specs.Entry.{has_error}
use Rattle.zs_phys.specs.declared.phys.Status.TheVariants as statuses
use Rattle.zs_scan.specs.Covered.{AllAreChecked}
use Rattle.zs_script.specs.declared.command.Command.{Command}
use Rattle.zs_script.specs.declared.command.Command.TheVariants as command
use Rattle.zs_script.specs.declared.refusal.Refusal.{Refusal}
use Rattle.zs_script.specs.declared.refusal.Refusal.TheVariants.{Suspended, TxgEnd}
use Rattle.zs_script.specs.declared.reply.Finished.{Finished}
use Rattle.zs_script.specs.declared.reply.Reply.{Reply}
use Rattle.zs_script.specs.declared.reply.Reply.TheVariants as reply
use Rattle.zs_txg.specs.declared.task.Task.{Task}
use Rattle.zs_machine.specs.declared.event.Event.{Event}
use Rattle.zs_machine.specs.declared.event.OpenRead.{OpenRead}
use Rattle.zs_machine.specs.declared.event.ReadPlan.{ReadPlan}
use Rattle.zs_machine.specs.declared.event.ReadPlan.TheVariants as plan
use Rattle.zs_machine.specs.declared.event.Step.{Step}
use Rattle.zs_machine.specs.declared.event.Step.TheVariants as step
use Rattle.zs_machine.specs.declared.event.Stage.TheVariants as stages
use Rattle.zs_machine.specs.History.{Full, Run, IsHistory}
use Rattle.zs_machine.specs.Laws.{finished_in, HasCheckedAll}
use Rattle.zs_machine.specs.Machine.{PoolState, is_running}
use Rattle.zs_ids.specs.GraphTree.{dataset_named}
use Rattle.zs_machine.specs.Replies.{make_refusal, write_refusal, read_refusal, task_reply, after_queued}
use Rattle.zs_machine.specs.Status.{counted, kind_word}
use Rattle.zs_machine.specs.Steps.{Steps, CommandStep, LineStep, MakeStep, WriteStep, TaskStep, VerdictStep, ReadBeginStep, IsReadAnswer, DataStep, Begins, with_checked, committed_reply, finished_line}
use Rattle.zs_machine.specs.Told.{AreTold}

-- while a sync has applied its data and is not committed, a scan that came to its end in it has checked all
abbrev IsWhole : PoolState → Type 0
IsWhole s =
    s.stage ≡ stages.Labelling → s.finished ≡ true
    → (s.scan.status ≡ statuses.Finished) × AllAreChecked s.graph s.scan.scope s.scan.checked

same : (s t : PoolState) → IsWhole s → t ≡ s → IsWhole t
same s t whole is = subst (λ (x : PoolState). IsWhole x) (sym is) whole

-- a command changes the open transaction group alone
queued_keeps : (s t : PoolState) (by : ℕ) (q : Task) (answer : Reply) → IsWhole s → TaskStep s by q answer t → IsWhole t
queued_keeps s t by q answer whole is = same (after_queued s by q) t there is.1
  where
    there : IsWhole (after_queued s by q)
    there = elim (s.suspended || (s.open_txg.txg == 4294967295)) as (λ b. IsWhole (if b then s else record s { open_txg = record s.open_txg { tasks = s.open_txg.tasks ++ (by, q) ∷ [] } })) [ true ↦ whole | false ↦ whole ]

made_keeps : (s t : PoolState) (name : DsName) (object size fill : ℕ) (answer : Reply) → IsWhole s → MakeStep s name object size fill answer t → IsWhole t
made_keeps s t name object size fill answer whole is = go (make_refusal s name object) refl
  where
    found : (d : Option Dataset) → dataset_named s.graph name ≡ d → make_refusal s name object ≡ None → IsWhole t
    found None f e = elim (rw (e, f) at is) [ inl full ↦ same s t whole full.1 | inr none ↦ absurd none ]
    found (Some d) f e = elim (rw (e, f) at is) [
      | inl full ↦ same s t whole full.1
      | inr made ↦ subst (λ (x : PoolState). IsWhole x) (sym made.2) whole
    ]

    go : (r : Option Refusal) → make_refusal s name object ≡ r → IsWhole t
    go (Some why) e = same s t whole (rw e at is).1
    go None e = found (dataset_named s.graph name) refl e

written_keeps : (s t : PoolState) (name : DsName) (object leaf fill : ℕ) (answer : Reply) → IsWhole s → WriteStep s name object leaf fill answer t → IsWhole t
written_keeps s t name object leaf fill answer whole is = go (write_refusal s name object leaf) refl
  where
    found : (d : Option Dataset) → dataset_named s.graph name ≡ d → write_refusal s name object leaf ≡ None → IsWhole t
    found None f e = elim (rw (e, f) at is) [ inl full ↦ same s t whole full.1 | inr none ↦ absurd none ]
    found (Some d) f e = elim (rw (e, f) at is) [
      | inl full ↦ same s t whole full.1
      | inr made ↦ subst (λ (x : PoolState). IsWhole x) (sym made.2) whole
    ]

    go : (r : Option Refusal) → write_refusal s name object leaf ≡ r → IsWhole t
    go (Some why) e = same s t whole (rw e at is).1
    go None e = found (dataset_named s.graph name) refl e

command_keeps : (s t : PoolState) (by : ℕ) (c : Command) (answer : Reply) → IsWhole s → CommandStep s by c answer t → IsWhole t
command_keeps s t by (command.Fs name) answer whole is = queued_keeps s t by _ answer whole is
command_keeps s t by (command.Snap head label) answer whole is = queued_keeps s t by _ answer whole is
command_keeps s t by (command.Clone ds name) answer whole is = queued_keeps s t by _ answer whole is
command_keeps s t by (command.Destroy ds) answer whole is = queued_keeps s t by _ answer whole is
command_keeps s t by (command.Swap first second) answer whole is = queued_keeps s t by _ answer whole is
command_keeps s t by command.Scrub answer whole is = queued_keeps s t by _ answer whole is
command_keeps s t by command.Pause answer whole is = queued_keeps s t by _ answer whole is
command_keeps s t by command.Resume answer whole is = queued_keeps s t by _ answer whole is
command_keeps s t by command.Stop answer whole is = queued_keeps s t by _ answer whole is
command_keeps s t by (command.Make ds object levels size fill) answer whole is = made_keeps s t ds object size fill answer whole is
command_keeps s t by (command.Write ds object leaf fill) answer whole is = written_keeps s t ds object leaf fill answer whole is
command_keeps s t by command.Status answer whole is = same s t whole is.1
command_keeps s t by command.Errors answer whole is = same s t whole is.1
command_keeps s t by command.List answer whole is = same s t whole is.1
command_keeps s t by _ answer whole is = absurd is

-- entries come only while a scan runs
verdict_keeps : (s t : PoolState) (es : List Entry) → IsWhole s → VerdictStep s es t → IsWhole t
verdict_keeps s t [] whole is = same s t whole is
verdict_keeps s t (e ∷ es) whole is = verdict_keeps (with_checked s e) t es rests is.2
  where
    rests : IsWhole (with_checked s e)
    rests labelling ended =
        let running : is_running s.scan ≡ true = is.0 in
        let none : false ≡ true = rw (whole labelling ended).0 at running in
        absurd cc

data_keeps : (s t : PoolState) → (items : List Item) → DataStep s items t → IsWhole t
data_keeps s t items is = elim is.ended [
  | inl f ↦ subst (λ (x : PoolState). IsWhole x) (sym f.finished) (λ labelling ended. (refl, f.all))
  | inr other ↦ elim other [
    | inl f ↦ subst (λ (x : PoolState). IsWhole x) (sym f.saved) (λ labelling ended. absurd cc)
    | inr none ↦ subst (λ (x : PoolState). IsWhole x) (sym none) (λ labelling ended. absurd cc)
  ]
]

begun_keeps : (s t : PoolState) (by : ℕ) (name : DsName) (object leaf : ℕ) (planned : Option ReadPlan) (answer : Reply) → IsWhole s → ReadBeginStep s by name object leaf planned answer t → IsWhole t
begun_keeps s t by name object leaf planned answer whole is = go (read_refusal s name object leaf) refl
  where
    found : (d : Option Dataset) → dataset_named s.graph name ≡ d → read_refusal s name object leaf ≡ None → IsWhole t
    found None f e = absurd (rw (e, f) at is)
    found (Some d) f e = subst (λ (x : PoolState). IsWhole x) (sym (rw (e, f) at is).2) whole

    go : (r : Option Refusal) → read_refusal s name object leaf ≡ r → IsWhole t
    go (Some why) e = same s t whole (rw e at is).2
    go None e = found (dataset_named s.graph name) refl e

closes : (s t : PoolState) (by : ℕ) (answer : Reply) → IsWhole s → Steps s (record { by = by; step = step.BeginSync; reply = answer }) t → IsWhole t
closes s t by (reply.RefusedSync txg why) whole is = same s t whole is.5
closes s t by _ whole is = subst (λ (x : PoolState). IsWhole x) (sym is.5) (λ labelling ended. absurd cc)

read_keeps : (s t : PoolState) (by : ℕ) (c : Command) (planned : Option ReadPlan) (answer : Reply) → IsWhole s → Steps s (record { by = by; step = step.ReadBegin c planned; reply = answer }) t → IsWhole t
read_keeps s t by (command.Read ds object leaf) planned answer whole is = begun_keeps s t by ds object leaf planned answer whole is
read_keeps s t by _ planned answer whole is = absurd is

keeps : (s t : PoolState) (by : ℕ) (st : Step) (answer : Reply) → IsWhole s → Steps s (record { by = by; step = st; reply = answer }) t → IsWhole t
keeps s t by (step.Command c) answer whole is = command_keeps s t by c answer whole is
keeps s t by (step.Line c) answer whole is = same s t whole is.1
keeps s t by (step.Walk turn) answer whole is = same s t whole is.2
keeps s t by (step.Hold number vdev online pieces) answer whole is = same s t whole is.3
keeps s t by (step.Verdict number pieces entries) answer whole is = verdict_keeps s t entries whole is.1
keeps s t by step.BeginSync answer whole is = closes s t by answer whole is
keeps s t by (step.EndData online marks items) answer whole is = data_keeps s t items is.4
keeps s t by (step.Committed online) answer whole is = subst (λ (x : PoolState). IsWhole x) (sym is.4) (λ labelling ended. absurd cc)
keeps s t by (step.Suspend online why) answer whole is = λ labelling ended. let never : stages.Between ≡ stages.Labelling = sym (is.4).between ∙ labelling in absurd cc
keeps s t by (step.ReadBegin c planned) answer whole is = read_keeps s t by c planned answer whole is
keeps s t by (step.ReadEnd p places) answer whole is = subst (λ (x : PoolState). IsWhole x) (sym is.closed) whole
keeps s t by (step.Made c) answer whole is = absurd is

-- at the start no scan came to its end
starts : (e : Event) (s : PoolState) → Begins e s → IsWhole s
starts e s begins = go e.step e.reply begins
  where
    go : (st : Step) (r : Reply) → Begins (record { by = e.by; step = st; reply = r }) s → IsWhole s
    go (step.Made (command.Pool pool width limit every blocks)) (reply.Made made mirrors) begins =
        subst (λ (x : PoolState). IsWhole x) (sym begins.1) (λ labelling ended. absurd cc)
    go _ _ begins = absurd begins

abbrev head_in : List Event → Option Event
head_in [] = None
head_in (e ∷ es) = Some e

runs_keep : (a b : Full) (es : List Event) → IsWhole a.now → Run a es b → IsWhole b.now
runs_keep a b [] whole run = subst (λ (x : Full). IsWhole x.now) (sym run) whole
runs_keep a b (e ∷ es) whole run = runs_keep run.0 b es (keeps a.now run.0.now e.by e.step e.reply whole run.1.0) run.2

-- a run over two stretches is two runs
runs_through : (a b : Full) (es fs : List Event) → Run a (es ++ fs) b → (m : Full) × Run a es m × Run m fs b
runs_through a b [] fs run = (a, refl, run)
runs_through a b (e ∷ es) fs run =
    let rest : (m : Full) × Run run.0 es m × Run m fs b = runs_through run.0 b es fs run.2 in
    (rest.0, (run.0, run.1, rest.1), rest.2)

told_before : (before es fs : List Event) → AreTold before (es ++ fs) → AreTold before es
told_before before [] fs told = tt
told_before before (e ∷ es) fs told = (told.0, told_before (before ++ e ∷ []) es fs told.1)

-- only a sync that was committed is answered so
module _ (txg : ℕ) (answers : List (Option Refusal)) (f : Finished) where
  abbrev answer : Reply
  answer = reply.Committed txg answers (Some f)

  other : (r : Reply) → answer ≡ r → finished_in r ≡ None → ⊥
  other r is none = let both : Some f ≡ None = ap finished_in is ∙ none in absurd cc

  not_queued : (s : PoolState) → answer ≡ task_reply s → ⊥
  not_queued s is = other _ is (elim s.suspended as (λ b. finished_in (if b then reply.Refused Suspended else (if s.open_txg.txg == 4294967295 then reply.Refused TxgEnd else reply.Queued s.open_txg.txg (length s.open_txg.tasks + 1))) ≡ None) [
    | true ↦ refl
    | false ↦ elim (s.open_txg.txg == 4294967295) as (λ b. finished_in (if b then reply.Refused TxgEnd else reply.Queued s.open_txg.txg (length s.open_txg.tasks + 1)) ≡ None) [ true ↦ refl | false ↦ refl ]
  ])

  not_made : (s t : PoolState) (name : DsName) (object size fill : ℕ) → MakeStep s name object size fill answer t → ⊥
  not_made s t name object size fill is = go (make_refusal s name object) refl
    where
      found : (d : Option Dataset) → dataset_named s.graph name ≡ d → make_refusal s name object ≡ None → ⊥
      found None e none = elim (rw (none, e) at is) [ inl full ↦ other _ full.0 refl | inr nothing ↦ nothing ]
      found (Some d) e none = elim (rw (none, e) at is) [ inl full ↦ other _ full.0 refl | inr made ↦ other _ made.3 refl ]

      go : (r : Option Refusal) → make_refusal s name object ≡ r → ⊥
      go (Some why) e = other _ (rw e at is).0 refl
      go None e = found (dataset_named s.graph name) refl e

  not_written : (s t : PoolState) (name : DsName) (object leaf fill : ℕ) → WriteStep s name object leaf fill answer t → ⊥
  not_written s t name object leaf fill is = go (write_refusal s name object leaf) refl
    where
      found : (d : Option Dataset) → dataset_named s.graph name ≡ d → write_refusal s name object leaf ≡ None → ⊥
      found None e none = elim (rw (none, e) at is) [ inl full ↦ other _ full.0 refl | inr nothing ↦ nothing ]
      found (Some d) e none = elim (rw (none, e) at is) [ inl full ↦ other _ full.0 refl | inr made ↦ other _ made.3 refl ]

      go : (r : Option Refusal) → write_refusal s name object leaf ≡ r → ⊥
      go (Some why) e = other _ (rw e at is).0 refl
      go None e = found (dataset_named s.graph name) refl e

  not_command : (s t : PoolState) (by : ℕ) (c : Command) → CommandStep s by c answer t → ⊥
  not_command s t by (command.Fs name) is = not_queued s is.0
  not_command s t by (command.Snap head label) is = not_queued s is.0
  not_command s t by (command.Clone ds name) is = not_queued s is.0
  not_command s t by (command.Destroy ds) is = not_queued s is.0
  not_command s t by (command.Swap first second) is = not_queued s is.0
  not_command s t by command.Scrub is = not_queued s is.0
  not_command s t by command.Pause is = not_queued s is.0
  not_command s t by command.Resume is = not_queued s is.0
  not_command s t by command.Stop is = not_queued s is.0
  not_command s t by (command.Make ds object levels size fill) is = not_made s t ds object size fill is
  not_command s t by (command.Write ds object leaf fill) is = not_written s t ds object leaf fill is
  not_command s t by command.Status is = is.0
  not_command s t by command.Errors is = is.0
  not_command s t by command.List is = is.0
  not_command s t by _ is = is

  not_line : (s : PoolState) (c : Command) → LineStep s c answer → ⊥
  not_line s command.Finish is = is
  not_line s _ is = is

  not_begun : (s t : PoolState) (by : ℕ) (name : DsName) (object leaf : ℕ) (planned : Option ReadPlan) → ReadBeginStep s by name object leaf planned answer t → ⊥
  not_begun s t by name object leaf planned is = go (read_refusal s name object leaf) refl
    where
      found : (d : Option Dataset) → dataset_named s.graph name ≡ d → read_refusal s name object leaf ≡ None → ⊥
      found None e none = rw (none, e) at is
      found (Some d) e none = other _ (rw (none, e) at is).1 refl

      go : (r : Option Refusal) → read_refusal s name object leaf ≡ r → ⊥
      go (Some why) e = other _ (rw e at is).1 refl
      go None e = found (dataset_named s.graph name) refl e

  not_read : (s t : PoolState) (by : ℕ) (c : Command) (planned : Option ReadPlan) → Steps s (record { by = by; step = step.ReadBegin c planned; reply = answer }) t → ⊥
  not_read s t by (command.Read ds object leaf) planned is = not_begun s t by ds object leaf planned is
  not_read s t by _ planned is = is

  not_ended : (r : OpenRead) (p : ReadPlan) → IsReadAnswer r p answer → ⊥
  not_ended r (plan.Staged fill) is = other _ is refl
  not_ended r plan.Hole is = other _ is refl
  not_ended r (plan.Pinned item online) is = elim is [ inl got ↦ other _ got.2 refl | inr lost ↦ other _ lost refl ]

  -- it tells of the state before it
  reports : (s t : PoolState) (by : ℕ) (st : Step) → Steps s (record { by = by; step = st; reply = answer }) t → (answer ≡ committed_reply s) × (s.stage ≡ stages.Labelling)
  reports s t by (step.Command c) is = absurd (not_command s t by c is)
  reports s t by (step.Line c) is = absurd (not_line s c is.0)
  reports s t by (step.Walk turn) is = absurd (other _ is.0 refl)
  reports s t by (step.Hold number vdev online pieces) is = absurd (other _ is.0 refl)
  reports s t by (step.Verdict number pieces entries) is = absurd (other _ is.0 refl)
  reports s t by step.BeginSync is = absurd (other _ is.0 refl)
  reports s t by (step.EndData online marks items) is = absurd (other _ is.0 refl)
  reports s t by (step.Committed online) is = (is.0, is.3)
  reports s t by (step.Suspend online why) is = absurd (other _ is.0 refl)
  reports s t by (step.ReadBegin c planned) is = absurd (not_read s t by c planned is)
  reports s t by (step.ReadEnd p places) is = absurd (not_ended is.read p is.answers)
  reports s t by (step.Made c) is = absurd is

  -- so what it tells is the line of the scan that came to its end
  line_of : (s : PoolState) → answer ≡ committed_reply s → Some f ≡ finished_line s
  line_of s is = go (s.applied == 1) (ap finished_in is)
    where
      go : (first : Bool) → Some f ≡ finished_in (if first then reply.Nothing else reply.Committed s.applied s.answers (finished_line s)) → Some f ≡ finished_line s
      go true told = absurd cc
      go false told = told

  abbrev line : PoolState → Finished
  line s = record { kind = kind_word s.scan.scope.kind; checked = counted (length s.scan.checked); errors = counted (length (filter has_error s.scan.checked)) }

  abbrev line_where : PoolState → Bool → Option Finished
  line_where s b = if b then Some (line s) else None

  checked_in : (s : PoolState) → IsWhole s → s.stage ≡ stages.Labelling → Some f ≡ finished_line s → HasCheckedAll s f
  checked_in s whole labelling told = go s.finished refl
    where
      told_where : (b : Bool) → s.finished ≡ b → Some f ≡ line_where s b
      told_where b is = told ∙ ap (line_where s) is

      go : (b : Bool) → s.finished ≡ b → HasCheckedAll s f
      go true is =
          let same_line : f ≡ line s = ap (λ (o : Option Finished). unwrap_or o (line s)) (told_where true is) in
          let both : (s.scan.status ≡ statuses.Finished) × AllAreChecked s.graph s.scan.scope s.scan.checked = whole labelling is in
          record { finished = both.0; all = both.1; checked = ap (λ (l : Finished). l.checked) same_line; errors = ap (λ (l : Finished). l.errors) same_line }
      go false is = let none : Some f ≡ None = told_where false is in absurd cc

-- the law
step_tells : (s t : PoolState) (by : ℕ) (st : Step) (r : Reply) (f : Finished) → IsWhole s → Steps s (record { by = by; step = st; reply = r }) t → finished_in r ≡ Some f → HasCheckedAll s f
step_tells s t by st (reply.Committed txg answers told) f whole is tells =
    let step_is : Steps s (record { by = by; step = st; reply = reply.Committed txg answers (Some f) }) t = subst (λ (o : Option Finished). Steps s (record { by = by; step = st; reply = reply.Committed txg answers o }) t) tells is in
    let reported : (reply.Committed txg answers (Some f) ≡ committed_reply s) × (s.stage ≡ stages.Labelling) = reports txg answers f s t by st step_is in
    checked_in txg answers f s whole reported.1 (line_of txg answers f s reported.0)
step_tells s t by st _ f whole is tells = absurd cc

-- the making of a pool tells of no scan
not_first : (e : Event) (s : PoolState) (f : Finished) → Begins e s → finished_in e.reply ≡ Some f → ⊥
not_first e s f begins tells = go e.step e.reply begins tells
  where
    go : (st : Step) (r : Reply) → Begins (record { by = e.by; step = st; reply = r }) s → finished_in r ≡ Some f → ⊥
    go (step.Made (command.Pool pool width limit every blocks)) (reply.Made made mirrors) begins tells = absurd cc
    go _ _ begins tells = begins

pub finished_is : (before after : List Event) (e : Event) (now : PoolState) (f : Finished) → IsHistory (before ++ e ∷ after) now → finished_in e.reply ≡ Some f → (s : PoolState) × IsHistory before s × HasCheckedAll s f
finished_is [] after e now f h tells =
    let first : e ≡ h.first = ap (λ (es : List Event). unwrap_or (head_in es) e) h.is in
    absurd (not_first h.first h.start f h.begins (subst (λ (x : Event). finished_in x.reply ≡ Some f) first tells))
finished_is (d ∷ ds) after e now f h tells =
    let others : ds ++ e ∷ after ≡ h.others = ap (λ (es : List Event). drop 1 es) h.is in
    let first : d ≡ h.first = ap (λ (es : List Event). unwrap_or (head_in es) d) h.is in
    let run : Run (record { now = h.start; kept = h.start }) (ds ++ e ∷ after) (record { now = now; kept = h.kept }) = subst (λ (es : List Event). Run (record { now = h.start; kept = h.start }) es (record { now = now; kept = h.kept })) (sym others) h.run in
    let parts : (m : Full) × Run (record { now = h.start; kept = h.start }) ds m × Run m (e ∷ after) (record { now = now; kept = h.kept }) = runs_through _ _ ds (e ∷ after) run in
    let whole : IsWhole parts.0.now = runs_keep (record { now = h.start; kept = h.start }) parts.0 ds (starts h.first h.start h.begins) parts.1 in (
      parts.0.now,
      record {
        first = h.first;
        others = ds;
        is = ap (λ (x : Event). x ∷ ds) first;
        start = h.start;
        begins = h.begins;
        kept = parts.0.kept;
        run = parts.1;
        told = told_before [] (d ∷ ds) (e ∷ after) h.told;
      },
      step_tells parts.0.now parts.2.0.now e.by e.step e.reply f whole parts.2.1.0 tells,
    )
