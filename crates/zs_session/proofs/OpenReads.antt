-- A read that was begun ends by what was read.
use Rattle.std.proofs.Common.{◌≡◌, ℕ, List, [], ◌∷◌, ◌++◌, refl, sym, ◌∙◌, ap, subst, inl, inr, ◌⊎◌}
use Rattle.std.specs.Prelude.{Option, Some, None, IfSome, Result, Ok, Err, OnOk, OnErr}
use Rattle.zs_io.specs.declared.fault.BayFault.{BayFault}
use Rattle.zs_ids.specs.declared.block.Item.{Item}
use Rattle.zs_ids.specs.Graph.{Has}
use Rattle.zs_script.specs.declared.command.Command.{Command}
use Rattle.zs_script.specs.declared.reply.Reply.{Reply}
use Rattle.zs_script.specs.declared.reply.Reply.TheVariants as replies
use Rattle.zs_machine.specs.declared.event.ReadPlan.{ReadPlan}
use Rattle.zs_machine.specs.declared.event.ReadPlan.TheVariants as plans
use Rattle.zs_machine.specs.declared.event.Step.TheVariants as steps
use Rattle.zs_machine.specs.declared.event.OpenRead.{OpenRead}
use Rattle.zs_machine.specs.Shapes.{room_in}
use Rattle.zs_core.specs.Reading.{EndsIfRead, IsPlanInRoom, read_reply}
use Rattle.zs_core.specs.View.{CoreView, PoolView, with_read}
use Rattle.zs_machine.specs.History.{AddsEvent}
use Rattle.zs_lane.specs.Children.{DeviceView}
use Rattle.zs_mirror.specs.declared.fault.ReadFault.{ReadFault}
use Rattle.zs_mirror.specs.declared.fault.ReadFault.TheVariants.{Lost}
use Rattle.zs_mirror.specs.Calls.{AreLost, IsFound}
use Rattle.zs_mirror.specs.Refusals.{SaysLost}
use Rattle.zs_mirror.specs.Mirror.{Leaves, first_of, start_of, size_of}
use Rattle.zs_session.specs.OpenReads.{AwaitsRead, EndsOpenRead, WasReadFrom}
use Rattle.zs_session.specs.Devices.{Journals, AreLonger, journals}
use Rattle.zs_session.specs.Plays.{Went, WentAlone, EndsIn, TriesAll, FindsCopy}
use Rattle.zs_session.specs.Session.{IsReady, HaltsPart, StopsIn}
use Rattle.zs_session.proofs.Histories.{handed, halts_same, part_none, part_one, went_one, went_adds, went_twice}
use Rattle.zs_session.proofs.LineSteps.{ready_after}
use Rattle.zs_session.proofs.Outcomes.{where_ok}
use Rattle.zs_session.proofs.Rooms.{first_mirror}
use Rattle.zs_session.proofs.Tries.{tries_all, finds_copy}

-- a read begun on a pool that has none open is the one that it awaits
pub awaits : (old new : PoolView) (r : OpenRead) → IsReady old → new.core ≡ with_read old.core r → AwaitsRead r.by r.plan new
awaits old new r ready begun = record {
  between = ap (λ (v : CoreView). v.state.stage) begun ∙ ready.between;
  up = ap (λ (v : CoreView). v.state.suspended) begun ∙ ready.up;
  read = r;
  client = refl;
  planned = refl;
  only = ap (λ (v : CoreView). v.state.reads) begun ∙ ap (λ (rs : List OpenRead). rs ++ r ∷ []) ready.unread;
}

-- what stands in a list of one
one_of : {A : Type 0} (before after : List A) (x y : A) → y ∷ [] ≡ before ++ x ∷ after → (x ≡ y) × (before ++ after ≡ [])
one_of [] after x y is = let same : x ≡ y = cc in let none : after ≡ [] = cc in (same, none)
one_of (z ∷ []) after x y is = cc
one_of (z ∷ w ∷ before) after x y is = cc

-- the one open read ended, and none is open then
pub ended : (by : ℕ) (plan : ReadPlan) (got : Option (List ℕ)) (places : List ℕ) (old new : PoolView) (answer : Option Reply) → AwaitsRead by plan old
    → IfSome answer (λ reply. AddsEvent by (steps.ReadEnd plan places) reply old.history new.history)
    → EndsIfRead by plan got old.core.state.reads new.core.state.reads answer → new.core ≡ record old.core { state = record old.core.state { reads = new.core.state.reads } }
    → EndsOpenRead by plan got places old new × IsReady new
ended by plan got places old new None awaits event ends rest = absurd (ends awaits.read (subst (λ (rs : List OpenRead). Has rs awaits.read) (sym awaits.only) (inl refl)) awaits.client awaits.planned)
ended by plan got places old new (Some answer) awaits event ends rest = (
  record { read = awaits.read; was_open = awaits.only; event = subst (λ (r : Reply). AddsEvent by (steps.ReadEnd plan places) r old.history new.history) reply event; shape = ap (λ (v : CoreView). v.shape) rest },
  ready_after new by (steps.ReadEnd plan places) answer old.history event refl refl (ap (λ (v : CoreView). v.state.stage) rest ∙ awaits.between) (ap (λ (v : CoreView). v.state.suspended) rest ∙ awaits.up) (ends.are ∙ found.1),
)
  where
    found : (ends.read ≡ awaits.read) × (ends.before ++ ends.after ≡ [])
    found = one_of ends.before ends.after ends.read awaits.read (sym awaits.only ∙ ends.were)

    reply : answer ≡ read_reply awaits.read plan got
    reply = ends.reply ∙ ap (λ (r : OpenRead). read_reply r plan got) found.0

-- what was read of a plan is what its reply tells
tells : (r : OpenRead) (width : ℕ) (plan : ReadPlan) (got : Option (List ℕ)) (places : List ℕ) (old new : Journals) → WasReadFrom width plan got places old new
    → EndsIn width plan places (read_reply r plan got) old new
tells r width (plans.Staged fill) got places old new was = was
tells r width plans.Hole got places old new was = was
tells r width (plans.Pinned item online) None places old new was = was
tells r width (plans.Pinned item online) (Some bytes) places old new was = was

-- the pool went on by the read's end
pub went_read : (by : ℕ) (plan : ReadPlan) (got : Option (List ℕ)) (places : List ℕ) (old new : PoolView) (before after : Journals) → EndsOpenRead by plan got places old new
    → WasReadFrom old.core.shape.width plan got places before after → Went old new before after []
went_read by plan got places old new before after ends was =
    went_one by (steps.ReadEnd plan places) (read_reply ends.read plan got) old new before after ends.event ends.shape (tells ends.read old.core.shape.width plan got places before after was)

-- the pool went on by the read's beginning, which has the command
pub went_begun : (by : ℕ) (c : Command) (plan : ReadPlan) (old new : PoolView) (r : OpenRead) → AddsEvent by (steps.ReadBegin c (Some plan)) replies.Nothing old.history new.history → new.core ≡ with_read old.core r → WentAlone old new (c ∷ [])
went_begun by c plan old new r event begun = went_adds by (steps.ReadBegin c (Some plan)) replies.Nothing old new event (ap (λ (v : CoreView). v.shape) begun) (λ js. refl)

-- and then by its end
pub went_both : {T E : Type 0} (by : ℕ) (c : Command) (began plan : ReadPlan) (got : Option (List ℕ)) (places : List ℕ) (old mid new : PoolView) (r : OpenRead) (before after : Journals) (result : Result T E)
    → AddsEvent by (steps.ReadBegin c (Some began)) replies.Nothing old.history mid.history → mid.core ≡ with_read old.core r → OnOk result (EndsOpenRead by plan got places mid new)
    → WasReadFrom old.core.shape.width plan got places before after → OnOk result (Went old new before after (c ∷ []))
went_both by c began plan got places old mid new r before after result event begun ends was =
    where_ok result (λ end. went_twice old mid new before before after (c ∷ []) [] (went_begun by c began old mid r event begun before)
    (went_read by plan got places mid new before after end
    (subst (λ (w : ℕ). WasReadFrom w plan got places before after) (sym (ap (λ (v : CoreView). v.shape.width) begun)) was))) ends

-- where no piece was to be read no call was made
pub read_none : (width : ℕ) (plan : ReadPlan) (places : List ℕ) (js : Journals) → ((fill : ℕ) × (plan ≡ plans.Staged fill)) ⊎ (plan ≡ plans.Hole) → WasReadFrom width plan None places js js
read_none width plan places js is = elim is [
  | inl staged ↦ subst (λ (p : ReadPlan). WasReadFrom width p None places js js) (sym staged.1) refl
  | inr hole ↦ subst (λ (p : ReadPlan). WasReadFrom width p None places js js) (sym hole) refl
]

-- what went on with its one command is a part of it, and then calls came
pub part_begun : (by : ℕ) (c : Command) (plan : ReadPlan) (old mid new : PoolView) (r : OpenRead) (before after : Journals) → AddsEvent by (steps.ReadBegin c (Some plan)) replies.Nothing old.history mid.history
    → mid.core ≡ with_read old.core r → new ≡ mid → AreLonger before after → HaltsPart old new before after (c ∷ [])
part_begun by c plan old mid new r before after event begun same longer =
    subst (λ (p : PoolView). HaltsPart old p before after (c ∷ [])) (sym same)
    (part_one old mid before after c (record { mid = before; went = went_begun by c plan old mid r event begun before; further = longer }))

-- no part of it where nothing happened
pub part_same : (c : Command) (old new : PoolView) (before after : Journals) → new ≡ old → AreLonger before after → HaltsPart old new before after (c ∷ [])
part_same c old new before after same longer = part_none old new before after (c ∷ []) (halts_same old new before after same longer)

-- a read that was begun and stops has no reply, and the command
pub read_stops : {T : Type 0} (by : ℕ) (c : Command) (plan : ReadPlan) (old mid new : PoolView) (r : OpenRead) (before after : Journals) (result : Result T BayFault)
    → AddsEvent by (steps.ReadBegin c (Some plan)) replies.Nothing old.history mid.history → mid.core ≡ with_read old.core r → new ≡ mid → AreLonger before after
    → StopsIn old new before after (c ∷ []) result
read_stops by c plan old mid new r before after result event begun same longer = record { went_on = handed result (part_begun by c plan old mid new r before after event begun same longer) }

-- also where its end was refused
pub read_ends : {T : Type 0} (by : ℕ) (c : Command) (plan : ReadPlan) (old mid new : PoolView) (r : OpenRead) (before after : Journals) (result : Result T BayFault)
    → AddsEvent by (steps.ReadBegin c (Some plan)) replies.Nothing old.history mid.history → mid.core ≡ with_read old.core r → OnErr result (new ≡ mid) → AreLonger before after
    → StopsIn old new before after (c ∷ []) result
read_ends by c plan old mid new r before after (Ok x) event begun same longer = record { went_on = tt }
read_ends by c plan old mid new r before after (Err e) event begun same longer = read_stops by c plan old mid new r before after (Err e) event begun same longer

-- bytes that were got for a piece, and none
pub read_found : (w width len n m : ℕ) (item : Item) (online : ℕ) (bytes places : List ℕ) (old new : ℕ → DeviceView) → w ≡ width → len ≡ size_of item → item.piece.place.vdev ≡ 0
    → IsFound online (first_of item.piece.place.vdev w) w (start_of item.piece.place) len item.sum places old new → Leaves (first_of item.piece.place.vdev w) w n m old new
    → WasReadFrom width (plans.Pinned item online) (Some bytes) places (journals old) (journals new)
read_found w width len n m item online bytes places old new same long one found leaves =
    subst (λ (v : ℕ). FindsCopy v online item places (journals old) (journals new)) same
    (finds_copy w online n m item places old new one (subst (λ (l : ℕ). IsFound online (first_of item.piece.place.vdev w) w (start_of item.piece.place) l item.sum places old new) long found) leaves)

pub read_lost : (w width len n m : ℕ) (item : Item) (online : ℕ) (fault : ReadFault) (places : List ℕ) (old new : ℕ → DeviceView) → w ≡ width → len ≡ size_of item → item.piece.place.vdev ≡ 0
    → fault ≡ Lost places → SaysLost fault online (first_of item.piece.place.vdev w) w (start_of item.piece.place) len item.sum old new → Leaves (first_of item.piece.place.vdev w) w n m old new
    → WasReadFrom width (plans.Pinned item online) None places (journals old) (journals new)
read_lost w width len n m item online fault places old new same long one is lost leaves =
    subst (λ (v : ℕ). TriesAll v online item places (journals old) (journals new)) same (tries_all w online n m item places old new one there leaves)
  where
    there : AreLost online (first_of item.piece.place.vdev w) w (start_of item.piece.place) (size_of item) item.sum places old new
    there = subst (λ (l : ℕ). AreLost online (first_of item.piece.place.vdev w) w (start_of item.piece.place) l item.sum places old new) long
        (subst (λ (f : ReadFault). SaysLost f online (first_of item.piece.place.vdev w) w (start_of item.piece.place) len item.sum old new) is lost)

-- a planned piece lies on the one mirror
pub plan_first : (v : CoreView) (plan : ReadPlan) (item : Item) (online : ℕ) → plan ≡ plans.Pinned item online → IsPlanInRoom (room_in v.shape v.end_sector 0) plan → item.piece.place.vdev ≡ 0
plan_first v plan item online is within = first_mirror v 0 item (subst (λ (p : ReadPlan). IsPlanInRoom (room_in v.shape v.end_sector 0) p) is within)
