-- What of a `finish` or a `sync` may come next, and what each part of it makes of the line's steps.
use Rattle.std.specs.Prelude.{◌≡◌, ℕ, ◌+◌, min, length, Bool, true, false, List, [], ◌∷◌, ◌++◌, Result}
use Rattle.zs_ids.specs.declared.block.Item.{Item}
use Rattle.zs_ids.specs.declared.block.Marks.{Marks}
use Rattle.zs_ids.specs.declared.block.Piece.{Piece}
use Rattle.zs_objset.specs.declared.block.StagedBlock.{StagedBlock}
use Rattle.zs_objset.specs.Staged.{pointers_of}
use Rattle.zs_scan.specs.declared.batch.Turn.{Turn}
use Rattle.zs_walk.specs.Left.{turns_left}
use Rattle.zs_machine.specs.declared.event.Event.{Event}
use Rattle.zs_machine.specs.declared.event.Step.{Step}
use Rattle.zs_machine.specs.declared.event.Step.TheVariants as step
use Rattle.zs_machine.specs.Finishing.{Phase, phase_of, phase_after, walked, held}
use Rattle.zs_machine.specs.Finishing.Phase.{walking, issuing, drained, ended, again}
use Rattle.zs_machine.specs.Told.{TellsSync, line_steps}
use Rattle.zs_core.specs.View.{CoreView, PoolView}
use Rattle.zs_session.specs.Devices.{Journals}
use Rattle.zs_session.specs.Plays.{PutsBlocks, Went}
use Rattle.zs_session.specs.Session.{Stops}
use Rattle.zs_session.specs.declared.turns.Turned.{Turned}
use Rattle.zs_session.specs.declared.turns.Turned.TheVariants as turned
use Rattle.zs_session.specs.declared.turns.Stop.{Stop}
use Rattle.zs_session.specs.declared.turns.Stop.TheVariants as stop
use Rattle.zs_phys.specs.Turn.{IsWalking}
use Rattle.zs_scan.specs.Walks.{is_due}

-- how far a `finish` has come whose steps stand at the end of a history
abbrev pub phase_at : List Event → Phase
phase_at es = phase_of (line_steps es)

-- the two rounds of a `finish`
pub data Round : Type 0 where
  first : Round
  second : Round

-- how far a `finish` has come in a round
abbrev pub in_round : Round → Phase → Phase
in_round first p = p
in_round second p = again p

-- a turn of the walk may come next
abbrev pub MayWalk : Round → Phase → Type 0
MayWalk r p = (turn : Turn) → phase_after p (step.Walk turn) ≡ in_round r (walked turn)

-- a batch of the one mirror may be taken next, with the walk over or not
abbrev pub MayHold : Round → Bool → Phase → Type 0
MayHold r over p = (number online : ℕ) (pieces : List Piece) → phase_after p (step.Hold number 0 online pieces) ≡ in_round r (held over 0 number pieces)

-- the walk may go on in the round: a turn may come next, or a batch
pub record MayGo (r : Round) (p : Phase) : Type 0 where
  pub walk : MayWalk r p
  pub hold : MayHold r false p

-- how far it has come after a turn; none was made that would be refused
abbrev pub turned_to : Round → Turned → Phase → Phase
turned_to r turned.Made p = in_round r walking
turned_to r turned.Nothing p = in_round r (issuing true 0)
turned_to r turned.Full p = p
turned_to r turned.Due p = p

-- a turn of the walk that may come next leads there
abbrev pub TurnsTo : Turned → List Event → List Event → Type 0
TurnsTo turned old new = (r : Round) → MayWalk r (phase_at old) → phase_at new ≡ turned_to r turned (phase_at old)

-- how far it has come after a batch was taken and checked, or none waited
abbrev pub checked_to : Round → Bool → Bool → Phase
checked_to r over true = in_round r (issuing over 0)
checked_to r over false = in_round r (drained over 1)

-- the walk is over
abbrev pub is_over : Stop → Bool
is_over stop.Over = true
is_over stop.Full = false
is_over stop.Due = false

-- a sync was committed behind a round's end
abbrev pub EndsRound : List Event → List Event → Type 0
EndsRound old new = (r : Round) (over : Bool) (least : ℕ) → phase_at old ≡ in_round r (drained over least) → phase_at new ≡ in_round r ended

-- the second round of a `finish` may begin: a scan walks, with no batch in flight, for which no checkpoint is due; and no task is
-- queued
pub record MayFinish (v : CoreView) : Type 0 where
  pub runs : IsWalking v.scan.run
  pub landed : v.scan.flight ≡ []
  pub in_time : is_due v.state.applied v.scan ≡ false
  pub untasked : v.state.open_txg.tasks ≡ []

-- a line made one sync more: it was refused, or its data were written and it was committed
pub record AddsSync (old new : List Step) : Type 0 where
  pub made : List Step
  pub tells : TellsSync made
  pub is : new ≡ old ++ made

-- a sync that a line has begun was committed; one that stands in no line stays in none
abbrev pub EndsSync : List Step → List Step → Type 0
EndsSync [] new = new ≡ []
EndsSync (s ∷ ss) new = (online : ℕ) × (marks : Marks) × (items : List Item) × (mask : ℕ)
    × (new ≡ (s ∷ ss) ++ step.EndData online marks items ∷ step.Committed mask ∷ [])

-- the sync in progress was committed: where blocks with the pointers of its transaction group were written, with these marks,
-- the journals have the marks of the pool's events
abbrev pub Commits : Marks → PoolView → PoolView → Type 0
Commits marks old new =
    (blocks : List StagedBlock) (before after : Journals) → pointers_of blocks ≡ old.core.pointers
    → PutsBlocks old.core.shape.width blocks marks.places before after → Went old new before after []

-- where it was not, it puts no reply and has no command; the writes were made, and its data's event tells of them, if it came
abbrev pub StopsCommit : {T E : Type 0} → Marks → PoolView → PoolView → Result T E → Type 0
StopsCommit marks old new result =
    (blocks : List StagedBlock) (before after : Journals) → pointers_of blocks ≡ old.core.pointers
    → PutsBlocks old.core.shape.width blocks marks.places before after → Stops old new before after result

-- how many turns of the walk are left
abbrev pub walk_left : CoreView → ℕ
walk_left v = turns_left v.state.graph v.scan.run

-- the same, and one more where pieces wait
abbrev pub finish_left : CoreView → ℕ
finish_left v = walk_left v + min 1 (length v.scan.waiting)
