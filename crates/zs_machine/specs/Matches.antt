-- When the claims of a history are borne out by the journals of its devices. A verdict, the end of a read and the end of a
-- sync's data name the places of the device calls that they rest on: so none of them can be claimed without such a call.
use Rattle.std.specs.Prelude.{◌≡◌, ◌≢◌, ◌⊎◌, ◌==◌, ◌+◌, ◌*◌, ◌<◌, ◌≤◌, ℕ, not, true, false, List, [], ◌∷◌, ◌++◌, filter, flat_map, length, take, slice_get, slice_index_or, Some}
use Rattle.zs_ids.specs.declared.block.Item.{Item}
use Rattle.zs_ids.specs.declared.block.Marks.{Marks}
use Rattle.zs_ids.specs.declared.block.Piece.{Piece}
use Rattle.zs_ids.specs.Graph.{Has}
use Rattle.zs_lane.specs.declared.mark.Mark.{Mark}
use Rattle.zs_lane.specs.declared.mark.Mark.TheVariants.{Read, Synced, Failed}
use Rattle.zs_lane.specs.Journal.{Touch, touches, later}
use Rattle.zs_lane.specs.Journal.Touch.{Untouched, Holds}
use Rattle.zs_ledger.specs.declared.entry.CopyResult.{CopyResult}
use Rattle.zs_ledger.specs.declared.entry.CopyResult.TheVariants as copies
use Rattle.zs_ledger.specs.declared.entry.Entry.{Entry}
use Rattle.zs_mirror.specs.Mirror.{nowhere, has_bit, first_of, start_of, size_of}
use Rattle.zs_script.specs.declared.refusal.Refusal.TheVariants.{ReadLost}
use Rattle.zs_script.specs.declared.reply.Reply.{Reply}
use Rattle.zs_script.specs.declared.reply.Reply.TheVariants as reply
use Rattle.zs_machine.specs.declared.event.Event.{Event}
use Rattle.zs_machine.specs.declared.event.ReadPlan.{ReadPlan}
use Rattle.zs_machine.specs.declared.event.ReadPlan.TheVariants as plan
use Rattle.zs_machine.specs.declared.event.Step.{Step}
use Rattle.zs_machine.specs.declared.event.Step.TheVariants as step
use Rattle.zs_machine.specs.Flight.{Flying, in_flight}

-- the journal of each device, by its number
abbrev pub Journals : Type 0
Journals = ℕ → List Mark

-- what a mark says of a range, if it is that of a write
abbrev pub wrote : ℕ → ℕ → Mark → Touch
wrote at len Failed = Untouched
wrote at len mark = touches at len mark

-- what the last write that overlaps the range says of it: it wrote just this range, and bytes of this sum, or it left it open
abbrev pub last_write : ℕ → ℕ → List Mark → Touch
last_write at len [] = Untouched
last_write at len (m ∷ marks) = later (last_write at len marks) (wrote at len m)

-- at the place a read of the range was marked that did not have the sum
abbrev pub IsOtherRead : List Mark → ℕ → ℕ → ℕ → List ℕ → Type 0
IsOtherRead journal place at len sum = (other : List ℕ) × (other ≢ sum) × (slice_get journal place ≡ Some (Read at len other))

-- at the place a sync was marked, and the last write before it that overlaps the range wrote just the range, with this sum
pub record IsSyncedWrite (journal : List Mark) (place at len : ℕ) (sum : List ℕ) : Type 0 where
  pub synced : slice_get journal place ≡ Some Synced
  pub wrote : last_write at len (take place journal) ≡ Holds sum

-- what the letter of a copy claims of its device's journal: it was read, with the sum or with another one; it was written and
-- synced; a call failed; or there was no call. A copy of the mirror is never missing
abbrev pub IsBorneOut : CopyResult → List Mark → ℕ → ℕ → ℕ → List ℕ → Type 0
IsBorneOut copies.Good journal place at len sum = slice_get journal place ≡ Some (Read at len sum)
IsBorneOut copies.Bad journal place at len sum = IsOtherRead journal place at len sum
IsBorneOut copies.Rewritten journal place at len sum = IsSyncedWrite journal place at len sum
IsBorneOut copies.Fault journal place at len sum = slice_get journal place ≡ Some Failed
IsBorneOut copies.Absent journal place at len sum = place ≡ nowhere
IsBorneOut copies.Missing journal place at len sum = ⊥

-- Each copy of an entry is borne out. It is absent just where its device was offline in the mask with which its batch was taken;
-- and where a copy is good none is bad.
pub record IsEntryBorneOut (width online : ℕ) (journals : Journals) (e : Entry) : Type 0 where
  pub each : (k : ℕ) → k < width → IsBorneOut (slice_index_or e.copies k copies.Missing) (journals (first_of e.piece.place.vdev width + k))
      (slice_index_or e.marks k nowhere) (start_of e.piece.place) (512 * e.sectors) e.sum
  pub absent : (k : ℕ) → k < width → slice_index_or e.copies k copies.Missing ≡ copies.Absent → has_bit online (first_of e.piece.place.vdev width + k) ≡ false
  pub offline : (k : ℕ) → k < width → has_bit online (first_of e.piece.place.vdev width + k) ≡ false → slice_index_or e.copies k copies.Missing ≡ copies.Absent
  pub alone : (j k : ℕ) → slice_index_or e.copies j copies.Missing ≡ copies.Good → slice_index_or e.copies k copies.Missing ≢ copies.Bad
  pub nowhere_else : (k : ℕ) → width ≤ k → slice_index_or e.marks k nowhere ≡ nowhere

-- The entries of a verdict are borne out, with the mask of the batch in flight whose verdict it is.
pub record IsVerdictBorneOut (width : ℕ) (journals : Journals) (flying : List Flying) (number : ℕ) (pieces : List Piece) (entries : List Entry) : Type 0 where
  pub online : ℕ
  pub taken : entries ≢ [] → Has flying (record { number = number; online = online; pieces = pieces })
  pub each : (e : Entry) → Has entries e → IsEntryBorneOut width online journals e

-- a read of a copy was tried in vain: it failed, or its bytes had another sum
abbrev pub WasInVain : List Mark → ℕ → ℕ → ℕ → List ℕ → Type 0
WasInVain journal place at len sum = (slice_get journal place ≡ Some Failed) ⊎ IsOtherRead journal place at len sum

-- a read that is lost was tried in vain on each copy whose device is online; one that is answered has read a copy with the sum
abbrev pub IsReadBorneOut : ℕ → Journals → ReadPlan → List ℕ → Reply → Type 0
IsReadBorneOut width journals (plan.Pinned item online) places (reply.Refused ReadLost) =
    (k : ℕ) → k < width → has_bit online (first_of item.piece.place.vdev width + k) ≡ true
    → WasInVain (journals (first_of item.piece.place.vdev width + k)) (slice_index_or places k nowhere) (start_of item.piece.place) (size_of item) item.sum
IsReadBorneOut width journals (plan.Pinned item online) places answer =
    (k : ℕ) × (k < width)
    × (slice_get (journals (first_of item.piece.place.vdev width + k)) (slice_index_or places k nowhere)
    ≡ Some (Read (start_of item.piece.place) (size_of item) item.sum))
IsReadBorneOut width journals other places answer = Unit {0}

-- What was born in a sync was written and synced on each device of its mirror that is not among those that failed; and each of
-- these was offline, or the call at its place failed.
pub record IsDataBorneOut (width : ℕ) (journals : Journals) (online : ℕ) (marks : Marks) (items : List Item) : Type 0 where
  pub failed : (dev : ℕ) → has_bit marks.failed dev ≡ true
      → (has_bit online dev ≡ false) ⊎ (slice_get (journals dev) (slice_index_or marks.places dev nowhere) ≡ Some Failed)
  pub written : (i : Item) → Has items i → (k : ℕ) → k < width → has_bit marks.failed (first_of i.piece.place.vdev width + k) ≡ false
      → IsSyncedWrite (journals (first_of i.piece.place.vdev width + k)) (slice_index_or marks.places (first_of i.piece.place.vdev width + k) nowhere)
      (start_of i.piece.place) (size_of i) i.sum

-- what an event claims of the journals, behind the events before it
abbrev pub BearsOut : ℕ → Journals → List Event → Event → Type 0
BearsOut width journals before e = claims e.step
  where
    claims : Step → Type 0
    claims (step.Verdict number pieces entries) = IsVerdictBorneOut width journals (in_flight before) number pieces entries
    claims (step.ReadEnd p places) = IsReadBorneOut width journals p places e.reply
    claims (step.EndData online marks items) = IsDataBorneOut width journals online marks items
    claims _ = Unit {0}

-- what each event claims
abbrev pub AllBorneOut : ℕ → Journals → List Event → List Event → Type 0
AllBorneOut width journals before [] = Unit {0}
AllBorneOut width journals before (e ∷ es) = BearsOut width journals before e × AllBorneOut width journals (before ++ e ∷ []) es

-- a place of a device's journal
pub record Call : Type 0 where
  pub device : ℕ
  pub place : ℕ

-- the calls at these places of the journals of devices in a row; no place names no call
abbrev pub calls_from : ℕ → List ℕ → List Call
calls_from dev [] = []
calls_from dev (p ∷ ps) = filter (λ c. not (c.place == nowhere)) (record { device = dev; place = p } ∷ []) ++ calls_from (dev + 1) ps

-- the calls that a read names, on the devices of its piece's mirror
abbrev pub read_calls : ℕ → ReadPlan → List ℕ → List Call
read_calls width (plan.Pinned item online) places = calls_from (first_of item.piece.place.vdev width) places
read_calls width _ places = []

-- the calls that a step names
abbrev pub calls_of : ℕ → Step → List Call
calls_of width (step.Verdict number pieces entries) = flat_map (λ e. calls_from (first_of e.piece.place.vdev width) e.marks) entries
calls_of width (step.ReadEnd p places) = read_calls width p places
calls_of width (step.EndData online marks items) = calls_from 0 marks.places
calls_of width _ = []

-- no call stands in the list twice
abbrev pub AreOnce : List Call → Type 0
AreOnce [] = Unit {0}
AreOnce (c ∷ cs) = (Has cs c → ⊥) × AreOnce cs

-- The claims of a history over mirrors of that width are borne out by the journals, which began as these did: each call that is
-- named came since, and none is named twice.
pub record Matches (width : ℕ) (began journals : Journals) (es : List Event) : Type 0 where
  pub each : AllBorneOut width journals [] es
  pub once : AreOnce (flat_map (λ e. calls_of width e.step) es)
  pub since : (c : Call) → Has (flat_map (λ e. calls_of width e.step) es) c → length (began c.device) ≤ c.place
  pub marked : (c : Call) → Has (flat_map (λ e. calls_of width e.step) es) c → c.place < length (journals c.device)
