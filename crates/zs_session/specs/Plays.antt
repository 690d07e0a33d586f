-- What the events of a session did to the journals of its devices: which marks each of them made. No mark is made but by an event.
use Rattle.std.specs.Prelude.{◌≡◌, ◌≢◌, ◌⊎◌, ◌-◌, ◌<◌, ◌≤◌, ◌+◌, ◌*◌, ℕ, Bool, true, false, List, [], ◌∷◌, ◌++◌, filter, length, map, slice_index_or, Option, option_map}
use Rattle.zs_ids.specs.declared.block.Item.{Item}
use Rattle.zs_ids.specs.declared.block.Marks.{Marks}
use Rattle.zs_ids.specs.declared.block.Piece.{Piece}
use Rattle.zs_ids.specs.Graph.{Has, pieces_of}
use Rattle.zs_io.specs.Told.{Told}
use Rattle.zs_lane.specs.declared.mark.Mark.{Mark}
use Rattle.zs_lane.specs.declared.mark.Mark.TheVariants.{Read, Wrote, Synced, Failed}
use Rattle.zs_ledger.specs.declared.entry.CopyResult.{CopyResult}
use Rattle.zs_ledger.specs.declared.entry.CopyResult.TheVariants as copies
use Rattle.zs_ledger.specs.declared.entry.Entry.{Entry}
use Rattle.zs_ledger.specs.Entry.{AreCopies}
use Rattle.zs_mirror.specs.Calls.{IsEntryOf}
use Rattle.zs_mirror.specs.Mirror.{nowhere, has_bit, first_of, start_of, size_of, IsOther}
use Rattle.zs_objset.specs.declared.block.StagedBlock.{StagedBlock}
use Rattle.zs_scan.specs.View.{pieces_in}
use Rattle.zs_scan.specs.Walks.{item_of}
use Rattle.zs_script.specs.declared.command.Command.{Command}
use Rattle.zs_script.specs.declared.command.Command.TheVariants as commands
use Rattle.zs_script.specs.declared.refusal.Refusal.TheVariants.{ReadLost, DeviceFault}
use Rattle.zs_script.specs.declared.reply.Reply.{Reply}
use Rattle.zs_script.specs.declared.reply.Reply.TheVariants as replies
use Rattle.zs_sum.specs.Sum.{sha256}
use Rattle.zs_machine.specs.declared.event.Event.{Event}
use Rattle.zs_machine.specs.declared.event.ReadPlan.{ReadPlan}
use Rattle.zs_machine.specs.declared.event.ReadPlan.TheVariants as plans
use Rattle.zs_machine.specs.declared.event.Step.{Step}
use Rattle.zs_machine.specs.declared.event.Step.TheVariants as steps
use Rattle.zs_machine.specs.declared.event.Stage.TheVariants.{Writing}
use Rattle.zs_machine.specs.Commands.{commands_of}
use Rattle.zs_machine.specs.Flight.{Flying, in_flight}
use Rattle.zs_machine.specs.Told.{line_steps}
use Rattle.zs_machine.specs.Writes.{AreApart}
use Rattle.zs_core.specs.View.{PoolView}
use Rattle.zs_session.specs.Devices.{Journals, AreLonger}

-- a journal has these marks more
abbrev pub Gains : List Mark → Option (List Mark) → Option (List Mark) → Type 0
Gains marks old new = new ≡ option_map (λ j. j ++ marks) old

-- it has these more, at least one, and the last stands at that place
pub record GainsTo (marks : List Mark) (place : ℕ) (old new : Option (List Mark)) : Type 0 where
  pub gains : Gains marks old new
  pub last : Told old (λ j. place + 1 ≡ length j + length marks)

-- it has the mark of a read whose bytes had another sum than that, and these marks more
abbrev pub GainsOther : ℕ → ℕ → List ℕ → List Mark → ℕ → Option (List Mark) → Option (List Mark) → Type 0
GainsOther at len sum more place old new = (other : List ℕ) × (other ≢ sum) × GainsTo (Read at len other ∷ more) place old new

-- What the check of a copy marked, by whether its device was online, and the copy's letter: a good copy was read and not written; a
-- bad one was read; one that is rewritten was read, written and synced; a fault is one of these that failed; and of a device that
-- was offline there was no call.
abbrev pub ChecksCopy : Bool → CopyResult → ℕ → ℕ → List ℕ → ℕ → Option (List Mark) → Option (List Mark) → Type 0
ChecksCopy true copies.Good at len sum place old new = GainsTo (Read at len sum ∷ []) place old new
ChecksCopy true copies.Bad at len sum place old new = GainsOther at len sum [] place old new
ChecksCopy true copies.Rewritten at len sum place old new = GainsOther at len sum (Wrote at len sum ∷ Synced ∷ []) place old new
ChecksCopy true copies.Fault at len sum place old new =
    GainsTo (Failed ∷ []) place old new
    ⊎ (GainsOther at len sum (Failed ∷ []) place old new ⊎ GainsOther at len sum (Wrote at len sum ∷ Failed ∷ []) place old new)
ChecksCopy false copies.Absent at len sum place old new = (place ≡ nowhere) × (new ≡ old)
ChecksCopy _ _ at len sum place old new = ⊥

-- The check of an item on the devices of the one mirror, with that mask of online devices, as its entry tells it.
pub record ChecksItem (width online : ℕ) (item : Item) (entry : Entry) (old new : Journals) : Type 0 where
  pub of_item : IsEntryOf item entry
  pub mirror : item.piece.place.vdev ≡ 0
  pub not_empty : 1 ≤ item.sectors
  pub each : (k : ℕ) → k < width
      → ChecksCopy (has_bit online (first_of item.piece.place.vdev width + k)) (slice_index_or entry.copies k copies.Missing)
      (start_of item.piece.place) (size_of item) item.sum (slice_index_or entry.marks k nowhere)
      (old (first_of item.piece.place.vdev width + k)) (new (first_of item.piece.place.vdev width + k))
  pub others : (dev : ℕ) → IsOther (first_of item.piece.place.vdev width) width dev → new dev ≡ old dev
  pub copies_are : AreCopies width entry.copies
  pub nowhere_else : (k : ℕ) → width ≤ k → slice_index_or entry.marks k nowhere ≡ nowhere
  pub beside : (k : ℕ) → slice_index_or entry.copies k copies.Missing ≡ copies.Rewritten
      → (j : ℕ) × (j < width) × (slice_index_or entry.copies j copies.Missing ≡ copies.Good)
  pub alone : (j k : ℕ) → slice_index_or entry.copies j copies.Missing ≡ copies.Good → slice_index_or entry.copies k copies.Missing ≢ copies.Bad

-- the checks of items one after another, with an entry for each
abbrev pub AreChecks : ℕ → ℕ → List Item → Journals → List Entry → Journals → Type 0
AreChecks width online [] old [] new = new ≡ old
AreChecks width online (i ∷ is) old (e ∷ es) new = (mid : Journals) × ChecksItem width online i e old mid × AreChecks width online is mid es new
AreChecks width online [] old (e ∷ es) new = ⊥
AreChecks width online (i ∷ is) old [] new = ⊥

-- a batch in flight was checked, with the mask of devices with which it was taken: the entries that were made are those of some
-- of its pieces, in order
pub record WasChecked (width : ℕ) (flying : List Flying) (number : ℕ) (pieces : List Piece) (made : List Entry) (old new : Journals) : Type 0 where
  pub online : ℕ
  pub taken : Has flying (record { number = number; online = online; pieces = pieces })
  pub items : List Item
  pub found : List Entry
  pub of_pieces : pieces ≡ pieces_in items
  pub checks : AreChecks width online items old found new
  pub kept : Entry → Bool
  pub among : made ≡ filter kept found

-- the mark of a block's write
abbrev pub write_of : StagedBlock → Mark
write_of block = Wrote (start_of (item_of block.bp).piece.place) (length block.bytes) (sha256 block.bytes)

-- what a sync's data mark on a device: nothing where there are no blocks, and else the write of each, in order, and one sync
abbrev pub data_marks : List StagedBlock → List Mark
data_marks [] = []
data_marks (b ∷ bs) = map write_of (b ∷ bs) ++ Synced ∷ []

-- Blocks that have their sums and lie apart were written on each device of the mirror and synced, with their last calls at these
-- places.
pub record PutsBlocks (width : ℕ) (blocks : List StagedBlock) (places : List ℕ) (old new : Journals) : Type 0 where
  pub sums : (b : StagedBlock) → Has blocks b → sha256 b.bytes ≡ b.bp.sum
  pub sizes : (b : StagedBlock) → Has blocks b → length b.bytes ≡ 512 * b.bp.sectors
  pub not_empty : (b : StagedBlock) → Has blocks b → 1 ≤ b.bp.sectors
  pub placed : (b : StagedBlock) → Has blocks b → Has (pieces_of b.bp) (item_of b.bp).piece
  pub mirror : (b : StagedBlock) → Has blocks b → (item_of b.bp).piece.place.vdev ≡ 0
  pub apart : AreApart blocks
  pub gains : (dev : ℕ) → dev < width → Gains (data_marks blocks) (old dev) (new dev)
  pub last : (dev : ℕ) → dev < width → blocks ≢ [] → Told (old dev) (λ j. slice_index_or places dev nowhere + 1 ≡ length j + length (data_marks blocks))
  pub none : blocks ≡ [] → (dev : ℕ) → slice_index_or places dev nowhere ≡ nowhere
  pub others : (dev : ℕ) → width ≤ dev → (new dev ≡ old dev) × (slice_index_or places dev nowhere ≡ nowhere)

-- the data of a sync were written: the blocks of the items that are born in it, and others of its transaction group
pub record WereWritten (width : ℕ) (marks : Marks) (items : List Item) (old new : Journals) : Type 0 where
  pub blocks : List StagedBlock
  pub born : (i : Item) → Has items i → (b : StagedBlock) × Has blocks b × (i ≡ item_of b.bp)
  pub puts : PutsBlocks width blocks marks.places old new
  pub none_failed : marks.failed ≡ 0

-- the read of a copy was tried, and its bytes had another sum, or it failed; one of a device that was offline was not tried
abbrev pub TriesCopy : Bool → ℕ → ℕ → List ℕ → ℕ → Option (List Mark) → Option (List Mark) → Type 0
TriesCopy true at len sum place old new = GainsTo (Failed ∷ []) place old new ⊎ GainsOther at len sum [] place old new
TriesCopy false at len sum place old new = (place ≡ nowhere) × (new ≡ old)

-- each copy of an item was tried in vain
pub record TriesAll (width online : ℕ) (item : Item) (places : List ℕ) (old new : Journals) : Type 0 where
  pub mirror : item.piece.place.vdev ≡ 0
  pub each : (k : ℕ) → k < width
      → TriesCopy (has_bit online (first_of item.piece.place.vdev width + k)) (start_of item.piece.place) (size_of item) item.sum
      (slice_index_or places k nowhere) (old (first_of item.piece.place.vdev width + k)) (new (first_of item.piece.place.vdev width + k))
  pub others : (dev : ℕ) → IsOther (first_of item.piece.place.vdev width) width dev → new dev ≡ old dev
  pub nowhere_else : (k : ℕ) → width ≤ k → slice_index_or places k nowhere ≡ nowhere

-- the copies of an item were tried up to one whose bytes have the sum
pub record FindsCopy (width online : ℕ) (item : Item) (places : List ℕ) (old new : Journals) : Type 0 where
  pub mirror : item.piece.place.vdev ≡ 0
  pub copy : ℕ
  pub there : copy < width
  pub good : GainsTo (Read (start_of item.piece.place) (size_of item) item.sum ∷ []) (slice_index_or places copy nowhere)
      (old (first_of item.piece.place.vdev width + copy)) (new (first_of item.piece.place.vdev width + copy))
  pub before : (k : ℕ) → k < copy
      → TriesCopy (has_bit online (first_of item.piece.place.vdev width + k)) (start_of item.piece.place) (size_of item) item.sum
      (slice_index_or places k nowhere) (old (first_of item.piece.place.vdev width + k)) (new (first_of item.piece.place.vdev width + k))
  pub others : (dev : ℕ) → IsOther (first_of item.piece.place.vdev width) (copy + 1) dev → new dev ≡ old dev
  pub nowhere_else : (k : ℕ) → copy < k → slice_index_or places k nowhere ≡ nowhere

-- a read that is lost has tried each copy in vain, another one of a piece has found one, and one of no piece made no call
abbrev pub EndsIn : ℕ → ReadPlan → List ℕ → Reply → Journals → Journals → Type 0
EndsIn width (plans.Pinned item online) places (replies.Refused ReadLost) old new = TriesAll width online item places old new
EndsIn width (plans.Pinned item online) places answer old new = FindsCopy width online item places old new
EndsIn width other places answer old new = new ≡ old

-- each bit is its opposite
abbrev pub complement : ℕ → ℕ
complement byte = 255 - byte

-- a range was read, the complement of its bytes was written over it, and it was synced
pub record Rots (at len : ℕ) (old new : Option (List Mark)) : Type 0 where
  pub bytes : List ℕ
  pub long : length bytes ≡ len
  pub gains : Gains (Read at len (sha256 bytes) ∷ Wrote at len (sha256 (map complement bytes)) ∷ Synced ∷ []) old new

-- one of these calls failed, and none came after it
abbrev pub RotsPart : Option (List Mark) → Option (List Mark) → Type 0
RotsPart old new = (first : List Mark) × Gains (first ++ Failed ∷ []) old new

-- what a line marked by itself: a `rot` that was done, or that a device did not do; no other
abbrev pub PlaysLine : Command → Reply → Journals → Journals → Type 0
PlaysLine (commands.Rot dev sector count) (replies.Rotted d first many) old new =
    Rots (512 * sector) (512 * count) (old dev) (new dev) × ((e : ℕ) → e ≢ dev → new e ≡ old e)
PlaysLine (commands.Rot dev sector count) (replies.Refused DeviceFault) old new =
    RotsPart (old dev) (new dev) × ((e : ℕ) → e ≢ dev → new e ≡ old e)
PlaysLine c answer old new = new ≡ old

-- what one event marked, behind the events before it
abbrev pub PlaysOne : ℕ → List Event → Event → Journals → Journals → Type 0
PlaysOne width before e old new = plays e.step
  where
    plays : Step → Type 0
    plays (steps.Verdict number pieces entries) = WasChecked width (in_flight before) number pieces entries old new
    plays (steps.EndData online marks items) = WereWritten width marks items old new
    plays (steps.ReadEnd plan places) = EndsIn width plan places e.reply old new
    plays (steps.Line c) = PlaysLine c e.reply old new
    plays _ = new ≡ old

-- what events marked, one after another, behind the events before them
abbrev pub Plays : ℕ → List Event → List Event → Journals → Journals → Type 0
Plays width before [] old new = new ≡ old
Plays width before (e ∷ es) old new = (mid : Journals) × PlaysOne width before e old mid × Plays width (before ++ e ∷ []) es mid new

-- the pool went on by events that have these commands, and its devices' journals by the marks of these events
pub record Went (old new : PoolView) (before after : Journals) (commands : List Command) : Type 0 where
  pub more : List Event
  pub is : new.history ≡ old.history ++ more
  pub has : commands_of more ≡ commands
  pub plays : Plays old.core.shape.width old.history more before after
  pub shape : new.core.shape ≡ old.core.shape

-- so it went on whatever the journals were, which it left alone
abbrev pub WentAlone : PoolView → PoolView → List Command → Type 0
WentAlone old new commands = (journals : Journals) → Went old new journals journals commands

-- so it went on, and then calls may have been made of which no event tells
pub record Halts (old new : PoolView) (before after : Journals) (commands : List Command) : Type 0 where
  pub mid : Journals
  pub went : Went old new before mid commands
  pub further : AreLonger mid after

-- a pool was made, and nothing else has happened to it: its one event is the making
pub record IsMade (p : PoolView) : Type 0 where
  pub writing : p.core.state.stage ≡ Writing
  pub up : p.core.state.suspended ≡ false
  pub unread : p.core.state.reads ≡ []
  pub empty : p.core.pointers ≡ []
  pub fresh : line_steps p.history ≡ []
  pub alone : (journals : Journals) → Plays p.core.shape.width [] p.history journals journals

-- a line that marks nothing by itself, which is each but a `rot`, left the devices alone
abbrev pub EndsAlone : Command → PoolView → PoolView → Type 0
EndsAlone (commands.Rot dev sector count) old new = Unit {0}
EndsAlone c old new = WentAlone old new (c ∷ [])
