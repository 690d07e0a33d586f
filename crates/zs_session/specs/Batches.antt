-- What the check of a batch makes of a pool, and what a scan keeps while it is brought to its end.
use Rattle.std.specs.Prelude.{◌≡◌, ◌≤◌, ◌<◌, ℕ, List, [], ◌∷◌, ◌++◌, length, Option, Some, None, IfSome, Result, Ok, IfOk}
use Rattle.zs_ids.specs.declared.block.Piece.{Piece}
use Rattle.zs_ids.specs.Graph.{Has}
use Rattle.zs_io.specs.declared.fault.BayFault.{BayFault}
use Rattle.zs_ledger.specs.declared.entry.Entry.{Entry}
use Rattle.zs_queue.specs.Waiting.{lowest}
use Rattle.zs_scan.specs.declared.batch.Batch.{Batch}
use Rattle.zs_scan.specs.View.{pieces_in}
use Rattle.zs_scan.specs.Flight.{first_of}
use Rattle.zs_scan.specs.Steps.{AreOf, Judged, still_flying}
use Rattle.zs_script.specs.declared.reply.LandedPiece.{LandedPiece}
use Rattle.zs_script.specs.declared.reply.Reply.TheVariants as reply
use Rattle.zs_machine.specs.declared.event.Event.{Event}
use Rattle.zs_machine.specs.declared.event.Step.{Step}
use Rattle.zs_machine.specs.declared.event.Step.TheVariants as step
use Rattle.zs_machine.specs.Told.{TellsLand, line_steps}
use Rattle.zs_core.specs.View.{CoreView, PoolView}
use Rattle.zs_machine.specs.History.{AddsEvent}
use Rattle.zs_session.specs.Verdicts.{next_number}

-- the batch had its verdict: so many entries were made, those of its pieces that flew in it still, which the event tells with
-- the batch's pieces
pub record HadVerdict (by : ℕ) (old : PoolView) (b : Batch) (many : ℕ) (new : PoolView) : Type 0 where
  pub entries : List Entry
  pub of_items : AreOf b.items entries
  pub made : List Entry
  pub which : made ≡ still_flying old.core.scan.marks b.number entries
  pub judged : Judged old.core.scan b.number entries new.core.scan
  pub counted : many ≡ length made
  pub event : AddsEvent by (step.Verdict b.number (pieces_in b.items) made) reply.Nothing old.history new.history

-- the batch that was taken first of those in flight had its verdict
pub record LandsFirst (by : ℕ) (old : PoolView) (many : ℕ) (new : PoolView) : Type 0 where
  pub batch : Batch
  pub first : Some batch ≡ first_of old.core.scan.flight
  pub verdict : HadVerdict by old batch many new

-- none was in flight, and nothing changed; or that batch had its verdict, and fewer are in flight
pub record LandsNext (by : ℕ) (old new : PoolView) (result : Result (Option ℕ) BayFault) : Type 0 where
  pub none : result ≡ Ok None → (old.core.scan.flight ≡ []) × (new ≡ old)
  pub verdict : IfOk result (λ next. IfSome next (λ many. LandsFirst by old many new))
  pub fewer : (many : ℕ) → result ≡ Ok (Some many) → length new.core.scan.flight < length old.core.scan.flight

-- a `land` made so many entries so far, with these results, and what is left in flight was taken later than what had its verdict
pub record HasLanded (p : PoolView) (made : ℕ) (shown : List LandedPiece) : Type 0 where
  pub told : TellsLand (line_steps p.history) made shown
  pub later : (b : Batch) → Has p.core.scan.flight b → next_number 0 (line_steps p.history) ≤ b.number

-- the event of a batch that was taken of a mirror
abbrev pub taken_event : ℕ → ℕ → ℕ → ℕ → List Piece → Event
taken_event by number vdev online pieces = record { by = by; step = step.Hold number vdev online pieces; reply = reply.Nothing }

-- the first event that came since took a batch, that of the lowest n pieces of the mirror that waited
pub record TookLowest (old new : PoolView) (vdev n : ℕ) : Type 0 where
  pub by : ℕ
  pub number : ℕ
  pub online : ℕ
  pub rest : List Event
  pub is : new.history ≡ old.history ++ taken_event by number vdev online (pieces_in (lowest old.core.scan.waiting vdev n)) ∷ rest

-- the entries that a step tells
abbrev pub entries_of : Step → List Entry
entries_of (step.Verdict number pieces made) = made
entries_of _ = []

-- the next checkpoint is due when it was, and the same tasks are queued
pub record IsTimedAs (old new : CoreView) : Type 0 where
  pub applied : new.state.applied ≡ old.state.applied
  pub saved : new.scan.saved ≡ old.scan.saved
  pub every : new.scan.every ≡ old.scan.every
  pub tasks : new.state.open_txg.tasks ≡ old.state.open_txg.tasks

-- a scan goes on as it did: over the same datasets, and running or paused as it was
pub record GoesOnScanning (old new : CoreView) : Type 0 where
  pub time : IsTimedAs old new
  pub graph : new.state.graph ≡ old.state.graph
  pub status : new.scan.run.status ≡ old.scan.run.status
  pub paused : new.scan.run.paused ≡ old.scan.run.paused

-- a scan's walk stands where it stood, and where nothing was in flight nothing is
pub record StandsStill (old new : CoreView) : Type 0 where
  pub time : IsTimedAs old new
  pub graph : new.state.graph ≡ old.state.graph
  pub run : new.scan.run ≡ old.scan.run
  pub flight : old.scan.flight ≡ [] → new.scan.flight ≡ []
