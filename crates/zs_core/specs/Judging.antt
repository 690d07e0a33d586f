-- What the verdict of a batch makes of the scan.
use Rattle.std.specs.Prelude.{◌≡◌, ℕ, List, [], map, length, Option, Some, None}
use Rattle.zs_ids.specs.declared.block.Piece.{Piece}
use Rattle.zs_ledger.specs.declared.entry.Entry.{Entry}
use Rattle.zs_scan.specs.View.{ScanView}
use Rattle.zs_scan.specs.Steps.{IsVerdict, Judged, still_flying}
use Rattle.zs_script.specs.declared.reply.Reply.TheVariants as reply
use Rattle.zs_machine.specs.declared.event.Step.TheVariants as step
use Rattle.zs_core.specs.declared.pool.Verdicts.{Verdicts}
use Rattle.zs_machine.specs.Steps.{VerdictStep}
use Rattle.zs_core.specs.View.{PoolView}
use Rattle.zs_machine.specs.History.{AddsEvent}

-- the entries that were made, if a batch was judged
abbrev pub entries_in : Option (List Entry) → List Entry
entries_in None = []
entries_in (Some made) = made

-- the batch of that number was in flight and had its verdict, with these entries made; or no such batch was in flight,
-- and nothing changed
abbrev pub IsJudged : ScanView → ℕ → List Entry → Option (List Entry) → ScanView → Type 0
IsJudged old number entries None new = (IsVerdict old number entries → ⊥) × (new ≡ old)
IsJudged old number entries (Some made) new = IsVerdict old number entries × (made ≡ still_flying old.marks number entries) × Judged old number entries new

-- the pieces of a batch that was judged
abbrev pub pieces_in : Option (List Entry) → List Entry → List Piece
pieces_in None entries = []
pieces_in (Some made) entries = map (λ e. e.piece) entries

-- a batch had its verdict, or none such was in flight, which the event tells with the batch's pieces and the entries that
-- were made
pub record HasVerdict (by : ℕ) (old : PoolView) (v : Verdicts) (many : ℕ) (new : PoolView) : Type 0 where
  pub made : Option (List Entry)
  pub judged : IsJudged old.core.scan v.number v.entries made new.core.scan
  pub counted : many ≡ length (entries_in made)
  pub makes : VerdictStep old.core.state (entries_in made) new.core.state
  pub event : AddsEvent by (step.Verdict v.number (pieces_in made v.entries) (entries_in made)) reply.Nothing old.history new.history
