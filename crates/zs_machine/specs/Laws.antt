-- The laws of histories.
use Rattle.std.specs.Prelude.{◌≡◌, List, [], ◌∷◌, ◌++◌, filter, length, Option, Some, None}
use Rattle.zs_ledger.specs.Entry.{has_error}
use Rattle.zs_phys.specs.declared.phys.Status.TheVariants as statuses
use Rattle.zs_script.specs.declared.reply.Finished.{Finished}
use Rattle.zs_script.specs.declared.reply.Reply.{Reply}
use Rattle.zs_script.specs.declared.reply.Reply.TheVariants as reply
use Rattle.zs_machine.specs.declared.event.Event.{Event}
use Rattle.zs_machine.specs.History.{Full, FullSteps, Run, IsHistory, text_of}
use Rattle.zs_machine.specs.Machine.{PoolState}
use Rattle.zs_machine.specs.Status.{counted}
use Rattle.zs_machine.specs.Steps.{Steps}
use Rattle.zs_machine.specs.Told.{Tells}
use Rattle.zs_scan.specs.Covered.{AllAreChecked}

-- a run with one more step is a run
abbrev pub RunLaw : Type 0
RunLaw = (s t u : Full) (es : List Event) (e : Event) → Run s es t → FullSteps t e u → Run s (es ++ e ∷ []) u

-- a history with one more step, whose reply tells of the events before it, is a history
abbrev pub HistoryLaw : Type 0
HistoryLaw = (s t : PoolState) (es : List Event) (e : Event) → IsHistory es s → Steps s e t → Tells es e → IsHistory (es ++ e ∷ []) t

-- the text of events with others behind them is that of the ones, and then that of the others
abbrev pub TextLaw : Type 0
TextLaw = (es fs : List Event) → text_of (es ++ fs) ≡ text_of es ++ text_of fs

-- what a reply tells of a scan that came to its end
abbrev pub finished_in : Reply → Option Finished
finished_in (reply.Committed txg answers told) = told
finished_in _ = None

-- the scan is at its end, and has an entry for each live piece in its scope; so many entries are told, and so many with
-- an error
pub record HasCheckedAll (s : PoolState) (told : Finished) : Type 0 where
  pub finished : s.scan.status ≡ statuses.Finished
  pub all : AllAreChecked s.graph s.scan.scope s.scan.checked
  pub checked : told.checked ≡ counted (length s.scan.checked)
  pub errors : told.errors ≡ counted (length (filter has_error s.scan.checked))

-- where an event of a history tells that a scan came to its end, the events before it are a history that leads to a state
-- in which the scan has checked all
abbrev pub FinishedLaw : Type 0
FinishedLaw =
    (before after : List Event) (e : Event) (now : PoolState) (told : Finished) → IsHistory (before ++ e ∷ after) now
    → finished_in e.reply ≡ Some told → (s : PoolState) × IsHistory before s × HasCheckedAll s told
