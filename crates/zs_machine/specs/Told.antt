-- What the reply to a line tells of the events that stand before the line's own.
use Rattle.std.specs.Prelude.{◌≡◌, ℕ, ◌≤◌, ◌+◌, Bool, true, false, if◌then◌else◌, List, [], ◌∷◌, ◌++◌, map, find, fold, flat_map, length, Option, Some, None, option_map}
use Rattle.zs_ids.specs.declared.block.Piece.{Piece}
use Rattle.zs_ledger.specs.declared.entry.Entry.{Entry}
use Rattle.zs_ledger.specs.declared.entry.CopyResult.{CopyResult}
use Rattle.zs_ledger.specs.declared.entry.CopyResult.TheVariants as copies
use Rattle.zs_ids.specs.Piece.{is_piece}
use Rattle.zs_scan.specs.declared.batch.Turn.TheVariants as turns
use Rattle.zs_script.specs.declared.command.Command.{Command}
use Rattle.zs_script.specs.declared.command.Command.TheVariants as command
use Rattle.zs_script.specs.declared.reply.Letter.{Letter}
use Rattle.zs_script.specs.declared.reply.Letter.TheVariants as letters
use Rattle.zs_script.specs.declared.reply.IssuedPiece.{IssuedPiece}
use Rattle.zs_script.specs.declared.reply.LandedPiece.{LandedPiece}
use Rattle.zs_script.specs.declared.reply.Reply.{Reply}
use Rattle.zs_script.specs.declared.reply.Reply.TheVariants as reply
use Rattle.zs_machine.specs.Flight.{Flying, in_flight, IsOfFlight}
use Rattle.zs_machine.specs.Finishing.{phase_of, is_through}
use Rattle.zs_machine.specs.declared.event.Event.{Event}
use Rattle.zs_machine.specs.declared.event.Step.{Step}
use Rattle.zs_machine.specs.declared.event.Step.TheVariants as step

-- the letter of a copy; none where the mirror has no such copy
abbrev pub letter_of : CopyResult → Option Letter
letter_of copies.Missing = None
letter_of copies.Good = Some letters.Good
letter_of copies.Rewritten = Some letters.Rewritten
letter_of copies.Bad = Some letters.Bad
letter_of copies.Fault = Some letters.Fault
letter_of copies.Absent = Some letters.Absent

-- a checked piece, as a reply tells it
abbrev pub issued_of : Entry → IssuedPiece
issued_of e = record { sector = e.piece.place.sector; letters = map letter_of e.copies }

-- a landed piece, as a reply tells it: with the letters of its entry, where one was made
abbrev pub landed_of : List Entry → Piece → LandedPiece
landed_of entries p =
    record {
      vdev = p.place.vdev;
      sector = p.place.sector;
      letters = option_map (λ e. map letter_of e.copies) (find (λ e. is_piece p e.piece) entries);
    }

-- a turn of the walk, a batch, a verdict and a sync that begins belong to the line that follows them
abbrev pub is_of_line : Step → Bool
is_of_line (step.Walk turn) = true
is_of_line (step.Hold number vdev online pieces) = true
is_of_line (step.Verdict number pieces entries) = true
is_of_line step.BeginSync = true
is_of_line _ = false

-- a sync goes on
abbrev pub is_of_sync : Step → Bool
is_of_sync (step.EndData online marks items) = true
is_of_sync (step.Committed online) = true
is_of_sync _ = false

-- a step behind others; behind none it stands in no line, as in the sync that makes a pool
abbrev pub put_behind : List Step → Step → List Step
put_behind [] s = []
put_behind (f ∷ fs) s = (f ∷ fs) ++ s ∷ []

-- the steps of a line with one more event: another event closes the line
abbrev pub with_step : List Step → Event → List Step
with_step found e =
    if is_of_line e.step
    then found ++ e.step ∷ []
    else (if is_of_sync e.step then put_behind found e.step else [])

-- the turns, batches, verdicts and syncs at the end of a history, since the last other event
abbrev pub line_steps : List Event → List Step
line_steps es = fold with_step [] es

-- the step is a turn of the walk
abbrev pub IsTurn : Step → Type 0
IsTurn (step.Walk turn) = Unit {0}
IsTurn _ = ⊥

-- how many turns a step made: none where nothing was left to walk
abbrev pub turns_made : Step → ℕ
turns_made (step.Walk turns.Nothing) = 0
turns_made (step.Walk turn) = 1
turns_made _ = 0

-- the steps are turns of the walk, and made so many
abbrev pub AreTurns : List Step → ℕ → Type 0
AreTurns steps n = TheyAre steps × (n ≡ fold (λ k s. k + turns_made s) 0 steps)
  where
    TheyAre : List Step → Type 0
    TheyAre [] = Unit {0}
    TheyAre (s ∷ ss) = IsTurn s × TheyAre ss

-- one batch was taken and nothing else, with these sectors
abbrev pub TellsHold : List Step → ℕ → ℕ → List ℕ → Type 0
TellsHold (step.Hold number v online pieces ∷ []) vdev n sectors = (v ≡ vdev) × (length pieces ≤ n) × (sectors ≡ map (λ p. p.place.sector) pieces)
TellsHold _ vdev n sectors = ⊥

-- one batch was taken and checked, with a result for each of its pieces; or it was empty
abbrev pub TellsIssue : List Step → ℕ → ℕ → List IssuedPiece → Type 0
TellsIssue (step.Hold number v online pieces ∷ []) vdev n shown = (v ≡ vdev) × (pieces ≡ []) × (shown ≡ [])
TellsIssue (step.Hold number v online pieces ∷ step.Verdict m checked entries ∷ []) vdev n shown =
    (v ≡ vdev) × (length pieces ≤ n) × (m ≡ number) × (map (λ e. e.piece) entries ≡ pieces) ×
    (shown ≡ map issued_of entries)
TellsIssue _ vdev n shown = ⊥

-- what the verdict of a batch shows of its pieces, and how many entries were made
abbrev pub shown_by : Step → List LandedPiece
shown_by (step.Verdict number pieces entries) = map (landed_of entries) pieces
shown_by _ = []

abbrev pub made_by : Step → ℕ
made_by (step.Verdict number pieces entries) = length entries
made_by _ = 0

-- batches of these numbers or later ones had their verdicts and nothing else, each once and in the order of their numbers
abbrev pub AreVerdictsFrom : ℕ → List Step → Type 0
AreVerdictsFrom least [] = Unit {0}
AreVerdictsFrom least (step.Verdict number [] entries ∷ ss) = ⊥
AreVerdictsFrom least (step.Verdict number (p ∷ ps) entries ∷ ss) = (least ≤ number) × AreVerdictsFrom (number + 1) ss
AreVerdictsFrom least (s ∷ ss) = ⊥

-- batches had their verdicts and nothing else, each once and in order, with these results and so many entries
abbrev pub TellsLand : List Step → ℕ → List LandedPiece → Type 0
TellsLand steps made shown =
    AreVerdictsFrom 0 steps × (made ≡ fold (λ k s. k + made_by s) 0 steps) × (shown ≡ flat_map shown_by steps)

-- a `sync` made one sync: it was refused, or its data were written and it was committed
abbrev pub TellsSync : List Step → Type 0
TellsSync (step.BeginSync ∷ []) = Unit {0}
TellsSync (step.BeginSync ∷ step.EndData online marks items ∷ step.Committed mask ∷ []) = Unit {0}
TellsSync _ = ⊥

-- what the reply to a line tells of the line's steps
abbrev pub TellsSteps : List Step → Command → Reply → Type 0
TellsSteps steps (command.Walk n) (reply.Walked turns why waiting) = AreTurns steps turns
TellsSteps steps (command.Issue vdev n) (reply.Issued v pieces) = TellsIssue steps vdev n pieces
TellsSteps steps (command.Hold vdev n) (reply.Held v sectors) = TellsHold steps vdev n sectors
TellsSteps steps command.Land (reply.Landed entries pieces) = TellsLand steps entries pieces
TellsSteps steps command.Sync reply.Nothing = TellsSync steps
TellsSteps steps command.Finish reply.Nothing = is_through (phase_of steps) ≡ true
TellsSteps steps c answer = steps ≡ []

-- a `land` leaves nothing in flight
abbrev pub LeavesNone : List Flying → Command → Reply → Type 0
LeavesNone flying command.Land (reply.Landed entries pieces) = flying ≡ []
LeavesNone flying c answer = Unit {0}

-- what an event tells of the events before it: the reply to a line of the line's steps, and a verdict of its batch
abbrev pub Tells : List Event → Event → Type 0
Tells before e = tells e.step
  where
    tells : Step → Type 0
    tells (step.Line c) = TellsSteps (line_steps before) c e.reply × LeavesNone (in_flight before) c e.reply
    tells (step.Verdict number pieces entries) = IsOfFlight (in_flight before) number pieces entries
    tells _ = Unit {0}

-- each event tells of those before it
abbrev pub AreTold : List Event → List Event → Type 0
AreTold before [] = Unit {0}
AreTold before (e ∷ es) = Tells before e × AreTold (before ++ e ∷ []) es
