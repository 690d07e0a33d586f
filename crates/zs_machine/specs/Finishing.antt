-- Which steps a `finish` makes: what is in flight has its verdicts; then the walk makes turns, and all that waits is checked, as
-- often as a turn is refused and once more when none is left; then comes a sync. Where that leaves a scan at work, since the walk
-- waited for a checkpoint or a task started a scan, all comes once more. So there are at most two syncs.
use Rattle.std.specs.Prelude.{◌==◌, ◌+◌, nat_lt, ℕ, Bool, true, false, if◌then◌else◌, List, [], ◌∷◌, fold}
use Rattle.zs_ids.specs.declared.block.Piece.{Piece}
use Rattle.zs_scan.specs.declared.batch.Turn.{Turn}
use Rattle.zs_scan.specs.declared.batch.Turn.TheVariants as turns
use Rattle.zs_machine.specs.declared.event.Step.{Step}
use Rattle.zs_machine.specs.declared.event.Step.TheVariants as step

-- how far a `finish` has come
pub data Phase : Type 0 where
  -- batches that were in flight have their verdicts
  landing : Phase
  -- the walk makes turns
  walking : Phase
  -- the walk stopped, `over` where nothing was left, and batches of the mirrors from `least` on are to be taken
  issuing : (over : Bool) (least : ℕ) → Phase
  -- a batch of the mirror was taken, and is to be judged
  checking : (over : Bool) (vdev number : ℕ) → Phase
  -- nothing waits any more on the mirrors below `least`
  drained : (over : Bool) (least : ℕ) → Phase
  -- the sync has begun, or was refused; its data are written; it is committed
  closing : Phase
  applying : Phase
  ended : Phase
  -- a step came that no `finish` makes there
  strayed : Phase
  -- the first sync was committed, and the same comes once more, as far as this
  again : (place : Phase) → Phase

-- after a turn
abbrev pub walked : Turn → Phase
walked turns.Nothing = issuing true 0
walked turns.Skip = walking
walked turns.Enter = walking
walked turns.At = walking
walked turns.End = walking

-- after a batch was taken: an empty one tells that nothing waits on its mirror
abbrev pub held : Bool → ℕ → ℕ → List Piece → Phase
held over vdev number [] = drained over (vdev + 1)
held over vdev number (p ∷ ps) = checking over vdev number

-- after one more step
abbrev pub phase_after : Phase → Step → Phase
phase_after landing (step.Verdict number pieces entries) = landing
phase_after landing (step.Walk turn) = walked turn
phase_after landing (step.Hold number vdev online pieces) = held false vdev number pieces
phase_after walking (step.Walk turn) = walked turn
phase_after walking (step.Hold number vdev online pieces) = held false vdev number pieces
phase_after (issuing over least) (step.Hold number vdev online pieces) = if nat_lt vdev least then strayed else held over vdev number pieces
phase_after (checking over vdev number) (step.Verdict n pieces entries) = if n == number then issuing over vdev else strayed
phase_after (drained false least) (step.Walk turn) = walked turn
phase_after (drained false least) (step.Hold number vdev online pieces) = held false vdev number pieces
phase_after (drained true least) (step.Hold number vdev online pieces) = if nat_lt vdev least then strayed else held true vdev number pieces
phase_after (drained over least) step.BeginSync = closing
phase_after closing (step.EndData online marks items) = applying
phase_after applying (step.Committed online) = ended
phase_after ended (step.Walk turn) = again (walked turn)
phase_after ended (step.Hold number vdev online pieces) = again (held false vdev number pieces)
phase_after (again p) s = again (phase_after p s)
phase_after _ _ = strayed

-- how far a `finish` has come that made these steps
abbrev pub phase_of : List Step → Phase
phase_of steps = fold phase_after landing steps

-- a sync was refused there, or committed
abbrev pub is_end : Phase → Bool
is_end closing = true
is_end ended = true
is_end _ = false

-- a `finish` may end there: behind its first sync or its second, and no third comes
abbrev pub is_through : Phase → Bool
is_through (again p) = is_end p
is_through p = is_end p
