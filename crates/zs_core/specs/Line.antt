-- Which reply a line may have.
use Rattle.std.specs.Prelude.{◌≡◌, ℕ, ◌<◌, ◌⊎◌, List, [], ◌∷◌, filter, length}
use Rattle.zs_phys.specs.Turn.{HasNoWork}
use Rattle.zs_queue.specs.Waiting.{is_of}
use Rattle.zs_scan.specs.View.{ScanView}
use Rattle.zs_scan.specs.Walks.{IsDraining, IsFull}
use Rattle.zs_script.specs.declared.command.Command.{Command}
use Rattle.zs_script.specs.declared.command.Command.TheVariants as command
use Rattle.zs_script.specs.declared.refusal.Refusal.TheVariants.{OutOfRange, DeviceFault}
use Rattle.zs_script.specs.declared.reply.Reply.{Reply}
use Rattle.zs_script.specs.declared.reply.Reply.TheVariants as reply
use Rattle.zs_script.specs.declared.reply.WalkEnd.{WalkEnd}
use Rattle.zs_script.specs.declared.reply.WalkEnd.TheVariants as ends
use Rattle.zs_machine.specs.Shapes.{IsInSpace}
use Rattle.zs_machine.specs.Steps.{LineStep}
use Rattle.zs_machine.specs.Flight.{in_flight}
use Rattle.zs_machine.specs.Told.{TellsSteps, LeavesNone, line_steps}
use Rattle.zs_core.specs.View.{CoreView, PoolView}

-- why a walk that was to make n turns made just this many: as many were made; the next one is refused, because a checkpoint is
-- due or as full; or none is left
abbrev pub IsWhy : CoreView → ℕ → ℕ → WalkEnd → Type 0
IsWhy v n turns ends.More = turns ≡ n
IsWhy v n turns ends.Full = (turns < n) × IsFull v.state.graph v.state.applied v.scan
IsWhy v n turns ends.Nothing = (turns < n) × HasNoWork v.scan.run
IsWhy v n turns ends.Draining = (turns < n) × IsDraining v.state.graph v.state.applied v.scan

-- how many pieces wait, for each mirror: there is one
abbrev pub waiting_counts : ScanView → List ℕ
waiting_counts v = length (filter (is_of 0) v.waiting) ∷ []

-- as many pieces were taken as were asked for, or nothing of the mirror waits any more
abbrev pub TookAll : ScanView → ℕ → ℕ → ℕ → Type 0
TookAll v vdev n taken = (taken ≡ n) ⊎ (filter (is_of vdev) v.waiting ≡ [])

-- what the reply to a line tells of the pool: a `rot` of a range that lies in the space of every device was made, or the device
-- failed; of another range it is refused
abbrev pub TellsPool : CoreView → Command → Reply → Type 0
TellsPool v (command.Walk n) (reply.Walked turns why waiting) = IsWhy v n turns why × (waiting ≡ waiting_counts v.scan)
TellsPool v (command.Issue vdev n) (reply.Issued w pieces) = TookAll v.scan vdev n (length pieces)
TellsPool v (command.Hold vdev n) (reply.Held w sectors) = TookAll v.scan vdev n (length sectors)
TellsPool v command.Land (reply.Landed entries pieces) = v.scan.flight ≡ []
TellsPool v (command.Rot dev sector count) (reply.Rotted d first many) = IsInSpace v.shape sector count
TellsPool v (command.Rot dev sector count) (reply.Refused OutOfRange) = IsInSpace v.shape sector count → ⊥
TellsPool v (command.Rot dev sector count) (reply.Refused DeviceFault) = IsInSpace v.shape sector count
TellsPool v _ _ = Unit {0}

-- the reply to a line is the one that the line's steps and the pool give
pub record IsLineReply (p : PoolView) (c : Command) (answer : Reply) : Type 0 where
  pub step : LineStep p.core.state c answer
  pub told : TellsSteps (line_steps p.history) c answer
  pub none : LeavesNone (in_flight p.history) c answer
  pub pool : TellsPool p.core c answer
