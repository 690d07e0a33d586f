-- A session: when the pool is ready for a line, how its history goes on, and how a session ends.
use Rattle.std.specs.Prelude.{◌≡◌, ℕ, false, List, [], ◌∷◌, ◌++◌, map, take, Result, Err, Option, OnOk, OnErr, IsErrOf}
use Rattle.zs_machine.specs.declared.event.Event.{Event}
use Rattle.zs_machine.specs.declared.event.Stage.TheVariants.{Between}
use Rattle.zs_core.specs.View.{PoolView}
use Rattle.zs_machine.specs.Told.{line_steps}
use Rattle.zs_machine.specs.Commands.{commands_of}
use Rattle.zs_machine.specs.History.{text_of}
use Rattle.zs_io.specs.Faults.{Rose}
use Rattle.zs_io.specs.declared.fault.BayFault.{BayFault}
use Rattle.zs_io.specs.declared.fault.BayFault.TheVariants.{Memory}
use Rattle.zs_script.specs.declared.command.Command.{Command}
use Rattle.zs_script.specs.declared.command.Command.TheVariants as commands
use Rattle.zs_script.specs.declared.command.Line.{Line}
use Rattle.zs_script.specs.declared.refusal.Refusal.{Refusal}
use Rattle.zs_session.specs.declared.stop.Stop.{Stop}
use Rattle.zs_session.specs.declared.stop.Stop.TheVariants as stops
use Rattle.zs_lane.specs.Children.{DeviceView}
use Rattle.zs_session.specs.Devices.{Journals, SetGoesOn, SomeRose}
use Rattle.zs_session.specs.Plays.{Halts}
use Rattle.zs_session.specs.Images.{AreFit, IsImageFault}

-- no sync is in progress, the pool is not suspended, and no read is open
pub record IsUp (p : PoolView) : Type 0 where
  pub between : p.core.state.stage ≡ Between
  pub up : p.core.state.suspended ≡ false
  pub unread : p.core.state.reads ≡ []

-- the pool is ready for a line: it is up, and no steps of a line stand at the end of its history that no event closed
pub record IsReady (p : PoolView) : Type 0 where
  pub between : p.core.state.stage ≡ Between
  pub up : p.core.state.suspended ≡ false
  pub unread : p.core.state.reads ≡ []
  pub fresh : line_steps p.history ≡ []

-- the history is the old one and what came since, which has just these commands
pub record Continues (old new : List Event) (commands : List Command) : Type 0 where
  pub more : List Event
  pub is : new ≡ old ++ more
  pub has : commands_of more ≡ commands

-- the history went on with a beginning of these commands
pub record ContinuesPart (old new : List Event) (commands : List Command) : Type 0 where
  pub many : ℕ
  pub part : Continues old new (take many commands)

-- so it went on with a beginning of these commands
pub record HaltsPart (old new : PoolView) (before after : Journals) (commands : List Command) : Type 0 where
  pub many : ℕ
  pub part : Halts old new before after (take many commands)

-- a part of a line puts no reply, whatever comes of it; where it stops, the pool went on with no command
pub record Passes {T E : Type 0} (old new : PoolView) (before after : Journals) (result : Result T E) : Type 0 where
  pub silent : text_of new.history ≡ text_of old.history
  pub went_on : OnErr result (Halts old new before after [])

-- the same of a part that calls no device
abbrev pub PassesAlone : {T E : Type 0} → PoolView → PoolView → Result T E → Type 0
PassesAlone old new result = (journals : Journals) → Passes old new journals journals result

-- the same where it stops; else it may have put replies
pub record Stops {T E : Type 0} (old new : PoolView) (before after : Journals) (result : Result T E) : Type 0 where
  pub silent : OnErr result (text_of new.history ≡ text_of old.history)
  pub went_on : OnErr result (Halts old new before after [])

-- a line that stops has no command yet
pub record StopsLine {T : Type 0} (old new : PoolView) (before after : Journals) (result : Result T BayFault) : Type 0 where
  pub went_on : OnErr result (Halts old new before after [])

-- a line that may stop behind its command has a beginning of these
pub record StopsIn {T : Type 0} (old new : PoolView) (before after : Journals) (commands : List Command) (result : Result T BayFault) : Type 0 where
  pub went_on : OnErr result (HaltsPart old new before after commands)

-- what calls no device stops only for want of memory, and then has no command
pub record WantsMemory {T : Type 0} (old new : PoolView) (result : Result T BayFault) : Type 0 where
  pub memory : OnErr result (result ≡ Err Memory)
  pub went_on : (journals : Journals) → OnErr result (Halts old new journals journals [])

-- the commands of lines, in order
abbrev pub commands_in : List Line → List Command
commands_in lines = map (λ line. line.command) lines

-- these commands are the first of all
pub record AreFirst (commands all : List Command) : Type 0 where
  pub many : ℕ
  pub first : commands ≡ take many all

-- why lines are no longer run: the count of a device rose, or that of the sink, or memory was wanting
pub record HasReason {T : Type 0} (old new : ℕ → DeviceView) (sink_before sink_now : ℕ) (result : Result T Stop) : Type 0 where
  pub ok : OnOk result (sink_now ≡ sink_before)
  pub device : IsErrOf result stops.Device → SomeRose old new × (sink_now ≡ sink_before)
  pub sink : IsErrOf result stops.Sink → Rose sink_before sink_now
  pub memory : IsErrOf result stops.Memory → sink_now ≡ sink_before

-- what the calls of lines leave: as many devices, of their sizes; each goes on; and the counts are as the result tells
pub record LineCalls {T : Type 0} (count_old count_new : ℕ) (old new : ℕ → DeviceView) (sink_before sink_now : ℕ) (result : Result T Stop) : Type 0 where
  pub set : SetGoesOn count_old count_new old new
  pub cause : HasReason old new sink_before sink_now result

-- the images fit a `pool` line
abbrev pub IsFitFor : Command → List ℕ → List (Option (List ℕ)) → Type 0
IsFitFor (commands.Pool pool width limit every blocks) sizes told = AreFit width blocks sizes told
IsFitFor _ sizes told = ⊥

-- the images are refused for a `pool` line, and this is the first reason
abbrev pub IsUnfitFor : Command → List ℕ → List (Option (List ℕ)) → Refusal → Type 0
IsUnfitFor (commands.Pool pool width limit every blocks) sizes told fault = IsImageFault width blocks sizes told fault
IsUnfitFor _ sizes told fault = ⊥

-- the images fit the line with which these begin
abbrev pub AreFitFor : List Line → List ℕ → List (Option (List ℕ)) → Type 0
AreFitFor [] sizes told = ⊥
AreFitFor (line ∷ lines) sizes told = IsFitFor line.command sizes told

-- the images are refused for the line with which these begin, and this is the first reason
abbrev pub AreUnfitFor : List Line → List ℕ → List (Option (List ℕ)) → Refusal → Type 0
AreUnfitFor [] sizes told fault = ⊥
AreUnfitFor (line ∷ lines) sizes told fault = IsUnfitFor line.command sizes told fault

-- why replies are no longer put
pub record HasSinkReason {T : Type 0} (before now : ℕ) (result : Result T Stop) : Type 0 where
  pub ok : OnOk result (now ≡ before)
  pub sink : IsErrOf result stops.Sink → Rose before now
  pub memory : IsErrOf result stops.Memory → now ≡ before
  pub only : IsErrOf result stops.Device → ⊥
