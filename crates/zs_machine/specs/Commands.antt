-- The commands of a history, in order.
use Rattle.std.specs.Prelude.{List, [], ◌∷◌, flat_map}
use Rattle.zs_script.specs.declared.command.Command.{Command}
use Rattle.zs_machine.specs.declared.event.Event.{Event}
use Rattle.zs_machine.specs.declared.event.Step.{Step}
use Rattle.zs_machine.specs.declared.event.Step.TheVariants as step

-- the command that a step tells: that of the pool's making, of a line, or of a read that begins
abbrev pub command_in : Step → List Command
command_in (step.Made c) = c ∷ []
command_in (step.Command c) = c ∷ []
command_in (step.Line c) = c ∷ []
command_in (step.ReadBegin c planned) = c ∷ []
command_in _ = []

-- the commands of events, in order
abbrev pub commands_of : List Event → List Command
commands_of es = flat_map (λ e. command_in e.step) es
