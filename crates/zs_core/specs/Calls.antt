-- The commands that the pool takes, and what its calls leave to be recorded.
use Rattle.std.specs.Prelude.{ℕ}
use Rattle.zs_script.specs.declared.command.Command.{Command}
use Rattle.zs_script.specs.declared.command.Command.TheVariants as command
use Rattle.zs_script.specs.Lines.{IsMake, IsRecord}
use Rattle.zs_script.specs.declared.reply.Reply.{Reply}
use Rattle.zs_script.specs.declared.reply.Reply.TheVariants as reply
use Rattle.zs_machine.specs.declared.event.Stage.{Stage}
use Rattle.zs_machine.specs.declared.event.Stage.TheVariants as stages

-- the commands that stage a record, queue a task or ask for the status or the damaged pieces, with numbers in their ranges
abbrev pub IsPoolCommand : Command → Type 0
IsPoolCommand (command.Fs name) = Unit {0}
IsPoolCommand (command.Snap head label) = Unit {0}
IsPoolCommand (command.Clone ds name) = Unit {0}
IsPoolCommand (command.Destroy ds) = Unit {0}
IsPoolCommand (command.Swap first second) = Unit {0}
IsPoolCommand command.Scrub = Unit {0}
IsPoolCommand command.Pause = Unit {0}
IsPoolCommand command.Resume = Unit {0}
IsPoolCommand command.Stop = Unit {0}
IsPoolCommand (command.Make ds object levels size fill) = IsMake object levels size
IsPoolCommand (command.Write ds object leaf fill) = IsRecord object leaf
IsPoolCommand command.Status = Unit {0}
IsPoolCommand command.Errors = Unit {0}
IsPoolCommand command.List = Unit {0}
IsPoolCommand _ = ⊥

-- the commands that stage a record
abbrev pub IsStaging : Command → Type 0
IsStaging (command.Make ds object levels size fill) = Unit {0}
IsStaging (command.Write ds object leaf fill) = Unit {0}
IsStaging _ = ⊥

-- how many events a sync in progress still adds: one when its data are written, and one when it ends
abbrev pub events_due : Stage → ℕ
events_due stages.Writing = 2
events_due stages.Labelling = 1
events_due stages.Between = 0

-- the reply has no list
abbrev pub IsPlain : Reply → Type 0
IsPlain (reply.Queued txg task) = Unit {0}
IsPlain (reply.Wrote ds object leaf txg) = Unit {0}
IsPlain (reply.Refused why) = Unit {0}
IsPlain _ = ⊥
