-- The datasets, as `list` tells them.
use Rattle.std.specs.Prelude.{◌≡◌, false, true, List, map, length}
use Rattle.zs_ids.specs.Graph.{Dataset}
use Rattle.zs_script.specs.declared.refusal.Refusal.TheVariants.{Suspended}
use Rattle.zs_script.specs.declared.reply.Listed.{Listed}
use Rattle.zs_script.specs.declared.reply.Reply.{Reply}
use Rattle.zs_script.specs.declared.reply.Reply.TheVariants as reply
use Rattle.zs_machine.specs.Machine.{PoolState}
use Rattle.zs_machine.specs.Status.{counted}

-- a dataset, as a reply tells it: its names, which are empty for the origin, its creation, and how many blocks it holds
abbrev pub listed_of : Dataset → Listed
listed_of d = record { name = record { owner = d.owner; label = d.label }; creation = d.creation; blocks = counted (length d.entries) }

-- the reply to `list`: the datasets in order of id
abbrev pub TellsList : PoolState → Reply → Type 0
TellsList s (reply.Refused Suspended) = s.suspended ≡ true
TellsList s (reply.List sets) = (s.suspended ≡ false) × (sets ≡ map listed_of s.graph)
TellsList s _ = ⊥
