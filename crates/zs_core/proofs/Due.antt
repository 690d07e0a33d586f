-- How many events a sync in progress still adds.
use Rattle.std.specs.Prelude.{◌≤◌}
use Rattle.std.proofs.Common.{arith}
use Rattle.zs_core.specs.Calls.{events_due}
use Rattle.zs_machine.specs.declared.event.Stage.{Stage}
use Rattle.zs_machine.specs.declared.event.Stage.TheVariants.{Writing, Labelling, Between}

-- a sync in progress adds at most two events more
pub due_few : (s : Stage) → events_due s ≤ 2
due_few Writing = omega arith
due_few Labelling = omega arith
due_few Between = omega arith
