use Rattle.std.proofs.Common.{[]}
use Rattle.zs_machine.specs.Told.{AreTurns, line_steps}
use Rattle.zs_session.specs.Session.{IsUp}
use Rattle.zs_session.specs.Plays.{WentAlone}
use Rattle.zs_session.proofs.turns.make_turns.Given as goal

abbrev pub invariant-loop-made : goal.invariant-loop-made
invariant-loop-made l = record {
  up : IsUp l.pool;
  goes_on : WentAlone l.initial.pool l.pool [];
  are : AreTurns (line_steps l.pool.history) l.made;
}
