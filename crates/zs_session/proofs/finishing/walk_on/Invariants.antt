use Rattle.std.proofs.Common.{◌≡◌, ◌<◌, ◌⊎◌, []}
use Rattle.zs_phys.specs.Turn.{IsWalking}
use Rattle.zs_machine.specs.History.{text_of}
use Rattle.zs_session.specs.Session.{IsUp}
use Rattle.zs_session.specs.Plays.{WentAlone}
use Rattle.zs_session.specs.Batches.{IsTimedAs}
use Rattle.zs_session.specs.Finish.{MayGo, Round, phase_at, walk_left}
use Rattle.zs_session.proofs.finishing.walk_on.Given as goal

abbrev pub invariant-loop : goal.invariant-loop
invariant-loop l = record {
  up : IsUp l.pool;
  goes_on : WentAlone l.initial.pool l.pool [];
  silent : text_of l.pool.history ≡ text_of l.initial.pool.history;
  runs : IsWalking l.pool.core.scan.run;
  landed : l.pool.core.scan.flight ≡ [];
  time : IsTimedAs l.initial.pool.core l.pool.core;
  phase : (r : Round) → MayGo r (phase_at l.initial.pool.history) → MayGo r (phase_at l.pool.history);
  fewer : (l.pool.core ≡ l.initial.pool.core) ⊎ (walk_left l.pool.core < walk_left l.initial.pool.core);
}

abbrev pub decreases-loop : goal.decreases-loop
decreases-loop l = walk_left l.pool.core
