-- What a turn of the walk leaves.
use Rattle.std.specs.Prelude.{◌≡◌, ◌≢◌, ◌<◌, ◌+◌, ℕ, List, [], Result, Ok, IfOk}
use Rattle.zs_io.specs.declared.fault.BayFault.{BayFault}
use Rattle.zs_phys.specs.Turn.{HasNoWork, IsWalking}
use Rattle.zs_scan.specs.Walks.{IsDraining, IsFull}
use Rattle.zs_machine.specs.declared.event.Step.{Step}
use Rattle.zs_machine.specs.Told.{AreTurns}
use Rattle.zs_core.specs.View.{CoreView}
use Rattle.zs_session.specs.Batches.{GoesOnScanning}
use Rattle.zs_session.specs.Finish.{walk_left}
use Rattle.zs_session.specs.declared.turns.Turned.{Turned}
use Rattle.zs_session.specs.declared.turns.Turned.TheVariants as turned

-- the line has made a turn more where this one was made, and else as many
pub record CountsTurn (old new : List Step) (result : Result Turned BayFault) : Type 0 where
  pub made : result ≡ Ok turned.Made → (n : ℕ) → AreTurns old n → AreTurns new (n + 1)
  pub none : IfOk result (λ made. made ≢ turned.Made → (n : ℕ) → AreTurns old n → AreTurns new n)

-- a turn that was made leaves fewer; where there was nothing to walk, and where it is refused as full or because a checkpoint is
-- due, nothing changed
pub record FindsTurn (old new : CoreView) (result : Result Turned BayFault) : Type 0 where
  pub fewer : result ≡ Ok turned.Made → walk_left new < walk_left old
  pub nothing : result ≡ Ok turned.Nothing → HasNoWork new.scan.run × (new ≡ old)
  pub full : result ≡ Ok turned.Full → IsFull new.state.graph new.state.applied new.scan × (new ≡ old)
  pub due : result ≡ Ok turned.Due → IsDraining new.state.graph new.state.applied new.scan × (new ≡ old)

-- a scan goes on as it did, with the same batches in flight
pub record LeavesFlight (old new : CoreView) : Type 0 where
  pub scan : GoesOnScanning old new
  pub flight : new.scan.flight ≡ old.scan.flight

-- a scan walks, with no batch in flight
pub record WalksAlone (v : CoreView) : Type 0 where
  pub runs : IsWalking v.scan.run
  pub landed : v.scan.flight ≡ []
