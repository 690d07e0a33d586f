-- A read of a line, from its beginning to its end in the same line.
use Rattle.std.specs.Prelude.{◌≡◌, ℕ, false, List, [], ◌∷◌, Option, None, Some}
use Rattle.zs_machine.specs.declared.event.ReadPlan.{ReadPlan}
use Rattle.zs_machine.specs.declared.event.ReadPlan.TheVariants as plans
use Rattle.zs_machine.specs.declared.event.Stage.TheVariants.{Between}
use Rattle.zs_machine.specs.declared.event.Step.TheVariants as steps
use Rattle.zs_machine.specs.declared.event.OpenRead.{OpenRead}
use Rattle.zs_core.specs.Reading.{read_reply}
use Rattle.zs_core.specs.View.{PoolView}
use Rattle.zs_machine.specs.History.{AddsEvent}
use Rattle.zs_session.specs.Devices.{Journals}
use Rattle.zs_session.specs.Plays.{TriesAll, FindsCopy}

-- the pool is up but for one open read, which is this client's and has this plan
pub record AwaitsRead (by : ℕ) (plan : ReadPlan) (p : PoolView) : Type 0 where
  pub between : p.core.state.stage ≡ Between
  pub up : p.core.state.suspended ≡ false
  pub read : OpenRead
  pub client : read.by ≡ by
  pub planned : read.plan ≡ plan
  pub only : p.core.state.reads ≡ read ∷ []

-- that read ended, with the reply that its plan and the bytes give
pub record EndsOpenRead (by : ℕ) (plan : ReadPlan) (got : Option (List ℕ)) (places : List ℕ) (old new : PoolView) : Type 0 where
  pub read : OpenRead
  pub was_open : old.core.state.reads ≡ read ∷ []
  pub event : AddsEvent by (steps.ReadEnd plan places) (read_reply read plan got) old.history new.history
  pub shape : new.core.shape ≡ old.core.shape

-- where bytes were got for a piece, a copy was found, and else each was tried in vain; for no piece there was no call
abbrev pub WasReadFrom : ℕ → ReadPlan → Option (List ℕ) → List ℕ → Journals → Journals → Type 0
WasReadFrom width (plans.Pinned item online) None places old new = TriesAll width online item places old new
WasReadFrom width (plans.Pinned item online) (Some bytes) places old new = FindsCopy width online item places old new
WasReadFrom width plan got places old new = new ≡ old
