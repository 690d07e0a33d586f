-- Histories: which are runs of the machine, and what text they have.
use Rattle.std.specs.Prelude.{◌≡◌, ℕ, List, [], ◌∷◌, ◌++◌, flat_map, take}
use Rattle.zs_script.specs.Texts.{reply_text}
use Rattle.zs_script.specs.declared.reply.Reply.{Reply}
use Rattle.zs_machine.specs.declared.event.Event.{Event}
use Rattle.zs_machine.specs.declared.event.Step.{Step}
use Rattle.zs_machine.specs.declared.event.Step.TheVariants as step
use Rattle.zs_machine.specs.Machine.{PoolState}
use Rattle.zs_machine.specs.Steps.{Begins, Steps}
use Rattle.zs_machine.specs.Told.{AreTold}

-- a pool's state and the part of it that is committed
pub record Full : Type 0 where
  pub now : PoolState
  pub kept : PoolState

-- the state as it is stored: with its saved entries alone
abbrev pub stored : PoolState → PoolState
stored s = record s { scan = record s.scan { checked = take s.scan.saved s.scan.checked } }

-- what is committed after a step: at a commit the present state as it is stored, and else what it was
abbrev pub kept_after : Step → PoolState → PoolState → PoolState
kept_after (step.Committed online) now kept = stored now
kept_after _ now kept = kept

-- one step of the state with its committed part
abbrev pub FullSteps : Full → Event → Full → Type 0
FullSteps s e t = Steps s.now e t.now × (t.kept ≡ kept_after e.step s.now s.kept)

-- the events lead from one state to the other
abbrev pub Run : Full → List Event → Full → Type 0
Run s [] t = t ≡ s
Run s (e ∷ es) t = (m : Full) × FullSteps s e m × Run m es t

-- a history that begins with the making of a pool and leads to the state, in which each line's reply tells of the
-- events before it
pub record IsHistory (es : List Event) (now : PoolState) : Type 0 where
  pub first : Event
  pub others : List Event
  pub is : es ≡ first ∷ others
  pub start : PoolState
  pub begins : Begins first start
  pub kept : PoolState
  pub run : Run (record { now = start; kept = start }) others (record { now = now; kept = kept })
  pub told : AreTold [] es

-- the text of a history: those of its replies, one after another
abbrev pub text_of : List Event → List ℕ
text_of es = flat_map (λ e. reply_text e.by e.reply) es

-- one event was added to a history: a client's, with its step and its reply
abbrev pub AddsEvent : ℕ → Step → Reply → List Event → List Event → Type 0
AddsEvent by step reply old new = new ≡ old ++ record { by = by; step = step; reply = reply } ∷ []
