-- The batches in flight, as a history tells of them.
use Rattle.std.specs.Prelude.{◌≡◌, ◌==◌, ◌⊎◌, ℕ, List, [], ◌∷◌, ◌++◌, filter, fold, not}
use Rattle.zs_ids.specs.declared.block.Piece.{Piece}
use Rattle.zs_ids.specs.Graph.{Has}
use Rattle.zs_ledger.specs.declared.entry.Entry.{Entry}
use Rattle.zs_machine.specs.declared.event.Event.{Event}
use Rattle.zs_machine.specs.declared.event.Step.{Step}
use Rattle.zs_machine.specs.declared.event.Step.TheVariants as step

-- a batch that was taken and has no verdict yet: its number, the devices that were online when it was taken, and its pieces
pub record Flying : Type 0 where
  pub number : ℕ
  pub online : ℕ
  pub pieces : List Piece

-- those in flight with a batch that was taken behind them; an empty one is not in flight
abbrev pub with_batch : List Flying → ℕ → ℕ → List Piece → List Flying
with_batch flying number online [] = flying
with_batch flying number online (p ∷ ps) = flying ++ record { number = number; online = online; pieces = p ∷ ps } ∷ []

-- those in flight without the batch of that number
abbrev pub without_batch : List Flying → ℕ → List Flying
without_batch flying number = filter (λ b. not (b.number == number)) flying

-- those in flight after the verdict of a batch with these pieces: one without pieces is of none
abbrev pub landed : List Flying → ℕ → List Piece → List Flying
landed flying number [] = flying
landed flying number (p ∷ ps) = without_batch flying number

-- what is in flight after one more step
abbrev pub flying_after : List Flying → Step → List Flying
flying_after flying (step.Hold number vdev online pieces) = with_batch flying number online pieces
flying_after flying (step.Verdict number pieces entries) = landed flying number pieces
flying_after flying _ = flying

-- what is in flight at the end of a history
abbrev pub in_flight : List Event → List Flying
in_flight es = fold (λ flying e. flying_after flying e.step) [] es

-- a verdict is that of a batch in flight, with its pieces; or it is of none, and brings nothing
abbrev pub IsOfFlight : List Flying → ℕ → List Piece → List Entry → Type 0
IsOfFlight flying number pieces entries =
    ((online : ℕ) × Has flying (record { number = number; online = online; pieces = pieces })) ⊎ (pieces ≡ []) × (entries ≡ [])
