-- What was staged after the map was refused memory, put over what the map has.
use Rattle.std.specs.Prelude.{ℕ, ◌≡◌, ◌<◌, ◌≤◌, ◌^◌, length, List, [], ◌∷◌, cond, Option, Some, None}
use Rattle.std.specs.Ordering.{is_le}
use Rattle.std.specs.declared.cmp.Ordering.{Ordering}
use Rattle.std.specs.List.{All}
use Rattle.std.specs.Map.{values_of}
use Rattle.zs_txg.specs.declared.staged.Staging.{Staging}
use Rattle.zs_txg.specs.declared.task.Task.{Task}
use Rattle.zs_txg.specs.Txg.{Slot, put_staged, sectors_of}

-- the staged blocks with more of them, put in turn
abbrev pub with_late : List (Slot × Staging) → List (Slot × Staging) → List (Slot × Staging)
with_late staged [] = staged
with_late staged (e ∷ es) = with_late (put_staged staged e.0 e.1) es

-- the nearer of an entry and the one that was found
abbrev pub nearer : {K X : Type 0} → (K → K → Ordering) → K → X → Option (K × X) → Option (K × X)
nearer R k v None = Some (k, v)
nearer R k v (Some e) = cond (is_le (R k e.0)) (Some (k, v)) (Some e)

-- what is kept of an open transaction group: n is the sum of the staged sectors, and the tasks can be numbered
pub record IsCounted (staged : List (Slot × Staging)) (n : ℕ) (tasks : List (ℕ × Task)) : Type 0 where
  pub sum : n ≡ sectors_of staged
  pub small : All (λ s. s.sectors ≤ 65535) (values_of staged)
  pub few : length tasks < 2 ^ 32
