-- What is asked of the batches in flight.
use Rattle.std.specs.Prelude.{◌≡◌, ℕ, List, [], ◌∷◌, Option, Some, None}
use Rattle.zs_ids.specs.declared.block.Item.{Item}
use Rattle.zs_ledger.specs.declared.entry.Entry.{Entry}
use Rattle.zs_scan.specs.declared.batch.Batch.{Batch}

-- the batch that was taken first
abbrev pub first_of : List Batch → Option Batch
first_of [] = None
first_of (b ∷ bs) = Some b

-- the entry is of the item
abbrev pub IsOf : Item → Entry → Type 0
IsOf i e = (e.piece ≡ i.piece) × (e.sectors ≡ i.sectors) × (e.sum ≡ i.sum)

-- the batch that was taken first has that number
abbrev pub IsFirst : ℕ → List Batch → Type 0
IsFirst number [] = ⊥
IsFirst number (b ∷ bs) = b.number ≡ number
