-- The space of a mirror: its taken ranges, and what is free beside them.
use Rattle.std.specs.Prelude.{◌≡◌, ◌<◌, ◌≤◌, ◌+◌, ◌-◌, ◌==◌, ℕ, Bool, true, false, ◌&&◌, not, nat_le, if◌then◌else◌, List, [], map, filter, Option, Some, slice_index_or, slice_set, option_map, unwrap_or}
use Rattle.std.specs.List.{list_any}
use Rattle.std.specs.Ordering.{nat_cmp, is_eq}
use Rattle.std.specs.Map.{lookup, remove_entry}
use Rattle.std.specs.BTreeMap.{insert_entry, is_at}
use Rattle.zs_alloc.specs.declared.taken.Taken.{Taken}
use Rattle.zs_alloc.specs.declared.taken.Freed.{Freed}
use Rattle.zs_alloc.specs.declared.taken.Freed.TheVariants.{Not, In, Settled}
use Rattle.zs_alloc.specs.declared.fault.SpaceFault.{SpaceFault}
use Rattle.zs_alloc.specs.declared.fault.SpaceFault.TheVariants.{NoSpace, Memory}
use Rattle.zs_alloc.specs.Free.{is_within}

-- what contracts see of a mirror's space: the sectors from `start` on and below `end`, of which each taken range
-- has some, in rising order of its first sector
pub record MirrorView : Type 0 where
  pub start : ℕ
  pub end : ℕ
  pub taken : List (ℕ × Taken)

-- the mirrors in order of their numbers
abbrev pub Mirrors : Type 0
Mirrors = List MirrorView

-- the mirror of that number; past the last one there is no space
abbrev pub mirror_at : Mirrors → ℕ → MirrorView
mirror_at mirrors v = slice_index_or mirrors v (record { start = 0; end = 0; taken = [] })

-- with the taken ranges of one mirror changed
abbrev pub with_taken : ℕ → (List (ℕ × Taken) → List (ℕ × Taken)) → Mirrors → Mirrors
with_taken v f mirrors = slice_set mirrors v (record (mirror_at mirrors v) { taken = f (mirror_at mirrors v).taken })

-- the taken range has the sector
abbrev pub covers : ℕ → ℕ × Taken → Bool
covers s e = is_within e.0 (e.0 + e.1.sectors) s

-- a sector is free where it lies in the space and no taken range has it
unfoldable pub is_free : MirrorView → ℕ → Bool
is_free m s = is_within m.start m.end s && not (list_any (covers s) m.taken)

-- each of the n sectors from `first` on is free
pub record IsFreeRun (m : MirrorView) (first n : ℕ) : Type 0 where
  pub each : (s : ℕ) → first ≤ s → s < first + n → is_free m s ≡ true

-- no n free sectors follow each other
pub record HasNoRun (m : MirrorView) (n : ℕ) : Type 0 where
  pub none : (first : ℕ) → IsFreeRun m first n → ⊥

-- the n sectors from `first` on are free, and there is no lower such run
pub record IsLowestRun (m : MirrorView) (n first : ℕ) : Type 0 where
  pub free : IsFreeRun m first n
  pub lowest : (s : ℕ) → IsFreeRun m s n → first ≤ s

-- a refusal says that there is no space exactly where P holds
abbrev pub NoSpaceWhere : Type 0 → SpaceFault → Type 0
NoSpaceWhere P NoSpace = P
NoSpaceWhere P Memory = P → ⊥

-- the range that is taken from a sector on
abbrev pub taken_at : List (ℕ × Taken) → ℕ → Option Taken
taken_at taken first = lookup (is_at (nat_cmp first)) taken

-- a range that was just taken
abbrev pub fresh : ℕ → Taken
fresh n = record { sectors = n; pins = 0; freed = Not }

-- with a range more, which is taken from `first` on
abbrev pub with_range : List (ℕ × Taken) → ℕ → Taken → List (ℕ × Taken)
with_range taken first e = insert_entry nat_cmp taken first e

-- without the range that is taken from `first` on
abbrev pub without_range : List (ℕ × Taken) → ℕ → List (ℕ × Taken)
without_range taken first = remove_entry (is_at (nat_cmp first)) taken

-- the taken range begins there
abbrev pub is_from : ℕ → ℕ × Taken → Bool
is_from first e = is_eq (nat_cmp first e.0)

-- with the range that is taken from `first` on changed
abbrev pub changed : ℕ → (Taken → Taken) → List (ℕ × Taken) → List (ℕ × Taken)
changed first f taken = map (λ e. (e.0, if is_from first e then f e.1 else e.1)) taken

-- with one pin more, with one less, and freed in a transaction group
abbrev pub pinned : Taken → Taken
pinned e = record e { pins = e.pins + 1 }

abbrev pub unpinned : Taken → Taken
unpinned e = record e { pins = e.pins - 1 }

abbrev pub freed_in : ℕ → Taken → Taken
freed_in t e = record e { freed = In t }

-- what was freed in the transaction group or in one before is settled
abbrev pub settled_by : ℕ → Freed → Freed
settled_by t Not = Not
settled_by t (In u) = if nat_le u t then Settled else In u
settled_by t Settled = Settled

abbrev pub settled : ℕ → Taken → Taken
settled t e = record e { freed = settled_by t e.freed }

-- a range is over where it was freed, that is settled, and no pin is on it
abbrev pub is_settled : Freed → Bool
is_settled Not = false
is_settled (In u) = false
is_settled Settled = true

abbrev pub is_over : Taken → Bool
is_over e = is_settled e.freed && e.pins == 0

-- without the ranges that are over: these are free
abbrev pub still_taken : List (ℕ × Taken) → List (ℕ × Taken)
still_taken taken = filter (λ e. not (is_over e.1)) taken

-- what is taken once a transaction group is settled
abbrev pub settled_all : ℕ → List (ℕ × Taken) → List (ℕ × Taken)
settled_all t taken = still_taken (map (λ e. (e.0, settled t e.1)) taken)

-- a mirror once a transaction group is settled
abbrev pub settled_mirror : ℕ → MirrorView → MirrorView
settled_mirror t m = record m { taken = settled_all t m.taken }

-- how many pins are on the range that is taken from `first` on
abbrev pub pins_at : List (ℕ × Taken) → ℕ → ℕ
pins_at taken first = unwrap_or (option_map (λ e. e.pins) (taken_at taken first)) 0

-- a range of n sectors is taken from `first` on
pub record IsTaken (taken : List (ℕ × Taken)) (first n : ℕ) : Type 0 where
  pub range : Taken
  pub there : taken_at taken first ≡ Some range
  pub size : range.sectors ≡ n

-- a range of n sectors is taken from `first` on and was not freed
pub record IsInUse (taken : List (ℕ × Taken)) (first n : ℕ) : Type 0 where
  pub range : Taken
  pub there : taken_at taken first ≡ Some range
  pub size : range.sectors ≡ n
  pub used : range.freed ≡ Not
