-- What is always true of a mirror's space.
use Rattle.std.specs.Prelude.{◌≡◌, ◌<◌, ◌≤◌, ◌+◌, ◌==◌, ℕ, Bool, true, false, ◌&&◌, nat_le, if◌then◌else◌, Some, List, [], ◌∷◌, length, map}
use Rattle.std.specs.Ordering.{nat_cmp, is_eq}
use Rattle.std.specs.List.{list_any}
use Rattle.std.specs.Map.{keys_of}
use Rattle.std.specs.List.Sorted.{IsStrictlySortedBy}
use Rattle.zs_alloc.specs.declared.tree.Tree.{Tree}
use Rattle.zs_alloc.specs.declared.taken.Taken.{Taken}
use Rattle.zs_alloc.specs.declared.taken.Freed.{Freed}
use Rattle.zs_alloc.specs.declared.taken.Freed.TheVariants.{Not, In, Settled}
use Rattle.zs_alloc.specs.declared.mirror.Freeing.{Freeing}
use Rattle.zs_alloc.specs.Free.{free_count, hits}
use Rattle.zs_alloc.specs.Runs.{flags_of, IsSummed}
use Rattle.zs_alloc.specs.Space.{MirrorView, is_over, taken_at, still_taken, settled}

-- how many of the taken ranges have the sector
abbrev pub taken_count : List (ℕ × Taken) → ℕ → ℕ
taken_count [] s = 0
taken_count (e ∷ es) s = hits e.0 (e.0 + e.1.sectors) s + taken_count es s

-- no taken range is empty
abbrev pub AreSome : List (ℕ × Taken) → Type 0
AreSome [] = Unit {0}
AreSome (e ∷ es) = (0 < e.1.sectors) × AreSome es

-- no range is over
abbrev pub AreKept : List (ℕ × Taken) → Type 0
AreKept [] = Unit {0}
AreKept (e ∷ es) = (is_over e.1 ≡ false) × AreKept es

-- what a mirror's taken ranges keep to
pub record IsLaidOut (m : MirrorView) : Type 0 where
  -- each sector of the space is in at most one of them, and no other sector is in any
  pub apart : (s : ℕ) → taken_count m.taken s ≤ hits m.start m.end s
  -- none is empty
  pub some : AreSome m.taken
  -- none is over
  pub kept : AreKept m.taken
  -- they rise
  pub sorted : IsStrictlySortedBy nat_cmp (keys_of m.taken)

-- there is such a range already, of the same size
pub record IsUpdate (taken : List (ℕ × Taken)) (first : ℕ) (range : Taken) : Type 0 where
  pub was : Taken
  pub there : taken_at taken first ≡ Some was
  pub size : was.sectors ≡ range.sectors

-- each sector of the space is free or in one taken range, and no other sector is
pub record IsSplit (start end : ℕ) (free : List Bool) (taken : List (ℕ × Taken)) : Type 0 where
  pub parts : (s : ℕ) → free_count free s + taken_count taken s ≡ hits start end s
  pub some : AreSome taken
  pub kept : AreKept taken
  pub sorted : IsStrictlySortedBy nat_cmp (keys_of taken)

-- so it is by a tree of the free sectors, which knows its runs
pub record IsSplitBy (start end : ℕ) (free : Tree) (taken : List (ℕ × Taken)) : Type 0 where
  pub split : IsSplit start end (flags_of free) taken
  pub summed : IsSummed free
  pub len : length (flags_of free) ≡ end

-- a range that was freed in a transaction group that is not settled is in the list
abbrev pub IsListed : List Freeing → ℕ → Freed → Type 0
IsListed waiting first Not = Unit {0}
IsListed waiting first (In t) = list_any (λ w. is_eq (nat_cmp w.sector first) && w.txg == t) waiting ≡ true
IsListed waiting first Settled = Unit {0}

abbrev pub AreListed : List Freeing → List (ℕ × Taken) → Type 0
AreListed waiting [] = Unit {0}
AreListed waiting (e ∷ es) = IsListed waiting e.0 e.1.freed × AreListed waiting es

-- the list has a range from this sector on that was freed in the transaction group or before
abbrev pub is_due : List Freeing → ℕ → ℕ → Bool
is_due waiting t first = list_any (λ w. nat_le w.txg t && is_eq (nat_cmp w.sector first)) waiting

-- what is taken once the ranges of a test are settled
abbrev pub settled_if : (ℕ → Bool) → ℕ → List (ℕ × Taken) → List (ℕ × Taken)
settled_if test t taken = still_taken (map (λ e. (e.0, if test e.0 then settled t e.1 else e.1)) taken)
