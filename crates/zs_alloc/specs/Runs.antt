-- Runs of free sectors, in a list that says of each sector whether it is free.
use Rattle.std.specs.Prelude.{◌≡◌, ◌<◌, ◌≤◌, ◌+◌, ◌-◌, ◌==◌, ℕ, Bool, true, false, max, if◌then◌else◌, List, ◌++◌, length, slice_index_or}
use Rattle.zs_alloc.specs.declared.tree.Runs.{Runs}
use Rattle.zs_alloc.specs.declared.tree.Tree.{Tree}
use Rattle.zs_alloc.specs.declared.tree.Tree.TheVariants.{Chunk, Both'}
use Rattle.zs_alloc.specs.Free.{is_within}

-- the sector is free; none behind the last one is
abbrev pub is_set : List Bool → ℕ → Bool
is_set flags s = slice_index_or flags s false

-- the n sectors from `first` on are free
pub record HasRun (flags : List Bool) (first n : ℕ) : Type 0 where
  pub each : (s : ℕ) → first ≤ s → s < first + n → is_set flags s ≡ true

-- n free sectors follow each other somewhere
pub record HasSomeRun (flags : List Bool) (n : ℕ) : Type 0 where
  pub from : ℕ
  pub run : HasRun flags from n

-- the n sectors from `first` on are free, and there is no lower such run
pub record IsFirstRun (flags : List Bool) (n first : ℕ) : Type 0 where
  pub free : HasRun flags first n
  pub lowest : (s : ℕ) → HasRun flags s n → first ≤ s

-- the run that ends before the sector `end` has this length
pub record IsRunUpTo (flags : List Bool) (end run : ℕ) : Type 0 where
  pub bound : run ≤ end
  pub free : HasRun flags (end - run) run
  pub ends : run < end → is_set flags (end - run - 1) ≡ false

-- the length of the sectors, of the run at their beginning, of the one at their end, and of the longest one
pub record IsRuns (flags : List Bool) (r : Runs) : Type 0 where
  pub len : r.len ≡ length flags
  pub before_bound : r.before ≤ length flags
  pub before : HasRun flags 0 r.before
  pub before_ends : r.before < length flags → is_set flags r.before ≡ false
  pub behind : IsRunUpTo flags (length flags) r.behind
  pub most : (s n : ℕ) → 0 < n → HasRun flags s n → n ≤ r.longest
  pub from : ℕ
  pub longest : HasRun flags from r.longest
  pub longest_bound : from + r.longest ≤ length flags

-- the sectors from `first` on and below `end` are free, or none of them is, and the others are as they were
pub record IsSet (old : List Bool) (first end : ℕ) (free : Bool) (new : List Bool) : Type 0 where
  pub len : length new ≡ length old
  pub each : (s : ℕ) → is_set new s ≡ (if is_within first end s then free else is_set old s)

-- of each sector of a part whether it is free
abbrev pub flags_of : Tree → List Bool
flags_of (Chunk runs flags) = flags.items
flags_of (Both' runs p left q right) = flags_of left ++ flags_of right

-- each part knows its runs
abbrev pub IsSummed : Tree → Type 0
IsSummed (Chunk runs flags) = IsRuns flags.items runs
IsSummed (Both' runs p left q right) = IsSummed left × IsSummed right × IsRuns (flags_of left ++ flags_of right) runs

-- the runs of two parts together
abbrev pub joined : Runs → Runs → Runs
joined near far = record {
  len = near.len + far.len;
  before = if near.before == near.len then near.len + far.before else near.before;
  behind = if far.behind == far.len then far.len + near.behind else far.behind;
  longest = max (max near.longest far.longest) (near.behind + far.before);
}
