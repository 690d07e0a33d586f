-- Sets of transaction groups.
use Rattle.std.specs.Prelude.{ℕ, ◌+◌, nat_lt, List, Ok, Err, if◌then◌else◌}
use Rattle.std.specs.Int.{w32, w64}
use Rattle.zs_ranges.specs.declared.set.Interval.{Interval}
use Rattle.zs_record.specs.declared.fault.RecordFault.TheVariants as faults
use Rattle.zs_record.specs.Reading.{Read, ◌>>=◌, items_of}
use Rattle.zs_record.specs.Numbers.{number_within}

-- a transaction group from 1 to `last`, not below `from`
unfoldable pub txg_from : ℕ → ℕ → List ℕ → Read ℕ
txg_from last from bytes = number_within w64 1 last bytes >>= λ t. if nat_lt t.0 from then Err faults.Order else Ok t

-- an interval that begins at `from` or later and ends by `last`
unfoldable pub interval_of : ℕ → ℕ → List ℕ → Read Interval
interval_of last from bytes = do
  lower ← txg_from last from bytes
  upper ← txg_from last lower.0 lower.1
  Ok (record { first = lower.0; last = upper.0 }, upper.1)

-- after an interval a group is missing
abbrev pub after : ℕ → Interval → ℕ
after from s = s.last + 2

-- so many intervals, rising with a gap
abbrev pub intervals_of : ℕ → ℕ → ℕ → List ℕ → Read (List Interval)
intervals_of last count from bytes = items_of (interval_of last) after count from bytes

-- a set of at most so many intervals, of groups from 1 to `last`
unfoldable pub set_of : ℕ → ℕ → List ℕ → Read (List Interval)
set_of most last bytes = number_within w32 0 most bytes >>= λ count. intervals_of last count.0 0 count.1

-- the sets of so many devices
abbrev pub logs_of : ℕ → ℕ → ℕ → List ℕ → Read (List (List Interval))
logs_of most last count bytes = items_of (λ (dev : ℕ). set_of most last) (λ dev spans. dev + 1) count 0 bytes
