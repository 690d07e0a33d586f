-- The state of the scan.
use Rattle.std.specs.Prelude.{ℕ, ◌-◌, ◌^◌, ◌==◌, ◌&&◌, nat_lt, nat_le, bit_and, Bool, List, Ok, Err, if◌then◌else◌}
use Rattle.std.specs.Int.{w8, w32, w64}
use Rattle.zs_ids.specs.declared.key.Key.{Key}
use Rattle.zs_ids.specs.declared.dataset.DsId.{DsId}
use Rattle.zs_phys.specs.declared.phys.At.{At}
use Rattle.zs_phys.specs.declared.phys.At.TheVariants as ats
use Rattle.zs_phys.specs.declared.phys.Status.{Status}
use Rattle.zs_phys.specs.declared.phys.Status.TheVariants.{Never, Scanning, Finished, Canceled}
use Rattle.zs_phys.specs.declared.scope.Kind.{Kind}
use Rattle.zs_phys.specs.declared.scope.Kind.TheVariants.{Idle, Scrub, Resilver}
use Rattle.zs_record.specs.declared.fault.RecordFault.TheVariants as faults
use Rattle.zs_record.specs.declared.mirrors.Mirrors.{Mirrors}
use Rattle.zs_record.specs.declared.scan.Running.{Running}
use Rattle.zs_record.specs.declared.scan.Pass.{Pass}
use Rattle.zs_record.specs.Reading.{Read, ◌>>=◌}
use Rattle.zs_record.specs.Numbers.{number_of, number_within, zeros_of}
use Rattle.zs_record.specs.Blocks.{key_of}
use Rattle.zs_record.specs.Head.{devices_of}

-- the greatest number of a field that stands for this, or 0 where it is not used
abbrev pub if_used : Bool → ℕ → ℕ
if_used used most = if used then most else 0

-- the kind of scan with this number
abbrev pub kind_with : ℕ → Kind
kind_with n = if n == 0 then Idle else if n == 1 then Scrub else Resilver

-- the status with this number
abbrev pub status_with : ℕ → Status
status_with n = if n == 0 then Never else if n == 1 then Scanning else if n == 2 then Finished else Canceled

-- the devices that were away: some of the pool's, and all that are offline
abbrev pub is_away : Mirrors → ℕ → ℕ → Bool
is_away mirrors offline away = nat_lt away (2 ^ devices_of mirrors) && bit_and offline away == offline

unfoldable pub away_of : Mirrors → ℕ → List ℕ → Read ℕ
away_of mirrors offline bytes = number_of w32 bytes >>= λ away. if is_away mirrors offline away.0 then Ok away else Err faults.Field

-- the fields that every scan has
unfoldable pub running_of : Mirrors → ℕ → List ℕ → Read Running
running_of mirrors offline bytes = do
  kind ← number_within w8 0 2 bytes
  status ← number_within w8 (if_used (nat_lt 0 kind.0) 1) (if_used (nat_lt 0 kind.0) 3) kind.1
  paused ← number_within w8 0 (if_used (kind.0 == 1 && status.0 == 1) 1) status.1
  again ← number_within w8 0 (if_used (status.0 == 1) 1) paused.1
  min ← number_within w64 0 (if_used (nat_lt 0 kind.0) (2 ^ 64 - 1)) again.1
  max ← number_within w64 0 (if_used (nat_lt 0 kind.0) (2 ^ 64 - 1)) min.1
  away ← away_of mirrors offline max.1
  Ok (
    record {
      kind = kind_with kind.0;
      status = status_with status.0;
      paused = paused.0 == 1;
      again = again.0 == 1;
      min = min.0;
      max = max.0;
      away = away.0;
    },
    away.1,
  )

-- the key at which a walk is in a dataset, of a depth up to four; all zero where it is in none
abbrev pub is_place_key : Bool → Key → Bool
is_place_key used k = if used then nat_le k.depth 4 else k.object == 0 && (k.rank == 0 && (k.leaf == 0 && k.depth == 0))

unfoldable pub place_key_of : Bool → List ℕ → Read Key
place_key_of used bytes = key_of bytes >>= λ k. if is_place_key used k.0 then Ok k else Err faults.Field

-- where the walk is
abbrev pub at_with : ℕ → DsId → Key → At
at_with n id key = if n == 0 then ats.Nowhere else if n == 1 then ats.Destroyed else ats.Dataset id key

-- where the walk of a scan that is running or not is, and its pass; a dataset that is to come again is one that it is at
unfoldable pub pass_of : Bool → Bool → List ℕ → Read Pass
pass_of scanning again bytes = do
  place ← number_within w8 (if_used again 2) (if_used scanning 2) bytes
  gap ← zeros_of 3 place.1
  id ← number_within w32 0 (if_used (place.0 == 2) (2 ^ 32 - 1)) gap
  key ← place_key_of (place.0 == 2) id.1
  curmin ← number_within w64 0 (if_used (place.0 == 2) (2 ^ 64 - 1)) key.1
  curmax ← number_within w64 0 (if_used (place.0 == 2) (2 ^ 64 - 1)) curmin.1
  Ok (record { at = at_with place.0 (record { 0 = id.0 }) key.0; curmin = curmin.0; curmax = curmax.0 }, curmax.1)
