-- The head of a record.
use Rattle.std.specs.Prelude.{ℕ, zero, suc, ◌-◌, ◌*◌, ◌/◌, ◌%◌, ◌^◌, ◌==◌, ◌&&◌, nat_lt, not, Bool, true, List, Result, Ok, Err, codes, if◌then◌else◌}
use Rattle.std.specs.Int.{w32, w64}
use lib.Pointwise.{pointwise}
use Rattle.zs_ids.specs.declared.limits.TheConstants.{DATASETS, TXG_END}
use Rattle.zs_record.specs.declared.fault.RecordFault.{RecordFault}
use Rattle.zs_record.specs.declared.fault.RecordFault.TheVariants as faults
use Rattle.zs_record.specs.declared.head.Head.{Head}
use Rattle.zs_record.specs.declared.mirrors.Mirrors.{Mirrors}
use Rattle.zs_record.specs.Reading.{Read, ◌>>=◌}
use Rattle.zs_record.specs.Numbers.{number_of, number_within, bytes_of}

-- the bytes with which a record begins
unfoldable pub magic : List ℕ
magic = codes "ZSCANREC"

-- what follows the magic
unfoldable pub behind_magic : List ℕ → Result (List ℕ) RecordFault
behind_magic bytes = bytes_of 8 bytes >>= λ front. if pointwise ◌==◌ front.0 magic then Ok front.1 else Err faults.Magic

-- what follows the version
unfoldable pub behind_version : List ℕ → Result (List ℕ) RecordFault
behind_version bytes = number_of w32 bytes >>= λ version. if version.0 == 1 then Ok version.1 else Err faults.BadVersion

-- how many devices there are
abbrev pub devices_of : Mirrors → ℕ
devices_of mirrors = mirrors.count * mirrors.width

-- the mask leaves a device to each of so many mirrors
abbrev pub leaves_each : ℕ → ℕ → ℕ → Bool
leaves_each width zero mask = true
leaves_each width (suc n) mask = not (mask % 2 ^ width == 2 ^ width - 1) && leaves_each width n (mask / 2 ^ width)

-- a mask of devices that may be offline at once
unfoldable pub is_offline : Mirrors → ℕ → Bool
is_offline mirrors mask = nat_lt mask (2 ^ devices_of mirrors) && leaves_each mirrors.width mirrors.count mask

-- the devices that are offline
unfoldable pub offline_of : Mirrors → List ℕ → Read ℕ
offline_of mirrors bytes = number_of w32 bytes >>= λ mask. if is_offline mirrors mask.0 then Ok mask else Err faults.Field

-- the head of a record of a pool with these mirrors
unfoldable pub head_of : Mirrors → List ℕ → Read Head
head_of mirrors bytes = do
  version ← behind_magic bytes
  numbers ← behind_version version
  txg ← number_within w64 1 (TXG_END - 1) numbers
  next ← number_of w32 txg.1
  datasets ← number_within w32 1 DATASETS next.1
  devices ← number_within w32 (devices_of mirrors) (devices_of mirrors) datasets.1
  offline ← offline_of mirrors devices.1
  Ok (record { txg = txg.0; next_id = next.0; datasets = datasets.0; offline = offline.0 }, offline.1)
