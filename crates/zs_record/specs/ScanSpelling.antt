-- How the state of a scan is spelled.
use Rattle.std.specs.Prelude.{ℕ, Bool, List, ◌++◌, replicate, if◌then◌else◌}
use Rattle.std.specs.Int.{w8, w32, w64}
use Rattle.zs_ids.specs.declared.dataset.DsId.{DsId}
use Rattle.zs_ids.specs.declared.key.Key.{Key}
use Rattle.zs_ids.specs.Key.{root_key}
use Rattle.zs_phys.specs.declared.phys.At.{At}
use Rattle.zs_phys.specs.declared.phys.At.TheVariants as ats
use Rattle.zs_phys.specs.declared.phys.Status.{Status}
use Rattle.zs_phys.specs.declared.phys.Status.TheVariants.{Never, Scanning, Finished, Canceled}
use Rattle.zs_phys.specs.declared.scope.Kind.{Kind}
use Rattle.zs_phys.specs.declared.scope.Kind.TheVariants.{Idle, Scrub, Resilver}
use Rattle.zs_record.specs.declared.scan.Running.{Running}
use Rattle.zs_record.specs.declared.scan.Pass.{Pass}
use Rattle.zs_record.specs.Numbers.{number_bytes}
use Rattle.zs_record.specs.Spelling.{key_bytes}

-- the number of a kind of scan
abbrev pub number_of_kind : Kind → ℕ
number_of_kind Idle = 0
number_of_kind Scrub = 1
number_of_kind Resilver = 2

-- the number of a status
abbrev pub number_of_status : Status → ℕ
number_of_status Never = 0
number_of_status Scanning = 1
number_of_status Finished = 2
number_of_status Canceled = 3

-- the byte of what holds or does not
abbrev pub flag : Bool → ℕ
flag holds = if holds then 1 else 0

-- what every scan has
unfoldable pub running_bytes : Running → List ℕ
running_bytes r =
    number_bytes w8 (number_of_kind r.kind) ++ number_bytes w8 (number_of_status r.status) ++ number_bytes w8 (flag r.paused)
    ++ number_bytes w8 (flag r.again) ++ number_bytes w64 r.min ++ number_bytes w64 r.max ++ number_bytes w32 r.away

-- where a walk is: the number of the place, three zeros, the dataset and the key
unfoldable pub place_bytes : ℕ → DsId → Key → List ℕ
place_bytes place id key = number_bytes w8 place ++ replicate 3 0 ++ number_bytes w32 id.0 ++ key_bytes key

-- the same by the place; one that is in no dataset has zeros for dataset and key
unfoldable pub at_bytes : At → List ℕ
at_bytes ats.Nowhere = place_bytes 0 (record { 0 = 0 }) root_key
at_bytes ats.Destroyed = place_bytes 1 (record { 0 = 0 }) root_key
at_bytes (ats.Dataset id key) = place_bytes 2 id key

-- where a walk is, and its pass
unfoldable pub pass_bytes : Pass → List ℕ
pass_bytes p = at_bytes p.at ++ number_bytes w64 p.curmin ++ number_bytes w64 p.curmax
