-- The entries of the ledger: what a scan has checked.
use Rattle.std.specs.Prelude.{ℕ, zero, suc, ◌-◌, ◌^◌, nat_lt, Bool, List, [], ◌∷◌, ◌++◌, Ok, Err, replicate, if◌then◌else◌}
use Rattle.std.specs.Int.{w8, w16, w32, w64}
use Rattle.zs_ledger.specs.declared.entry.CopyResult.{CopyResult}
use Rattle.zs_ledger.specs.declared.entry.CopyResult.TheVariants.{Missing, Good, Rewritten, Bad, Fault, Absent}
use Rattle.zs_ledger.specs.declared.entry.Entry.{Entry}
use Rattle.zs_ledger.specs.Kept.{has_piece}
use Rattle.zs_record.specs.declared.fault.RecordFault.TheVariants as faults
use Rattle.zs_record.specs.declared.mirrors.Mirrors.{Mirrors}
use Rattle.zs_record.specs.Reading.{Read, ◌>>=◌, items_of}
use Rattle.zs_record.specs.Numbers.{number_of, number_within, bytes_of}

-- the byte of a copy's result
abbrev pub number_of_copy : CopyResult → ℕ
number_of_copy Missing = 0
number_of_copy Good = 1
number_of_copy Rewritten = 2
number_of_copy Bad = 3
number_of_copy Fault = 4
number_of_copy Absent = 5

-- what a byte says of a copy
abbrev pub copy_with : ℕ → CopyResult
copy_with zero = Missing
copy_with (suc zero) = Good
copy_with (suc (suc zero)) = Rewritten
copy_with (suc (suc (suc zero))) = Bad
copy_with (suc (suc (suc (suc zero)))) = Fault
copy_with (suc (suc (suc (suc (suc n))))) = Absent

-- the result of a copy that the mirror has, or of one that it has not
unfoldable pub copy_of : Bool → List ℕ → Read CopyResult
copy_of there bytes = do
  n ← number_within w8 (if there then 1 else 0) (if there then 5 else 0) bytes
  Ok (copy_with n.0, n.1)

-- the results of four copies, of which a mirror of that width has the first
unfoldable pub copies_of : ℕ → List ℕ → Read (List CopyResult)
copies_of width bytes = do
  a ← copy_of (nat_lt 0 width) bytes
  b ← copy_of (nat_lt 1 width) a.1
  c ← copy_of (nat_lt 2 width) b.1
  d ← copy_of (nat_lt 3 width) c.1
  Ok (a.0 ∷ b.0 ∷ c.0 ∷ d.0 ∷ [], d.1)

-- an entry with a sum, and with no places of calls in the journals of this opening
abbrev pub with_sum : Entry → List ℕ → Entry
with_sum e sum = record e { sum = sum }

-- the fields before the sum, of a piece of one of the mirrors that was born by `last`
unfoldable pub front_of : Mirrors → ℕ → List ℕ → Read Entry
front_of mirrors last bytes = do
  vdev ← number_within w8 0 (mirrors.count - 1) bytes
  copies ← copies_of mirrors.width vdev.1
  pad ← number_within w8 0 0 copies.1
  sectors ← number_of w16 pad.1
  sector ← number_of w32 sectors.1
  gap ← number_within w32 0 0 sector.1
  birth ← number_within w64 1 last gap.1
  Ok (
    record {
      piece = record { place = record { vdev = vdev.0; sector = sector.0 }; birth = birth.0 };
      sectors = sectors.0;
      sum = replicate 32 0;
      copies = copies.0;
      marks = replicate 4 (2 ^ 64 - 1);
    },
    birth.1,
  )

-- an entry of a piece of which none of those before it is
unfoldable pub checked_of : Mirrors → ℕ → List Entry → List ℕ → Read Entry
checked_of mirrors last before bytes =
    front_of mirrors last bytes >>= λ front. if has_piece before front.0.piece then Err faults.Order
    else (bytes_of 32 front.1 >>= λ sum. Ok (with_sum front.0 sum.0, sum.1))

-- so many entries, each of another piece
abbrev pub all_checked : Mirrors → ℕ → ℕ → List Entry → List ℕ → Read (List Entry)
all_checked mirrors last count before bytes = items_of (checked_of mirrors last) (λ so_far e. so_far ++ e ∷ []) count before bytes

-- the ledger: how many entries, and they
unfoldable pub ledger_of : Mirrors → ℕ → List ℕ → Read (List Entry)
ledger_of mirrors last bytes = number_of w32 bytes >>= λ count. all_checked mirrors last count.0 [] count.1
