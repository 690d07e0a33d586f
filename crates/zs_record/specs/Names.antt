-- Names.
use Rattle.std.specs.Prelude.{ℕ, ◌&&◌, ◌||◌, ◌==◌, nat_le, Bool, List, take, drop, Ok, Err, if◌then◌else◌}
use Rattle.std.specs.Int.{w8}
use Rattle.std.specs.List.{list_all}
use Rattle.zs_ids.specs.declared.dataset.Name.{Name}
use Rattle.zs_record.specs.declared.fault.RecordFault.TheVariants as faults
use Rattle.zs_record.specs.Reading.{Read, ◌>>=◌}
use Rattle.zs_record.specs.Numbers.{number_within, bytes_of}

-- a lower-case letter or a digit
abbrev pub is_name_byte : ℕ → Bool
is_name_byte b = nat_le 97 b && nat_le b 122 || nat_le 48 b && nat_le b 57

-- the first bytes are letters or digits, and the others zero
abbrev pub is_name : ℕ → List ℕ → Bool
is_name len bytes = list_all is_name_byte (take len bytes) && list_all (λ b. b == 0) (drop len bytes)

-- a name of a length from least to most: the length, and twelve bytes of which those that are not used are zero
unfoldable pub name_of : ℕ → ℕ → List ℕ → Read Name
name_of least most bytes = do
  len ← number_within w8 least most bytes
  text ← bytes_of 12 len.1
  if is_name len.0 text.0 then Ok (record { len = len.0; bytes = text.0 }, text.1) else Err faults.Field
