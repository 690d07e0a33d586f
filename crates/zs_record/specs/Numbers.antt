-- Numbers, zeros and sums.
use Rattle.std.specs.Prelude.{ℕ, ◌==◌, ◌||◌, nat_lt, Bool, List, length, take, drop, Ok, Err, Result, if◌then◌else◌}
use Rattle.std.specs.Int.{Width, byte_len, from_be_bytes, to_be_bytes}
use Rattle.std.specs.List.{list_all}
use Rattle.zs_record.specs.declared.fault.RecordFault.{RecordFault}
use Rattle.zs_record.specs.declared.fault.RecordFault.TheVariants as faults
use Rattle.zs_record.specs.Reading.{Read, ◌>>=◌}

-- a number of some width, its most significant byte first
unfoldable pub number_of : Width → List ℕ → Read ℕ
number_of w bytes =
    if nat_lt (length bytes) (byte_len w) then Err faults.Short
    else Ok (from_be_bytes w (take (byte_len w) bytes), drop (byte_len w) bytes)

-- how such a number is spelled
unfoldable pub number_bytes : Width → ℕ → List ℕ
number_bytes w n = to_be_bytes w n

-- the number is not from least to most
abbrev pub is_outside : ℕ → ℕ → ℕ → Bool
is_outside least most n = nat_lt n least || nat_lt most n

-- a number from least to most
unfoldable pub number_within : Width → ℕ → ℕ → List ℕ → Read ℕ
number_within w least most bytes = number_of w bytes >>= λ n. if is_outside least most n.0 then Err faults.Field else Ok n

-- so many bytes as they stand
unfoldable pub bytes_of : ℕ → List ℕ → Read (List ℕ)
bytes_of n bytes = if nat_lt (length bytes) n then Err faults.Short else Ok (take n bytes, drop n bytes)

-- so many zeros, which tell nothing: what is left is the bytes behind them
unfoldable pub zeros_of : ℕ → List ℕ → Result (List ℕ) RecordFault
zeros_of n bytes = bytes_of n bytes >>= λ front. if list_all (λ b. b == 0) front.0 then Ok front.1 else Err faults.Field
