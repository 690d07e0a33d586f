-- What is so where a call was done.
use Rattle.std.specs.Prelude.{Result, Ok, Err, OnOk}

-- what is so in any case is so there
pub in_any_case : {T E : Type 0} {P : Type 0} (r : Result T E) → P → OnOk r P
in_any_case (Ok x) p = p
in_any_case (Err e) p = tt

-- so is what follows from what is so there
pub where_ok : {T E : Type 0} {P Q : Type 0} (r : Result T E) → (P → Q) → OnOk r P → OnOk r Q
where_ok (Ok x) f p = f p
where_ok (Err e) f p = tt
