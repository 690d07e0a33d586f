-- What is so where a call was refused.
use Rattle.std.specs.Prelude.{Result, Ok, Err, OnErr}

-- what is so in any case is so there
pub if_refused : {T E P : Type 0} (r : Result T E) → P → OnErr r P
if_refused (Ok x) p = tt
if_refused (Err e) p = p
