-- The last transaction group in which a block of a dataset may be born.
use Rattle.std.proofs.Common.{◌≡◌, ◌≤◌, ℕ, Bool, true, false, cond, ap, arith}
use Rattle.std.specs.Prelude.{if◌then◌else◌}
use Rattle.zs_ids.specs.Graph.{Dataset}
use Rattle.zs_ids.specs.GraphValid.{last_birth}

-- the last birth in a snapshot, and the end of a pass over it
pub last_in_snapshot : (d : Dataset) (n : ℕ) → d.head ≡ false → last_birth d n ≡ d.creation
last_in_snapshot d n is = ap (λ (b : Bool). if b then n else d.creation) is

pub last_in_head : (d : Dataset) (n : ℕ) → d.head ≡ true → last_birth d n ≡ n
last_in_head d n is = ap (λ (b : Bool). if b then n else d.creation) is

-- the last birth is not above a later group
pub last_at_most : (d : Dataset) (n : ℕ) → d.creation ≤ n → last_birth d n ≤ n
last_at_most d n le = go d.head
  where
    go : (b : Bool) → cond b n d.creation ≤ n
    go true = omega arith
    go false = le
