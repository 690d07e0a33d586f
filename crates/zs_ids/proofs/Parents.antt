-- A block's parent has a lesser key.
use Rattle.std.proofs.Common.{◌≡◌, ◌<◌, ◌≤◌, ◌+◌, ◌-◌, ◌%◌, ◌^◌, ℕ, Bool, true, false, Some, None, refl, sym, subst, arith}
use Rattle.std.specs.Prelude.{nat_le, ◌==◌, if◌then◌else◌}
use Rattle.std.specs.Ordering.{nat_cmp, ordering_then}
use Rattle.std.specs.Cmp.{nat_cmp_is}
use Rattle.std.specs.declared.cmp.Ordering.{Ordering}
use Rattle.std.specs.declared.cmp.Ordering.TheVariants.{Less, Equal}
use Rattle.std.proofs.lemmas.Bool.{cases_lt}
use Rattle.std.proofs.lemmas.Bool.Decides.{nat_tests}
use Rattle.zs_ids.specs.declared.key.Key.{Key}
use Rattle.zs_ids.specs.Key.{key_cmp, root_key, dnode_key}
use Rattle.zs_ids.specs.KeyLaws.{ParentLaw}
use mathlib.Core.Logic.{inl, inr}

less_then : (a b : ℕ) (rest : Ordering) → a < b → ordering_then (nat_cmp a b) rest ≡ Less
less_then a b rest lt = subst (λ (o : Ordering). ordering_then o rest ≡ Less) (nat_cmp_is a b Less lt) refl

same_then : (a b : ℕ) (rest : Ordering) → a ≡ b → rest ≡ Less → ordering_then (nat_cmp a b) rest ≡ Less
same_then a b rest is less = subst (λ (o : Ordering). ordering_then o rest ≡ Less) (nat_cmp_is a b Equal is) less

-- where this part is not greater, the rest decides
up_then : (a b : ℕ) (rest : Ordering) → a ≤ b → rest ≡ Less → ordering_then (nat_cmp a b) rest ≡ Less
up_then a b rest le less = elim (cases_lt a b) [
  | inl lt ↦ less_then a b rest lt
  | inr ge ↦ same_then a b rest (omega (arith, le, ge)) less
]

last_less : (a b : ℕ) → a < b → nat_cmp a b ≡ Less
last_less a b lt = sym (nat_cmp_is a b Less lt)

some_is : (a b : Key) → Some a ≡ Some b → a ≡ b
some_is a b e = cc

-- no part is greater, and the last one is less
deeper_less : (p k : Key) → p.object ≤ k.object → p.rank ≤ k.rank → p.leaf ≤ k.leaf → p.depth < k.depth → key_cmp p k ≡ Less
deeper_less p k object rank leaf depth =
    up_then p.object k.object _ object (up_then p.rank k.rank _ rank (up_then p.leaf k.leaf _ leaf (last_less p.depth k.depth depth)))

-- the object is not greater, and the rank is less
rank_less : (p k : Key) → p.object ≤ k.object → p.rank < k.rank → key_cmp p k ≡ Less
rank_less p k object rank = up_then p.object k.object _ object (less_then p.rank k.rank _ rank)

-- the key of the block above, at the same object
abbrev up_key : Key → Key
up_key k = record k { leaf = k.leaf - k.leaf % 64 ^ (4 - k.depth); depth = k.depth - 1 }

module _ (k p : Key) (levels : ℕ) (few : levels ≤ 4) where
  is_below : (above : Key) → Some above ≡ Some p → key_cmp above k ≡ Less → key_cmp p k ≡ Less
  is_below above is less = subst (λ (x : Key). key_cmp x k ≡ Less) (some_is above p is) less

  by_case : (a b c : Bool) → (k.rank == 0) ≡ a → (k.depth == 0) ≡ b → nat_le (levels + k.depth) 4 ≡ c
      → (if a then (if b then None else Some root_key) else (if c then Some (dnode_key k.object) else Some (up_key k))) ≡ Some p → key_cmp p k ≡ Less
  by_case true true c rank depth top is = absurd cc
  by_case true false c rank depth top is =
      is_below root_key is (deeper_less root_key k (omega arith) (omega arith) (omega arith) (grind (arith, nat_tests)))
  by_case false b true rank depth top is =
      is_below (dnode_key k.object) is (rank_less (dnode_key k.object) k (omega arith) (grind (arith, nat_tests)))
  by_case false b false rank depth top is =
      is_below (up_key k) is (deeper_less (up_key k) k (omega arith) (omega arith) (omega arith) (grind (arith, nat_tests)))

pub parent_below : ParentLaw
parent_below k p levels few is = by_case k p levels few (k.rank == 0) (k.depth == 0) (nat_le (levels + k.depth) 4) refl refl refl is
