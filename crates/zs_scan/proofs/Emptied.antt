-- Sets that are emptied one after the other.
use Rattle.std.proofs.Common.{◌≡◌, ◌<◌, ◌+◌, ◌++◌, ℕ, zero, suc, List, [], ◌∷◌, set, take, drop, length, refl, subst, ap, arith}
use Rattle.zs_ranges.specs.declared.set.Interval.{Interval}
use Rattle.zs_scan.specs.Steps.{emptied}

-- one more of the sets
one_more : (xs : List (List Interval)) (i : ℕ) → i < length xs → set (emptied (take i xs) ++ drop i xs) i [] ≡ emptied (take (suc i) xs) ++ drop (suc i) xs
one_more [] i below = absurd (omega (arith, below))
one_more (x ∷ xs) zero below = refl
one_more (x ∷ xs) (suc i) below = ap (λ (l : List (List Interval)). [] ∷ l) (one_more xs i (omega (arith, below)))

next : (i : ℕ) → suc i ≡ i + 1
next i = omega arith

pub emptied_more : (xs sets : List (List Interval)) (i : ℕ) (y : List Interval) → i < length xs → sets ≡ emptied (take i xs) ++ drop i xs → y ≡ [] → set sets i y ≡ emptied (take (i + 1) xs) ++ drop (i + 1) xs
emptied_more xs sets i y below so_far none = rw (so_far, none) (subst (λ (k : ℕ). set (emptied (take i xs) ++ drop i xs) i [] ≡ emptied (take k xs) ++ drop k xs) (next i) (one_more xs i below))
