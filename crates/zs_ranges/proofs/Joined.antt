-- The lowest intervals joined.
use Rattle.std.proofs.Common.{◌≡◌, ◌≤◌, ◌<◌, ◌+◌, ◌-◌, ℕ, zero, suc, List, [], ◌∷◌, length, get_or, set, drop, arith, refl, ap, sym, ◌∙◌}
use Rattle.std.proofs.lemmas.List.{drop-set}
use Rattle.zs_ranges.specs.declared.set.Interval.{Interval}
use Rattle.zs_ranges.specs.Set.{RisesFrom, IsCanonical, joined_with_next, joined_to}

last_at : (k : ℕ) (s n d : Interval) (ss : List Interval) → (get_or (record { first = s.first; last = n.last } ∷ ss) k d).last ≡ (get_or (n ∷ ss) k d).last
last_at zero s n d ss = refl
last_at (suc k) s n d ss = refl

-- the joined interval ends where the last one that it takes in does
joined_is : (k : ℕ) (s d : Interval) (ss : List Interval) → k ≤ length ss → joined_with_next k s ss ≡ record { first = s.first; last = (get_or (s ∷ ss) k d).last } ∷ drop k ss
joined_is zero s d ss le = refl
joined_is (suc k) s d [] le = absurd (omega arith)
joined_is (suc k) s d (n ∷ ss) le =
    joined_is k (record { first = s.first; last = n.last }) d ss (omega arith)
    ∙ ap (λ l. record { first = s.first; last = l } ∷ drop k ss) (last_at k s n d ss)

rises_joined : (k : ℕ) (s : Interval) (ss : List Interval) (from : ℕ) → RisesFrom from (s ∷ ss) → RisesFrom from (joined_with_next k s ss)
rises_joined zero s ss from r = r
rises_joined (suc k) s [] from r = r
rises_joined (suc k) s (n ∷ ss) from r =
    let filled : s.first ≤ s.last = r.1 in
    let apart : s.last + 2 ≤ n.first = r.2.0 in
    let next : n.first ≤ n.last = r.2.1 in
    rises_joined k (record { first = s.first; last = n.last }) ss from (r.0, omega arith, r.2.2)

pub joined_canonical : (most : ℕ) (ss : List Interval) → IsCanonical ss → IsCanonical (joined_to most ss)
joined_canonical most [] can = tt
joined_canonical most (s ∷ ss) can = rises_joined (suc (length ss) - most) s ss 0 can

-- a set with no more intervals than that stays
pub joined_few : (most : ℕ) (ss : List Interval) → length ss ≤ most → joined_to most ss ≡ ss
joined_few most [] le = refl
joined_few most (s ∷ ss) le = rw (none) refl
  where
    none : suc (length ss) - most ≡ 0
    none = omega arith

-- the interval that takes the others in, and what is left
pub joined_more : (most more : ℕ) (ss : List Interval) (d e : Interval) → 0 < most → more + most ≡ length ss → joined_to most ss ≡ record { first = (get_or ss 0 d).first; last = (get_or ss more e).last } ∷ drop (more + 1) ss
joined_more most more [] d e pos is = absurd (omega arith)
joined_more most more (s ∷ ss) d e pos is =
    let at : suc (length ss) - most ≡ more = omega arith in
    rw at (joined_is more s e ss (omega arith) ∙ ap (λ k. record { first = s.first; last = (get_or (s ∷ ss) more e).last } ∷ drop k (s ∷ ss)) (let e : suc more ≡ more + 1 = omega arith in e))

-- the interval is written over the last one that it takes in, and those before it are taken out
pub joined_by_set : (most more : ℕ) (ss : List Interval) (x y : Interval) → 0 < most → more + most ≡ length ss → x ≡ get_or ss 0 x → y ≡ get_or ss more y → drop more (set ss more (record { first = x.first; last = y.last })) ≡ joined_to most ss
joined_by_set most more ss x y pos is lowest highest =
    drop-set ss more (record { first = x.first; last = y.last }) (omega arith)
    ∙ ap (λ (f : ℕ). record { first = f; last = y.last } ∷ drop (more + 1) ss) (ap (λ (s : Interval). s.first) lowest)
    ∙ ap (λ (l : ℕ). record { first = (get_or ss 0 x).first; last = l } ∷ drop (more + 1) ss) (ap (λ (s : Interval). s.last) highest)
    ∙ sym (joined_more most more ss x y pos is)
