-- What joining the lowest intervals adds: the gaps between them, and nothing else.
use Rattle.std.proofs.Common.{◌≡◌, ◌≤◌, ◌+◌, ◌-◌, ◌⊎◌, ◌||◌, ℕ, zero, suc, true, false, List, [], ◌∷◌, length, take, arith, refl, subst, ap, ◌∙◌, inl, inr}
use Rattle.std.proofs.lemmas.Bool.{or_cases, cases_lt}
use Rattle.std.proofs.lemmas.Bool.Decides.{nat_tests}
use Rattle.std.proofs.Math.Bool.{or-true}
use Rattle.zs_ranges.specs.declared.set.Interval.{Interval}
use Rattle.zs_ranges.specs.Set.{has_txg, is_between, RisesFrom, IsCanonical, joined_with_next, joined_to}
use Rattle.zs_ranges.specs.Joining.{IsLeast, IsGreatest, LiesBetween, lowest, JoinedLaw}

between : (a b t : ℕ) → is_between a b t ≡ true → (a ≤ t) × (t ≤ b)
between a b t is = (grind (arith, nat_tests), grind (arith, nat_tests))

between_is : (a b t : ℕ) → a ≤ t → t ≤ b → is_between a b t ≡ true
between_is a b t p q = grind (arith, nat_tests)

-- a group is the first interval's or another's
split : (s : Interval) (ss : List Interval) (t : ℕ) → has_txg (s ∷ ss) t ≡ true → ((s.first ≤ t) × (t ≤ s.last)) ⊎ (has_txg ss t ≡ true)
split s ss t has = elim (or_cases (is_between s.first s.last t) (has_txg ss t) has) [ inl at ↦ inl (between s.first s.last t at) | inr rest ↦ inr rest ]

in_first : (s : Interval) (ss : List Interval) (t : ℕ) → s.first ≤ t → t ≤ s.last → has_txg (s ∷ ss) t ≡ true
in_first s ss t p q = ap (λ b. b || has_txg ss t) (between_is s.first s.last t p q)

in_rest : (s : Interval) (ss : List Interval) (t : ℕ) → has_txg ss t ≡ true → has_txg (s ∷ ss) t ≡ true
in_rest s ss t has = ap (λ b. is_between s.first s.last t || b) has ∙ or-true (is_between s.first s.last t)

has-take : (k : ℕ) (ss : List Interval) (t : ℕ) → has_txg (take k ss) t ≡ true → has_txg ss t ≡ true
has-take zero [] t has = has
has-take zero (s ∷ ss) t has = absurd cc
has-take (suc k) [] t has = has
has-take (suc k) (s ∷ ss) t has = elim (split s (take k ss) t has) [
  | inl at ↦ in_first s ss t at.0 at.1
  | inr rest ↦ in_rest s ss t (has-take k ss t rest)
]

-- two intervals as one, the gap between them included
abbrev both : Interval → Interval → Interval
both s n = record { first = s.first; last = n.last }

rises_both : (s n : Interval) (ss : List Interval) (from : ℕ) → RisesFrom from (s ∷ n ∷ ss) → RisesFrom from (both s n ∷ ss)
rises_both s n ss from r =
    let filled : s.first ≤ s.last = r.1 in
    let apart : s.last + 2 ≤ n.first = r.2.0 in
    let next : n.first ≤ n.last = r.2.1 in
    (r.0, omega arith, r.2.2)

both_keeps : (s n : Interval) (ss rest : List Interval) (from t : ℕ) → RisesFrom from (s ∷ n ∷ ss) → has_txg (s ∷ n ∷ rest) t ≡ true → has_txg (both s n ∷ rest) t ≡ true
both_keeps s n ss rest from t r has =
    let filled : s.first ≤ s.last = r.1 in
    let apart : s.last + 2 ≤ n.first = r.2.0 in
    let next : n.first ≤ n.last = r.2.1 in
    elim (split s (n ∷ rest) t has) [
      | inl at ↦ let low = at.0 in let high = at.1 in in_first (both s n) rest t low (omega (arith, high))
      | inr more ↦ elim (split n rest t more) [
        | inl at ↦ let low = at.0 in let high = at.1 in in_first (both s n) rest t (omega (arith, low)) high
        | inr at ↦ in_rest (both s n) rest t at
      ]
    ]

keeps : (k : ℕ) (s : Interval) (ss : List Interval) (from t : ℕ) → RisesFrom from (s ∷ ss) → has_txg (s ∷ ss) t ≡ true → has_txg (joined_with_next k s ss) t ≡ true
keeps zero s ss from t r has = has
keeps (suc k) s [] from t r has = has
keeps (suc k) s (n ∷ ss) from t r has = keeps k (both s n) ss from t (rises_both s n ss from r) (both_keeps s n ss ss from t r has)

-- what lies between two groups of one interval is a group of it
within : (s : Interval) (ss : List Interval) (t : ℕ) → LiesBetween (s ∷ []) t → has_txg (s ∷ ss) t ≡ true
within s ss t lies = elim (split s [] lies.lower lies.has_lower) [
  | inr none ↦ absurd cc
  | inl low ↦ elim (split s [] lies.upper lies.has_upper) [
    | inr none ↦ absurd cc
    | inl high ↦
        let from = low.0 in
        let to = high.1 in
        in_first s ss t (omega (arith, from, lies.above)) (omega (arith, to, lies.below))
  ]
]

fills : (k : ℕ) (s : Interval) (ss : List Interval) (from t : ℕ) → RisesFrom from (s ∷ ss) → LiesBetween (take (suc k) (s ∷ ss)) t → has_txg (joined_with_next k s ss) t ≡ true
fills zero s ss from t r lies = within s ss t lies
fills (suc k) s [] from t r lies = within s [] t lies
fills (suc k) s (n ∷ ss) from t r lies =
    fills k (both s n) ss from t (rises_both s n ss from r) (record {
      lower = lies.lower;
      upper = lies.upper;
      has_lower = both_keeps s n ss (take k ss) from lies.lower r lies.has_lower;
      has_upper = both_keeps s n ss (take k ss) from lies.upper r lies.has_upper;
      above = lies.above;
      below = lies.below;
    })

-- a group of two intervals as one has a group at or below it, and one at or above it, of the two
module _ (s n : Interval) (ss rest : List Interval) (from : ℕ) (r : RisesFrom from (s ∷ n ∷ ss)) where
  lower_of : (u : ℕ) → has_txg (both s n ∷ rest) u ≡ true → (l : ℕ) × (has_txg (s ∷ n ∷ rest) l ≡ true) × (l ≤ u)
  lower_of u has = elim (split (both s n) rest u has) [
    | inl at ↦ let filled : s.first ≤ s.last = r.1 in let low = at.0 in (s.first, in_first s (n ∷ rest) s.first (omega arith) filled, low)
    | inr more ↦ (u, in_rest s (n ∷ rest) u (in_rest n rest u more), omega arith)
  ]

  upper_of : (u : ℕ) → has_txg (both s n ∷ rest) u ≡ true → (l : ℕ) × (has_txg (s ∷ n ∷ rest) l ≡ true) × (u ≤ l)
  upper_of u has = elim (split (both s n) rest u has) [
    | inl at ↦ let next : n.first ≤ n.last = r.2.1 in let high = at.1 in (n.last, in_rest s (n ∷ rest) n.last (in_first n rest n.last next (omega arith)), high)
    | inr more ↦ (u, in_rest s (n ∷ rest) u (in_rest n rest u more), omega arith)
  ]

  lies_between : (t : ℕ) → LiesBetween (both s n ∷ rest) t → LiesBetween (s ∷ n ∷ rest) t
  lies_between t lies =
      let low = lower_of lies.lower lies.has_lower in
      let high = upper_of lies.upper lies.has_upper in
      let le = low.2 in
      let ge = high.2 in
      record {
        lower = low.0;
        upper = high.0;
        has_lower = low.1;
        has_upper = high.1;
        above = omega (arith, le, lies.above);
        below = omega (arith, ge, lies.below);
      }

  -- a group of the two as one is one of them, or lies between
  gap : (t : ℕ) → s.first ≤ t → t ≤ n.last → (has_txg (s ∷ n ∷ ss) t ≡ true) ⊎ LiesBetween (s ∷ n ∷ rest) t
  gap t low high = elim (cases_lt s.last t) [
    | inr at ↦ inl (in_first s (n ∷ ss) t low at)
    | inl above ↦ elim (cases_lt t n.first) [
      | inr at ↦ inl (in_rest s (n ∷ ss) t (in_first n ss t at high))
      | inl below ↦
          let filled : s.first ≤ s.last = r.1 in
          let next : n.first ≤ n.last = r.2.1 in
          inr (record {
            lower = s.last;
            upper = n.first;
            has_lower = in_first s (n ∷ rest) s.last filled (omega arith);
            has_upper = in_rest s (n ∷ rest) n.first (in_first n rest n.first (omega arith) next);
            above = above;
            below = below;
          })
    ]
  ]

no_more : (k : ℕ) (s : Interval) (ss : List Interval) (from t : ℕ) → RisesFrom from (s ∷ ss) → has_txg (joined_with_next k s ss) t ≡ true
    → (has_txg (s ∷ ss) t ≡ true) ⊎ LiesBetween (take (suc k) (s ∷ ss)) t
no_more zero s ss from t r has = inl has
no_more (suc k) s [] from t r has = inl has
no_more (suc k) s (n ∷ ss) from t r has = elim (no_more k (both s n) ss from t (rises_both s n ss from r) has) [
  | inr lies ↦ inr (lies_between s n ss (take k ss) from r t lies)
  | inl at ↦ elim (split (both s n) ss t at) [
    | inl here ↦ gap s n ss (take k ss) from r t here.0 here.1
    | inr rest ↦ inl (in_rest s (n ∷ ss) t (in_rest n ss t rest))
  ]
]

none_between : (t : ℕ) → LiesBetween [] t → ⊥
none_between t lies = clash lies.has_lower
  where
    clash : false ≡ true → ⊥
    clash e = cc

module _ (most : ℕ) where
  -- how many of the intervals after the first are joined with it
  abbrev more : List Interval → ℕ
  more ss = suc (length ss) - most

  joined_keeps : (spans : List Interval) → IsCanonical spans → (t : ℕ) → has_txg spans t ≡ true → has_txg (joined_to most spans) t ≡ true
  joined_keeps [] can t has = has
  joined_keeps (s ∷ ss) can t has = keeps (more ss) s ss 0 t can has

  joined_fills : (spans : List Interval) → IsCanonical spans → (t : ℕ) → LiesBetween (lowest most spans) t → has_txg (joined_to most spans) t ≡ true
  joined_fills [] can t lies = absurd (none_between t (subst (λ (l : List Interval). LiesBetween l t) (take-nil (0 + 1 - most)) lies))
    where
      take-nil : (k : ℕ) → take {A = Interval} k [] ≡ []
      take-nil zero = refl
      take-nil (suc k) = refl
  joined_fills (s ∷ ss) can t lies = elim (cases_lt (suc (length ss)) most) [
    | inl few ↦
        let none : suc (length ss) + 1 - most ≡ 0 = omega (arith, few) in
        absurd (none_between t (subst (λ (k : ℕ). LiesBetween (take k (s ∷ ss)) t) none lies))
    | inr many ↦
        let same : suc (length ss) + 1 - most ≡ suc (more ss) = omega (arith, many) in
        fills (more ss) s ss 0 t can (subst (λ (k : ℕ). LiesBetween (take k (s ∷ ss)) t) same lies)
  ]

  joined_no_more : (spans : List Interval) → IsCanonical spans → (t : ℕ) → has_txg (joined_to most spans) t ≡ true
      → (has_txg spans t ≡ true) ⊎ LiesBetween (lowest most spans) t
  joined_no_more [] can t has = inl has
  joined_no_more (s ∷ ss) can t has = elim (no_more (more ss) s ss 0 t can has) [
    | inl old ↦ inl old
    | inr lies ↦ elim (cases_lt (suc (length ss)) most) [
      | inl few ↦
          let none : suc (more ss) ≡ 1 = omega (arith, few) in
          inl (within s ss t (subst (λ (k : ℕ). LiesBetween (take k (s ∷ ss)) t) none lies))
      | inr many ↦
          let same : suc (more ss) ≡ suc (length ss) + 1 - most = omega (arith, many) in
          inr (subst (λ (k : ℕ). LiesBetween (take k (s ∷ ss)) t) same lies)
    ]
  ]

  joined_least : (spans : List Interval) → IsCanonical spans → (m : ℕ) → IsLeast spans m → IsLeast (joined_to most spans) m
  joined_least spans can m is = (joined_keeps spans can m is.0, under)
    where
      under : (t : ℕ) → has_txg (joined_to most spans) t ≡ true → m ≤ t
      under t has = elim (joined_no_more spans can t has) [
        | inl old ↦ is.1 t old
        | inr lies ↦
            let le = is.1 lies.lower (has-take (length spans + 1 - most) spans lies.lower lies.has_lower) in
            omega (arith, le, lies.above)
      ]

  joined_greatest : (spans : List Interval) → IsCanonical spans → (m : ℕ) → IsGreatest spans m → IsGreatest (joined_to most spans) m
  joined_greatest spans can m is = (joined_keeps spans can m is.0, over)
    where
      over : (t : ℕ) → has_txg (joined_to most spans) t ≡ true → t ≤ m
      over t has = elim (joined_no_more spans can t has) [
        | inl old ↦ is.1 t old
        | inr lies ↦
            let le = is.1 lies.upper (has-take (length spans + 1 - most) spans lies.upper lies.has_upper) in
            omega (arith, le, lies.below)
      ]

-- the law of the joined intervals
pub joined_law : JoinedLaw
joined_law most spans can = record {
  keeps = joined_keeps most spans can;
  fills = joined_fills most spans can;
  no_more = joined_no_more most spans can;
  least = joined_least most spans can;
  greatest = joined_greatest most spans can;
}
