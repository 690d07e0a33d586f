-- A set of transaction groups has one list of intervals.
use Rattle.std.proofs.Common.{◌≡◌, ◌≤◌, ◌<◌, ◌+◌, ◌⊎◌, ◌||◌, ℕ, Bool, true, false, List, [], ◌∷◌, arith, refl, ap, sym, subst, ◌∙◌, inl, inr}
use Rattle.std.proofs.lemmas.Bool.{false≢true, false_from_ne_true}
use Rattle.std.proofs.lemmas.Bool.Decides.{nat_tests}
use Rattle.std.proofs.Math.Nat.{le_refl}
use Rattle.zs_ranges.specs.declared.set.Interval.{Interval}
use Rattle.zs_ranges.specs.Set.{has_txg, is_between, RisesFrom, SameSetLaw}
use Rattle.zs_ranges.proofs.Rises.{has_above}

between_is : (a b t : ℕ) → a ≤ t → t ≤ b → is_between a b t ≡ true
between_is a b t p q = grind (arith, nat_tests)

between_past : (a b t : ℕ) → b < t → is_between a b t ≡ false
between_past a b t p = grind (arith, nat_tests)

-- no group below where the intervals begin
none_under : (ss : List Interval) (from t : ℕ) → RisesFrom from ss → t < from → has_txg ss t ≡ false
none_under ss from t r lt = false_from_ne_true (has_txg ss t) (λ is. let at = has_above ss from t r is in let low : from ≤ t = at.0 in absurd (omega arith))

-- a group of the first interval
in_first : (s : Interval) (ss : List Interval) (t : ℕ) → s.first ≤ t → t ≤ s.last → has_txg (s ∷ ss) t ≡ true
in_first s ss t p q = ap (λ b. b || has_txg ss t) (between_is s.first s.last t p q)

-- a group past the first interval
past_first : (s : Interval) (ss : List Interval) (t : ℕ) → s.last < t → has_txg (s ∷ ss) t ≡ has_txg ss t
past_first s ss t p = ap (λ b. b || has_txg ss t) (between_past s.first s.last t p)

clash : {P : Type 0} (b c : Bool) → b ≡ c → b ≡ false → c ≡ true → P
clash b c e f g = absurd (false≢true (sym f ∙ e ∙ g))

-- the first interval of one list begins no later than that of the other
first_le : (x y : Interval) (a b : List Interval) (from : ℕ) → RisesFrom from (x ∷ a) → RisesFrom from (y ∷ b) → ((t : ℕ) → has_txg (x ∷ a) t ≡ has_txg (y ∷ b) t) → x.first ≤ y.first
first_le x y a b from ra rb same =
    elim (le_or x.first y.first) [
      | inl le ↦ le
      | inr lt ↦
          clash (has_txg (x ∷ a) y.first) (has_txg (y ∷ b) y.first) (same y.first)
          (none_under (x ∷ a) x.first y.first (le_refl x.first, ra.1, ra.2) lt)
          (in_first y b y.first (le_refl y.first) rb.1)
    ]
  where
    le_or : (m n : ℕ) → (m ≤ n) ⊎ (n < m)
    le_or m n = grind arith

-- the first interval of one list ends no later than that of the other
last_le : (x y : Interval) (a b : List Interval) (from : ℕ) → x.first ≡ y.first → RisesFrom from (x ∷ a) → RisesFrom from (y ∷ b) → ((t : ℕ) → has_txg (x ∷ a) t ≡ has_txg (y ∷ b) t) → x.last ≤ y.last
last_le x y a b from starts ra rb same =
    elim (le_or x.last y.last) [
      | inl le ↦ le
      | inr lt ↦
          let filled : y.first ≤ y.last = rb.1 in
          let at : x.first ≤ y.last + 1 = omega arith in
          let up : y.last + 1 ≤ x.last = omega arith in
          let past : y.last < y.last + 1 = omega arith in
          let gap : y.last + 1 < y.last + 2 = omega arith in
          clash (has_txg (y ∷ b) (y.last + 1)) (has_txg (x ∷ a) (y.last + 1)) (sym (same (y.last + 1)))
          (past_first y b (y.last + 1) past ∙ none_under b (y.last + 2) (y.last + 1) rb.2 gap)
          (in_first x a (y.last + 1) at up)
    ]
  where
    le_or : (m n : ℕ) → (m ≤ n) ⊎ (n < m)
    le_or m n = grind arith

both : (x y : Interval) (a b : List Interval) → x.first ≡ y.first → x.last ≡ y.last → a ≡ b → x ∷ a ≡ y ∷ b
both x y a b f l e = ap (λ (n : ℕ). record { first = n; last = x.last } ∷ a) f ∙ ap (λ (n : ℕ). record { first = y.first; last = n } ∷ a) l ∙ ap (λ r. y ∷ r) e

-- what is left behind equal first intervals
rest_same : (x y : Interval) (a b : List Interval) (from : ℕ) → x.last ≡ y.last → RisesFrom from (x ∷ a) → RisesFrom from (y ∷ b) → ((t : ℕ) → has_txg (x ∷ a) t ≡ has_txg (y ∷ b) t) → (t : ℕ) → has_txg a t ≡ has_txg b t
rest_same x y a b from ends ra rb same t =
    elim (lt_or x.last t) [
      | inl lt ↦
          let over : y.last < t = omega arith in
          sym (past_first x a t lt) ∙ same t ∙ past_first y b t over
      | inr le ↦
          let under_a : t < x.last + 2 = omega arith in
          let under_b : t < y.last + 2 = omega arith in
          none_under a (x.last + 2) t ra.2 under_a ∙ sym (none_under b (y.last + 2) t rb.2 under_b)
    ]
  where
    lt_or : (m n : ℕ) → (m < n) ⊎ (n ≤ m)
    lt_or m n = grind arith

le_both : (m n : ℕ) → m ≤ n → n ≤ m → m ≡ n
le_both m n p q = omega arith

unique : (a b : List Interval) (from : ℕ) → RisesFrom from a → RisesFrom from b → ((t : ℕ) → has_txg a t ≡ has_txg b t) → a ≡ b
unique [] [] from ra rb same = refl
unique [] (y ∷ b) from ra rb same = absurd (false≢true (same y.first ∙ in_first y b y.first (le_refl y.first) rb.1))
unique (x ∷ a) [] from ra rb same = absurd (false≢true (sym (same x.first) ∙ in_first x a x.first (le_refl x.first) ra.1))
unique (x ∷ a) (y ∷ b) from ra rb same =
    let other : (t : ℕ) → has_txg (y ∷ b) t ≡ has_txg (x ∷ a) t = λ t. sym (same t) in
    let starts : x.first ≡ y.first = le_both x.first y.first (first_le x y a b from ra rb same) (first_le y x b a from rb ra other) in
    let ends : x.last ≡ y.last = le_both x.last y.last (last_le x y a b from starts ra rb same) (last_le y x b a from (sym starts) rb ra other) in
    both x y a b starts ends (unique a b (x.last + 2) ra.2 (subst (λ (n : ℕ). RisesFrom (n + 2) b) (sym ends) rb.2) (rest_same x y a b from ends ra rb same))

pub same_set_law : SameSetLaw
same_set_law a b can_a can_b same = unique a b 0 can_a can_b same
