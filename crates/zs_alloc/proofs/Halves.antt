-- The two halves of a part: whether they have a run, and what setting some of their sectors makes of the whole.
use Rattle.std.proofs.Common.{◌≡◌, ◌≤◌, ◌<◌, ◌+◌, ◌-◌, ◌∙◌, ◌⊎◌, ℕ, Bool, true, false, List, ◌++◌, length, replicate, zero, suc, ◌∷◌, arith, refl, ap, sym, subst, inl, inr, length-append}
use Rattle.std.specs.Prelude.{min, max, if◌then◌else◌}
use Rattle.std.specs.Bool.{OnTrue, OnFalse}
use Rattle.zs_alloc.specs.declared.tree.Runs.{Runs}
use Rattle.zs_alloc.specs.Free.{is_within, free_count, hits, AreFree, AreTaken, IsCut, IsPut}
use Rattle.zs_alloc.specs.Runs.{is_set, HasRun, HasSomeRun, IsFirstRun, IsRuns, IsSet}
use Rattle.zs_alloc.proofs.Counts.{hits_in, hits_below, hits_above, where_is}
use Rattle.zs_alloc.proofs.Runs.{order, at_left, at_right, run_left, left_run, run_right, right_run, seam_run, run_near, run_far, run_part, no_run, no_gap}
use Rattle.zs_alloc.proofs.Chunks.{within_is, below_is, above_is}

-- no sector is free
pub none_set : (n s : ℕ) → is_set (replicate n false) s ≡ false
none_set zero s = refl
none_set (suc n) zero = refl
none_set (suc n) (suc s) = none_set n s

pub none_long : (n : ℕ) → length (replicate n false) ≡ n
none_long zero = refl
none_long (suc n) = ap suc (none_long n)

pub none_runs : (n : ℕ) → IsRuns (replicate n false) (record { len = n; before = 0; behind = 0; longest = 0 })
none_runs n = record {
  len = sym (none_long n);
  before_bound = omega arith;
  before = no_run (replicate n false) 0;
  before_ends = λ _. none_set n 0;
  behind = record { bound = omega arith; free = no_run (replicate n false) (length (replicate n false) - 0); ends = λ _. none_set n (length (replicate n false) - 0 - 1) };
  most = λ s m some run. absurd (no_gap (replicate n false) s m s run (omega arith) (omega (arith, some)) (none_set n s));
  from = 0;
  longest = no_run (replicate n false) 0;
  longest_bound = omega arith;
}

pub none_both : (m n : ℕ) → replicate m false ++ replicate n false ≡ replicate (m + n) false
none_both zero n = let is : n ≡ 0 + n = omega arith in ap (λ (k : ℕ). replicate k false) is
none_both (suc m) n =
    let is : suc (m + n) ≡ suc m + n = omega arith in
    ap (λ (l : List Bool). false ∷ l) (none_both m n) ∙ ap (λ (k : ℕ). replicate k false) is

pub none_halves : (n h : ℕ) → h ≤ n → replicate h false ++ replicate (n - h) false ≡ replicate n false
none_halves n h le =
    let is : h + (n - h) ≡ n = omega (arith, le) in
    none_both h (n - h) ∙ ap (λ (k : ℕ). replicate k false) is

-- the sectors from `first` to `end` lie in the one half, in the other, or in both
pub run_in_left : (xs ys : List Bool) (half first end : ℕ) → half ≡ length xs → end ≤ half → HasRun xs first (end - first) → HasRun (xs ++ ys) first (end - first)
run_in_left xs ys half first end len le run = elim (order first end) [
  | inl p ↦ left_run xs ys first (end - first) (omega (arith, p, le, len)) run
  | inr q ↦ let none : 0 ≡ end - first = omega (arith, q) in subst (λ (n : ℕ). HasRun (xs ++ ys) first n) none (no_run (xs ++ ys) first)
]

pub left_in_run : (xs ys : List Bool) (half first end : ℕ) → half ≡ length xs → end ≤ half → HasRun (xs ++ ys) first (end - first) → HasRun xs first (end - first)
left_in_run xs ys half first end len le run = elim (order first end) [
  | inl p ↦ run_left xs ys first (end - first) (omega (arith, p, le, len)) run
  | inr q ↦ let none : 0 ≡ end - first = omega (arith, q) in subst (λ (n : ℕ). HasRun xs first n) none (no_run xs first)
]

pub run_in_right : (xs ys : List Bool) (half first end : ℕ) → half ≡ length xs → half ≤ first → HasRun ys (first - half) (end - half - (first - half)) → HasRun (xs ++ ys) first (end - first)
run_in_right xs ys half first end len le run =
    let from : first - half ≡ first - length xs = omega (arith, len) in
    let many : end - half - (first - half) ≡ end - first = omega (arith, le) in
    right_run xs ys first (end - first) (omega (arith, len, le)) (subst (λ (k : ℕ). HasRun ys k (end - first)) from (subst (λ (n : ℕ). HasRun ys (first - half) n) many run))

pub right_in_run : (xs ys : List Bool) (half first end : ℕ) → half ≡ length xs → half ≤ first → HasRun (xs ++ ys) first (end - first) → HasRun ys (first - half) (end - half - (first - half))
right_in_run xs ys half first end len le run =
    let from : first - length xs ≡ first - half = omega (arith, len) in
    let many : end - first ≡ end - half - (first - half) = omega (arith, le) in
    subst (λ (n : ℕ). HasRun ys (first - half) n) many (subst (λ (k : ℕ). HasRun ys k (end - first)) from (run_right xs ys first (end - first) (omega (arith, len, le)) run))

pub run_in_both : (xs ys : List Bool) (half first end : ℕ) → half ≡ length xs → first < half → half < end → HasRun xs first (half - first) → HasRun ys 0 (end - half - 0) → HasRun (xs ++ ys) first (end - first)
run_in_both xs ys half first end len lt le near far =
    let one : half - first ≡ length xs - first = omega (arith, len) in
    let two : end - half - 0 ≡ first + (end - first) - length xs = omega (arith, len, lt, le) in
    seam_run xs ys first (end - first) (omega (arith, len, lt)) (omega (arith, len, lt, le)) (subst (λ (n : ℕ). HasRun xs first n) one near) (subst (λ (n : ℕ). HasRun ys 0 n) two far)

pub near_in_both : (xs ys : List Bool) (half first end : ℕ) → half ≡ length xs → first < half → half < end → HasRun (xs ++ ys) first (end - first) → HasRun xs first (half - first)
near_in_both xs ys half first end len lt le run =
    let one : length xs - first ≡ half - first = omega (arith, len) in
    subst (λ (n : ℕ). HasRun xs first n) one (run_near xs ys first (end - first) (omega (arith, len, lt)) (omega (arith, len, lt, le)) run)

pub far_in_both : (xs ys : List Bool) (half first end : ℕ) → half ≡ length xs → first < half → half < end → HasRun (xs ++ ys) first (end - first) → HasRun ys 0 (end - half - 0)
far_in_both xs ys half first end len lt le run =
    let two : first + (end - first) - length xs ≡ end - half - 0 = omega (arith, len, lt, le) in
    subst (λ (n : ℕ). HasRun ys 0 n) two (run_far xs ys first (end - first) (omega (arith, len, lt)) (omega (arith, len, lt, le)) run)

pub no_right : (xs ys : List Bool) (half first end : ℕ) (b : Bool) → half ≡ length xs → half ≤ first → OnFalse b (HasRun ys (first - half) (end - half - (first - half)) → ⊥) → OnFalse b (HasRun (xs ++ ys) first (end - first) → ⊥)
no_right xs ys half first end true len le h = tt
no_right xs ys half first end false len le h = λ run. h (right_in_run xs ys half first end len le run)

pub yes_both : (xs ys : List Bool) (half first end : ℕ) (b : Bool) → half ≡ length xs → first < half → half < end → HasRun xs first (half - first) → OnTrue b (HasRun ys 0 (end - half - 0)) → OnTrue b (HasRun (xs ++ ys) first (end - first))
yes_both xs ys half first end true len lt le near h = run_in_both xs ys half first end len lt le near h
yes_both xs ys half first end false len lt le near h = tt

pub no_far : (xs ys : List Bool) (half first end : ℕ) (b : Bool) → half ≡ length xs → first < half → half < end → OnFalse b (HasRun ys 0 (end - half - 0) → ⊥) → OnFalse b (HasRun (xs ++ ys) first (end - first) → ⊥)
no_far xs ys half first end true len lt le h = tt
no_far xs ys half first end false len lt le h = λ run. h (far_in_both xs ys half first end len lt le run)

pub no_near : (xs ys : List Bool) (half first end : ℕ) (b : Bool) → half ≡ length xs → first < half → half < end → OnFalse b (HasRun xs first (half - first) → ⊥) → OnFalse b (HasRun (xs ++ ys) first (end - first) → ⊥)
no_near xs ys half first end true len lt le h = tt
no_near xs ys half first end false len lt le h = λ run. h (near_in_both xs ys half first end len lt le run)

-- the test of a sector in each half
near_test : (half first end s : ℕ) → s < half → is_within (min first half) (min end half) s ≡ is_within first end s
near_test half first end s lt = elim (order first s) [
  | inl p ↦ elim (order end s) [
    | inl q ↦ above_is (min first half) (min end half) s (omega (arith, q)) ∙ sym (above_is first end s q)
    | inr q ↦ within_is (min first half) (min end half) s (omega (arith, p)) (omega (arith, q, lt)) ∙ sym (within_is first end s p q)
  ]
  | inr p ↦ below_is (min first half) (min end half) s (omega (arith, p, lt)) ∙ sym (below_is first end s p)
]

far_test : (half first end s : ℕ) → half ≤ s → is_within (max first half - half) (max end half - half) (s - half) ≡ is_within first end s
far_test half first end s le = elim (order first s) [
  | inl p ↦ elim (order end s) [
    | inl q ↦ above_is (max first half - half) (max end half - half) (s - half) (omega (arith, q, le)) ∙ sym (above_is first end s q)
    | inr q ↦ within_is (max first half - half) (max end half - half) (s - half) (omega (arith, p, le)) (omega (arith, q, le)) ∙ sym (within_is first end s p q)
  ]
  | inr p ↦ below_is (max first half - half) (max end half - half) (s - half) (omega (arith, p, le)) ∙ sym (below_is first end s p)
]

-- each half is set
pub set_both : (xs ys xs' ys' : List Bool) (half first end : ℕ) (free : Bool) → half ≡ length xs → IsSet xs (min first half) (min end half) free xs' → IsSet ys (max first half - half) (max end half - half) free ys' → IsSet (xs ++ ys) first end free (xs' ++ ys')
set_both xs ys xs' ys' half first end free len near far = record {
  len =
      let a : length (xs' ++ ys') ≡ length xs' + length ys' = length-append xs' ys' in
      let b : length (xs ++ ys) ≡ length xs + length ys = length-append xs ys in
      let p : length xs' ≡ length xs = near.len in
      let q : length ys' ≡ length ys = far.len in
      omega (arith, a, b, p, q);
  each = λ s. at s (order half s);
}
  where
    same : length xs' ≡ length xs
    same = near.len

    at : (s : ℕ) → (half ≤ s) ⊎ (s < half) → is_set (xs' ++ ys') s ≡ (if is_within first end s then free else is_set (xs ++ ys) s)
    at s (inr lt) =
        at_left xs' ys' s (omega (arith, lt, len, same)) ∙ near.each s
        ∙ ap (λ (b : Bool). if b then free else is_set xs s) (near_test half first end s lt)
        ∙ ap (λ (v : Bool). if is_within first end s then free else v) (sym (at_left xs ys s (omega (arith, lt, len))))
    at s (inl le) =
        let one : s - length xs' ≡ s - half = omega (arith, len, same) in
        let two : s - half ≡ s - length xs = omega (arith, len) in
        at_right xs' ys' s (omega (arith, le, len, same)) ∙ ap (λ (k : ℕ). is_set ys' k) one ∙ far.each (s - half)
        ∙ ap (λ (b : Bool). if b then free else is_set ys (s - half)) (far_test half first end s le)
        ∙ ap (λ (v : Bool). if is_within first end s then free else v) (ap (λ (k : ℕ). is_set ys k) two ∙ sym (at_right xs ys s (omega (arith, le, len))))

-- free sectors as runs
pub free_is_run : (xs : List Bool) (first n : ℕ) → HasRun xs first n → AreFree xs first (first + n)
free_is_run xs first n run = record { each = λ s p q. let one : free_count xs s ≡ 1 = ap (λ (b : Bool). if b then 1 else 0) (run.each s p q) in omega (arith, one) }

set_one : (b : Bool) → 1 ≤ (if b then 1 else 0) → b ≡ true
set_one true h = refl
set_one false h = absurd (omega (arith, h))

pub run_is_free : (xs : List Bool) (first n : ℕ) → AreFree xs first (first + n) → HasRun xs first n
run_is_free xs first n free = record { each = λ s p q. set_one (is_set xs s) (free.each s p q) }

pub yes_free : (xs : List Bool) (first n : ℕ) (b : Bool) → OnTrue b (HasRun xs first (first + n - first)) → OnTrue b (AreFree xs first (first + n))
yes_free xs first n true h = let is : first + n - first ≡ n = omega arith in free_is_run xs first n (subst (λ (k : ℕ). HasRun xs first k) is h)
yes_free xs first n false h = tt

pub no_free : (xs : List Bool) (first n : ℕ) (b : Bool) → OnFalse b (HasRun xs first (first + n - first) → ⊥) → OnFalse b (AreFree xs first (first + n) → ⊥)
no_free xs first n true h = tt
no_free xs first n false h = λ free. let is : n ≡ first + n - first = omega arith in h (subst (λ (k : ℕ). HasRun xs first k) is (run_is_free xs first n free))

-- no longer run is free than the longest one
pub none_fits : (xs : List Bool) (r : Runs) (n : ℕ) → IsRuns xs r → 0 < n → r.longest < n → (s : ℕ) → AreFree xs s (s + n) → ⊥
none_fits xs r n is some short s free = let le : n ≤ r.longest = is.most s n some (run_is_free xs s n free) in omega (arith, le, short)

-- a run as long as the longest one, or shorter, is there
pub some_fits : (xs : List Bool) (r : Runs) (n : ℕ) → IsRuns xs r → n ≤ r.longest → HasSomeRun xs n
some_fits xs r n is le = record { from = is.from; run = run_part xs is.from r.longest is.from n is.longest (omega arith) (omega (arith, le)) }

pub first_fits : (xs : List Bool) (n k : ℕ) → IsFirstRun xs n k → AreFree xs k (k + n) × ((s : ℕ) → AreFree xs s (s + n) → k ≤ s)
first_fits xs n k first = (free_is_run xs k n first.free, λ s free. first.lowest s (run_is_free xs s n free))

-- a space that was set free from its beginning on
pub blank_count : (start end : ℕ) (xs : List Bool) → IsSet (replicate end false) start end true xs → (s : ℕ) → free_count xs s ≡ hits start end s
blank_count start end xs is s = elim (where_is start end s) [
  | inl low ↦
      let a : free_count xs s ≡ 0 = ap (λ (b : Bool). if b then 1 else 0) (is.each s ∙ ap (λ (t : Bool). if t then true else is_set (replicate end false) s) (below_is start end s low) ∙ none_set end s) in
      a ∙ sym (hits_below start end s low)
  | inr at ↦ elim at [
    | inl mid ↦
        let a : free_count xs s ≡ 1 = ap (λ (b : Bool). if b then 1 else 0) (is.each s ∙ ap (λ (t : Bool). if t then true else is_set (replicate end false) s) (within_is start end s mid.0 mid.1)) in
        a ∙ sym (hits_in start end s mid.0 mid.1)
    | inr up ↦
        let a : free_count xs s ≡ 0 = ap (λ (b : Bool). if b then 1 else 0) (is.each s ∙ ap (λ (t : Bool). if t then true else is_set (replicate end false) s) (above_is start end s up) ∙ none_set end s) in
        a ∙ sym (hits_above start end s up)
  ]
]

-- sectors that were free are taken
pub cut_is : (xs ys : List Bool) (first end : ℕ) → AreFree xs first end → IsSet xs first end false ys → IsCut xs first end ys
cut_is xs ys first end free is = record { count = λ s. at s (where_is first end s) }
  where
    now : (s : ℕ) → free_count ys s ≡ (if (if is_within first end s then false else is_set xs s) then 1 else 0)
    now s = ap (λ (b : Bool). if b then 1 else 0) (is.each s)

    at : (s : ℕ) → (s < first) ⊎ ((first ≤ s) × (s < end)) ⊎ (end ≤ s) → free_count ys s + hits first end s ≡ free_count xs s
    at s (inl low) =
        let a : free_count ys s ≡ free_count xs s = now s ∙ ap (λ (t : Bool). if (if t then false else is_set xs s) then 1 else 0) (below_is first end s low) in
        let b : hits first end s ≡ 0 = hits_below first end s low in
        omega (arith, a, b)
    at s (inr (inl mid)) =
        let a : free_count ys s ≡ 0 = now s ∙ ap (λ (t : Bool). if (if t then false else is_set xs s) then 1 else 0) (within_is first end s mid.0 mid.1) in
        let b : hits first end s ≡ 1 = hits_in first end s mid.0 mid.1 in
        let c : free_count xs s ≡ 1 = ap (λ (v : Bool). if v then 1 else 0) (set_one (is_set xs s) (free.each s mid.0 mid.1)) in
        omega (arith, a, b, c)
    at s (inr (inr up)) =
        let a : free_count ys s ≡ free_count xs s = now s ∙ ap (λ (t : Bool). if (if t then false else is_set xs s) then 1 else 0) (above_is first end s up) in
        let b : hits first end s ≡ 0 = hits_above first end s up in
        omega (arith, a, b)

-- sectors that were taken are free
pub put_is : (xs ys : List Bool) (first end : ℕ) → AreTaken xs first end → IsSet xs first end true ys → IsPut xs first end ys
put_is xs ys first end taken is = record { count = λ s. at s (where_is first end s) }
  where
    now : (s : ℕ) → free_count ys s ≡ (if (if is_within first end s then true else is_set xs s) then 1 else 0)
    now s = ap (λ (b : Bool). if b then 1 else 0) (is.each s)

    at : (s : ℕ) → (s < first) ⊎ ((first ≤ s) × (s < end)) ⊎ (end ≤ s) → free_count ys s ≡ free_count xs s + hits first end s
    at s (inl low) =
        let a : free_count ys s ≡ free_count xs s = now s ∙ ap (λ (t : Bool). if (if t then true else is_set xs s) then 1 else 0) (below_is first end s low) in
        let b : hits first end s ≡ 0 = hits_below first end s low in
        omega (arith, a, b)
    at s (inr (inl mid)) =
        let a : free_count ys s ≡ 1 = now s ∙ ap (λ (t : Bool). if (if t then true else is_set xs s) then 1 else 0) (within_is first end s mid.0 mid.1) in
        let b : hits first end s ≡ 1 = hits_in first end s mid.0 mid.1 in
        let c : free_count xs s ≡ 0 = taken.each s mid.0 mid.1 in
        omega (arith, a, b, c)
    at s (inr (inr up)) =
        let a : free_count ys s ≡ free_count xs s = now s ∙ ap (λ (t : Bool). if (if t then true else is_set xs s) then 1 else 0) (above_is first end s up) in
        let b : hits first end s ≡ 0 = hits_above first end s up in
        omega (arith, a, b)
