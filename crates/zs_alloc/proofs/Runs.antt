-- Runs of free sectors: in two parts together, and in each of them.
use Rattle.std.proofs.Common.{◌≡◌, ◌≤◌, ◌<◌, ◌+◌, ◌-◌, ◌∙◌, ◌⊎◌, ℕ, zero, suc, Bool, false, true≢false, List, [], ◌∷◌, ◌++◌, length, arith, refl, ap, sym, subst, inl, inr}
use Rattle.zs_alloc.specs.Runs.{is_set, HasRun, IsRunUpTo}

-- the one is at most the other, or above it
pub order : (a b : ℕ) → (a ≤ b) ⊎ (b < a)
order a b = grind arith

pub at_left : (xs ys : List Bool) (s : ℕ) → s < length xs → is_set (xs ++ ys) s ≡ is_set xs s
at_left [] ys s lt = absurd (omega arith)
at_left (x ∷ xs) ys zero lt = refl
at_left (x ∷ xs) ys (suc s) lt = at_left xs ys s (omega arith)

at_behind : (xs ys : List Bool) (s : ℕ) → is_set (xs ++ ys) (length xs + s) ≡ is_set ys s
at_behind [] ys s = let is : 0 + s ≡ s = omega arith in ap (λ (k : ℕ). is_set ys k) is
at_behind (x ∷ xs) ys s =
    let is : suc (length xs) + s ≡ suc (length xs + s) = omega arith in
    ap (λ (k : ℕ). is_set (x ∷ xs ++ ys) k) is ∙ at_behind xs ys s

pub at_right : (xs ys : List Bool) (s : ℕ) → length xs ≤ s → is_set (xs ++ ys) s ≡ is_set ys (s - length xs)
at_right xs ys s le =
    let is : length xs + (s - length xs) ≡ s = omega arith in
    ap (λ (k : ℕ). is_set (xs ++ ys) k) (sym is) ∙ at_behind xs ys (s - length xs)

pub none_past : (xs : List Bool) (s : ℕ) → length xs ≤ s → is_set xs s ≡ false
none_past [] s le = refl
none_past (x ∷ xs) zero le = absurd (omega arith)
none_past (x ∷ xs) (suc s) le = none_past xs s (omega arith)

-- a run has no sector that is not free
pub no_gap : (xs : List Bool) (s n k : ℕ) → HasRun xs s n → s ≤ k → k < s + n → is_set xs k ≡ false → ⊥
no_gap xs s n k run le lt is = true≢false (sym (run.each k le lt) ∙ is)

pub run_within : (xs : List Bool) (s n : ℕ) → 0 < n → HasRun xs s n → s + n ≤ length xs
run_within xs s n some run = elim (order (s + n) (length xs)) [
  | inl le ↦ le
  | inr lt ↦ absurd (no_gap xs s n (s + n - 1) run (omega arith) (omega arith) (none_past xs (s + n - 1) (omega arith)))
]

-- a part of a run is one
pub run_part : (xs : List Bool) (s n a m : ℕ) → HasRun xs s n → s ≤ a → a + m ≤ s + n → HasRun xs a m
run_part xs s n a m run le end = record { each = λ k p q. run.each k (omega arith) (omega arith) }

pub no_run : (xs : List Bool) (s : ℕ) → HasRun xs s 0
no_run xs s = record { each = λ k p q. absurd (omega arith) }

pub run_left : (xs ys : List Bool) (s n : ℕ) → s + n ≤ length xs → HasRun (xs ++ ys) s n → HasRun xs s n
run_left xs ys s n le run = record { each = λ k p q. sym (at_left xs ys k (omega arith)) ∙ run.each k p q }

pub left_run : (xs ys : List Bool) (s n : ℕ) → s + n ≤ length xs → HasRun xs s n → HasRun (xs ++ ys) s n
left_run xs ys s n le run = record { each = λ k p q. at_left xs ys k (omega arith) ∙ run.each k p q }

pub run_right : (xs ys : List Bool) (s n : ℕ) → length xs ≤ s → HasRun (xs ++ ys) s n → HasRun ys (s - length xs) n
run_right xs ys s n le run = record {
  each = λ k p q.
      let is : length xs + k - length xs ≡ k = omega arith in
      ap (λ (j : ℕ). is_set ys j) (sym is) ∙ sym (at_right xs ys (length xs + k) (omega arith)) ∙ run.each (length xs + k) (omega arith) (omega arith);
}

pub right_run : (xs ys : List Bool) (s n : ℕ) → length xs ≤ s → HasRun ys (s - length xs) n → HasRun (xs ++ ys) s n
right_run xs ys s n le run = record { each = λ k p q. at_right xs ys k (omega arith) ∙ run.each (k - length xs) (omega arith) (omega arith) }

-- a run over the seam is one at the end of the one part and one at the beginning of the other
pub seam_run : (xs ys : List Bool) (s n : ℕ) → s ≤ length xs → length xs ≤ s + n → HasRun xs s (length xs - s) → HasRun ys 0 (s + n - length xs) → HasRun (xs ++ ys) s n
seam_run xs ys s n le end near far = record {
  each = λ k p q. elim (order (length xs) k) [
    | inl right ↦ at_right xs ys k right ∙ far.each (k - length xs) (omega arith) (omega arith)
    | inr left ↦ at_left xs ys k left ∙ near.each k p (omega arith)
  ];
}

pub run_near : (xs ys : List Bool) (s n : ℕ) → s ≤ length xs → length xs ≤ s + n → HasRun (xs ++ ys) s n → HasRun xs s (length xs - s)
run_near xs ys s n le end run = run_left xs ys s (length xs - s) (omega arith) (run_part (xs ++ ys) s n s (length xs - s) run (omega arith) (omega arith))

pub run_far : (xs ys : List Bool) (s n : ℕ) → s ≤ length xs → length xs ≤ s + n → HasRun (xs ++ ys) s n → HasRun ys 0 (s + n - length xs)
run_far xs ys s n le end run =
    let is : length xs - length xs ≡ 0 = omega arith in
    subst (λ (k : ℕ). HasRun ys k (s + n - length xs)) is (run_right xs ys (length xs) (s + n - length xs) (omega arith) (run_part (xs ++ ys) s n (length xs) (s + n - length xs) run le (omega arith)))

-- no run that ends there is longer than the one that does
pub tail_most : (xs : List Bool) (end run s n : ℕ) → IsRunUpTo xs end run → HasRun xs s n → s + n ≡ end → n ≤ run
tail_most xs end run s n up has is = elim (order n run) [
  | inl le ↦ le
  | inr lt ↦ absurd (no_gap xs s n (end - run - 1) has (omega arith) (omega arith) (up.ends (omega arith)))
]

-- nor one at the beginning
pub lead_most : (xs : List Bool) (before n : ℕ) → (before < length xs → is_set xs before ≡ false) → n ≤ length xs → HasRun xs 0 n → n ≤ before
lead_most xs before n ends le has = elim (order n before) [
  | inl ok ↦ ok
  | inr lt ↦ absurd (no_gap xs 0 n before has (omega arith) (omega (arith, lt)) (ends (omega (arith, lt, le))))
]
