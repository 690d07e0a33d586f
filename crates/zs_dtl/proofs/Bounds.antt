-- The least and the greatest group of several logs.
use Rattle.std.proofs.Common.{◌≡◌, ◌≤◌, ◌<◌, ◌+◌, ◌⊎◌, ℕ, zero, suc, replicate, Bool, true, false, List, [], ◌∷◌, length, arith, refl, ap, sym, subst, ◌∙◌, inl, inr}
use Rattle.std.specs.Prelude.{min, max, Option, Some, None}
use Rattle.zs_ranges.specs.declared.set.Interval.{Interval}
use Rattle.zs_ranges.specs.Set.{has_txg}
use Rattle.zs_dtl.specs.Logs.{Logs, AreShort, log_of, is_online, IsMissed, AreBounds, bounds_united}

low_of : (P : ℕ → Type 0) (a b : ℕ) → P a → P b → P (min a b)
low_of P a b p q = elim (min_is a b) [ inl is ↦ rw is p | inr is ↦ rw is q ]
  where
    min_is : (a b : ℕ) → (min a b ≡ a) ⊎ (min a b ≡ b)
    min_is a b = grind arith

high_of : (P : ℕ → Type 0) (a b : ℕ) → P a → P b → P (max a b)
high_of P a b p q = elim (max_is a b) [ inl is ↦ rw is p | inr is ↦ rw is q ]
  where
    max_is : (a b : ℕ) → (max a b ≡ a) ⊎ (max a b ≡ b)
    max_is a b = grind arith

-- the bounds of a set that is two sets together
bounds_both : (P Q R : ℕ → Type 0) (a b : Option (ℕ × ℕ)) → ((t : ℕ) → R t → P t ⊎ Q t) → ((t : ℕ) → P t → R t) → ((t : ℕ) → Q t → R t) → AreBounds P a → AreBounds Q b → AreBounds R (bounds_united a b)
bounds_both P Q R None None split left right p q = λ t r. elim (split t r) [ inl h ↦ p t h | inr h ↦ q t h ]
bounds_both P Q R None (Some b) split left right p q =
    (right b.0 q.0, right b.1 q.1, λ t r. elim (split t r) [ inl h ↦ absurd (p t h) | inr h ↦ q.2 t h ])
bounds_both P Q R (Some a) None split left right p q =
    (left a.0 p.0, left a.1 p.1, λ t r. elim (split t r) [ inl h ↦ p.2 t h | inr h ↦ absurd (q t h) ])
bounds_both P Q R (Some a) (Some b) split left right p q = (
  low_of R a.0 b.0 (left a.0 p.0) (right b.0 q.0),
  high_of R a.1 b.1 (left a.1 p.1) (right b.1 q.1),
  λ t r. elim (split t r) [ inl h ↦ wide_left a.0 b.0 a.1 b.1 t (p.2 t h) | inr h ↦ wide_right a.0 b.0 a.1 b.1 t (q.2 t h) ],
)
  where
    wide_left : (a b c d t : ℕ) → (a ≤ t) × (t ≤ c) → (min a b ≤ t) × (t ≤ max c d)
    wide_left a b c d t in_ = let l = in_.0 in let h = in_.1 in (omega arith, omega arith)

    wide_right : (a b c d t : ℕ) → (b ≤ t) × (t ≤ d) → (min a b ≤ t) × (t ≤ max c d)
    wide_right a b c d t in_ = let l = in_.0 in let h = in_.1 in (omega arith, omega arith)

-- no device, no bounds
pub bounds_start : (logs : Logs) (mask : ℕ) → AreBounds (IsMissed logs mask 0) None
bounds_start logs mask = λ t m. let lt = m.below in absurd (omega arith)

-- one device more
pub bounds_step : (logs : Logs) (mask n : ℕ) (log : List Interval) (a b : Option (ℕ × ℕ)) → log ≡ log_of logs n → AreBounds (IsMissed logs mask n) a → AreBounds (λ t. (is_online mask n ≡ true) × (has_txg log t ≡ true)) b → AreBounds (IsMissed logs mask (n + 1)) (bounds_united a b)
bounds_step logs mask n log a b is p q = bounds_both (IsMissed logs mask n) (λ t. (is_online mask n ≡ true) × (has_txg log t ≡ true)) (IsMissed logs mask (n + 1)) a b split left right p q
  where
    split : (t : ℕ) → IsMissed logs mask (n + 1) t → IsMissed logs mask n t ⊎ ((is_online mask n ≡ true) × (has_txg log t ≡ true))
    split t m = elim (lt_or m.dev n m.below) [
      | inl lt ↦ inl (record { dev = m.dev; below = lt; online = m.online; has = m.has })
      | inr e ↦ inr (subst (λ d. is_online mask d ≡ true) e m.online, subst (λ l. has_txg l t ≡ true) (ap (log_of logs) e ∙ sym is) m.has)
    ]
      where
        lt_or : (d n : ℕ) → d < n + 1 → (d < n) ⊎ (d ≡ n)
        lt_or d n lt = grind arith

    left : (t : ℕ) → IsMissed logs mask n t → IsMissed logs mask (n + 1) t
    left t m = record { dev = m.dev; below = (let lt = m.below in omega arith); online = m.online; has = m.has }

    right : (t : ℕ) → (is_online mask n ≡ true) × (has_txg log t ≡ true) → IsMissed logs mask (n + 1) t
    right t h = record { dev = n; below = omega arith; online = h.0; has = subst (λ l. has_txg l t ≡ true) is h.1 }

-- empty logs are short
pub short_none : (n : ℕ) → AreShort (replicate n [])
short_none zero dev = omega arith
short_none (suc n) zero = omega arith
short_none (suc n) (suc dev) = short_none n dev
