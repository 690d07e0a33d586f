-- Whether a sector lies in a range, as a number.
use Rattle.std.proofs.Common.{◌≡◌, ◌≤◌, ◌<◌, ◌+◌, ◌⊎◌, ℕ, true, false, cond, arith, refl, ap, inl, inr}
use Rattle.std.proofs.lemmas.Bool.Decides.{nat_tests}
use Rattle.zs_alloc.specs.Free.{hits, is_within}

pub hits_in : (a b s : ℕ) → a ≤ s → s < b → hits a b s ≡ 1
unfolding hits
hits_in a b s p q = ap (λ t. cond t 1 0) (inside a b s p q)
  where
    inside : (a b s : ℕ) → a ≤ s → s < b → is_within a b s ≡ true
    inside a b s p q = grind (arith, nat_tests)

pub hits_below : (a b s : ℕ) → s < a → hits a b s ≡ 0
unfolding hits
hits_below a b s p = ap (λ t. cond t 1 0) (outside a b s p)
  where
    outside : (a b s : ℕ) → s < a → is_within a b s ≡ false
    outside a b s p = grind (arith, nat_tests)

pub hits_above : (a b s : ℕ) → b ≤ s → hits a b s ≡ 0
unfolding hits
hits_above a b s p = ap (λ t. cond t 1 0) (outside a b s p)
  where
    outside : (a b s : ℕ) → b ≤ s → is_within a b s ≡ false
    outside a b s p = grind (arith, nat_tests)

-- where a sector lies
pub where_is : (a b s : ℕ) → (s < a) ⊎ ((a ≤ s) × (s < b)) ⊎ (b ≤ s)
where_is a b s = grind arith

pub hits_split : (a b c s : ℕ) → a ≤ b → b ≤ c → hits a c s ≡ hits a b s + hits b c s
hits_split a b c s p q = elim (where_is a b s) [
  | inl low ↦
      let here : s < b = omega arith in
      rw (hits_below a c s low, hits_below a b s low, hits_below b c s here) refl
  | inr at ↦ elim at [
    | inl mid ↦
        let le = mid.0 in
        let lt = mid.1 in
        let high : s < c = omega arith in
        rw (hits_in a c s le high, hits_in a b s le lt, hits_below b c s lt) refl
    | inr up ↦ elim (where_is b c s) [
      | inl low ↦ absurd (omega arith)
      | inr on ↦ elim on [
        | inl mid ↦
            let le = mid.0 in
            let lt = mid.1 in
            let high : a ≤ s = omega arith in
            rw (hits_in a c s high lt, hits_above a b s up, hits_in b c s le lt) refl
        | inr past ↦
            rw (hits_above a c s past, hits_above a b s up, hits_above b c s past) refl
      ]
    ]
  ]
]
