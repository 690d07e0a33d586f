-- The sizes of records in sectors: a power of two of bytes from 512 to 131072 is a power of two of sectors from 1 to 256.
use Rattle.std.specs.Prelude.{◌≡◌, ◌⊎◌, ◌+◌, ◌*◌, ◌/◌, ◌%◌, ◌^◌, ◌<◌, ◌≤◌, ℕ, zero, suc, List, [], ◌∷◌, map, count_ones, IsTrue, refl}
use Rattle.std.specs.Int.{is_power_of_two}
use Rattle.std.specs.Int.Count.{ones_step}
use Rattle.std.proofs.Common.{sym, ◌∙◌, ap, subst, inl, inr, arith}
use Rattle.std.proofs.lemmas.Bool.{eqb-true}
use Rattle.std.proofs.lemmas.Nat.{zero_from_ones, ones_le_self, pow_pos}
use Rattle.std.proofs.Math.Nat.{pow-succ', div-div-eq-div-mul, div-one}
use Rattle.zs_ids.specs.Graph.{Has}
use Rattle.zs_ids.specs.GraphValid.{record_sizes}

-- a number with one bit set is 1, or even and half of it is such a number
halved : (n : ℕ) → count_ones n ≡ 1 → (n ≡ 1) ⊎ ((n % 2 ≡ 0) × (count_ones (n / 2) ≡ 1))
halved n one = by (n % 2) refl
  where
    step : count_ones n ≡ n % 2 + count_ones (n / 2)
    step = ones_step n

    by : (r : ℕ) → n % 2 ≡ r → (n ≡ 1) ⊎ ((n % 2 ≡ 0) × (count_ones (n / 2) ≡ 1))
    by zero even = inr (even, omega (arith, one, step, even))
    by (suc r) odd = inl (let none : n / 2 ≡ 0 = zero_from_ones (n / 2) (omega (arith, one, step, odd)) in omega (arith, one, step, odd, none))

-- twice a number
abbrev double : ℕ → ℕ
double n = n * 2

-- the powers of two up to the k-th
abbrev powers : ℕ → List ℕ
powers zero = 1 ∷ []
powers (suc k) = 1 ∷ map double (powers k)

-- twice a number of a list is one of the list of doubles
has_double : (xs : List ℕ) (n : ℕ) → Has xs n → Has (map double xs) (double n)
has_double [] n h = absurd h
has_double (x ∷ xs) n (inl is) = inl (λ i. double (is i))
has_double (x ∷ xs) n (inr h) = inr (has_double xs n h)

-- a number with one bit set is one of the powers of two
among : (k n : ℕ) → n < 2 ^ suc k → count_ones n ≡ 1 → Has (powers k) n
among zero n few one = elim (halved n one) [ inl is ↦ inl (sym is) | inr half ↦ absurd (let one_bit : count_ones (n / 2) ≡ 1 = half.1 in omega (arith, few, one_bit, ones_le_self (n / 2))) ]
among (suc k) n few one = elim (halved n one) [
  | inl is ↦ inl (sym is)
  | inr half ↦ inr (subst (λ (m : ℕ). Has (map double (powers k)) m) (omega (arith, half.0)) (has_double (powers k) (n / 2) (among k (n / 2) (omega (arith, few)) half.1)))
]

-- it has one still where it was halved so often
shifted : (k n : ℕ) → 2 ^ k ≤ n → count_ones n ≡ 1 → count_ones (n / 2 ^ k) ≡ 1
shifted zero n many one = ap count_ones (div-one n) ∙ one
shifted (suc k) n many one =
    let twice : 2 ^ suc k ≡ 2 * 2 ^ k = pow-succ' 2 k in
    let some : 2 ^ k ≤ n / 2 = omega (arith, many, twice) in
    let half : count_ones (n / 2) ≡ 1 = elim (halved n one) [ inl is ↦ absurd (omega (arith, is, some, pow_pos k)) | inr h ↦ h.1 ] in
    ap count_ones (ap (λ m. n / m) twice ∙ sym (div-div-eq-div-mul n 2 (2 ^ k))) ∙ shifted k (n / 2) some half

-- a record's bytes are one of the sizes in sectors
pub is_record_size : (size : ℕ) → 512 ≤ size → size ≤ 131072 → IsTrue (is_power_of_two size) → Has record_sizes (size / 512)
is_record_size size least most power = among 8 (size / 512) (omega (arith, most)) (shifted 9 size least (eqb-true (count_ones size) 1 power))
