-- The batches in flight: their numbers rise.
use Rattle.std.proofs.Common.{◌≡◌, ℕ, ◌+◌, ◌<◌, ◌==◌, ◌++◌, Bool, true, false, not, cond, List, [], ◌∷◌, filter, refl, sym, ◌∙◌, ap, subst, inl, inr, ◌⊎◌, arith, drop, eqb-true, eq-eqb}
use Rattle.zs_ids.specs.Graph.{Has}
use Rattle.zs_queue.specs.Lists.{has-filter}
use Rattle.zs_scan.specs.declared.batch.Batch.{Batch}
use Rattle.zs_scan.specs.Kept.{RisesTo}
use Rattle.zs_scan.specs.Flight.{IsFirst}

module _ {A : Type 0} where
  pub has-left : (xs ys : List A) (x : A) → Has xs x → Has (xs ++ ys) x
  has-left [] ys x h = absurd h
  has-left (y ∷ xs) ys x (inl is) = inl is
  has-left (y ∷ xs) ys x (inr later) = inr (has-left xs ys x later)

  pub has-last : (xs : List A) (x : A) → Has (xs ++ x ∷ []) x
  has-last [] x = inl refl
  has-last (y ∷ xs) x = inr (has-last xs x)

  pub from-last : (xs : List A) (y x : A) → Has (xs ++ y ∷ []) x → Has xs x ⊎ (y ≡ x)
  from-last [] y x h = elim h [ inl is ↦ inr is | inr none ↦ absurd none ]
  from-last (z ∷ xs) y x h = elim h [ inl is ↦ inl (inl is) | inr later ↦ elim (from-last xs y x later) [ inl old ↦ inl (inr old) | inr new ↦ inr new ] ]

  pub into-filter : (p : A → Bool) (xs : List A) (x : A) → Has xs x → p x ≡ true → Has (filter p xs) x
  into-filter p [] x h passes = absurd h
  into-filter p (y ∷ xs) x h passes = elim h [
    | inl is ↦ rw (subst (λ (z : A). p z ≡ true) (sym is) passes) (inl is)
    | inr later ↦ elim (p y) as (λ b. Has (cond b (y ∷ filter p xs) (filter p xs)) x) [ true ↦ inr (into-filter p xs x later passes) | false ↦ into-filter p xs x later passes ]
  ]

-- a batch in flight has a number below the next one
pub below_next : (next : ℕ) (bs : List Batch) (b : Batch) → RisesTo next bs → Has bs b → b.number < next
below_next next [] b rises h = absurd h
below_next next (c ∷ bs) b rises h = elim h [ inl is ↦ subst (λ (x : Batch). x.number < next) is rises.0 | inr later ↦ below_next next bs b rises.2 later ]

-- the next batch
pub rises_push : (next : ℕ) (bs : List Batch) (b : Batch) → RisesTo next bs → b.number ≡ next → RisesTo (next + 1) (bs ++ b ∷ [])
rises_push next [] b rises is = (omega (arith, is), λ c h. absurd h, tt)
rises_push next (c ∷ bs) b rises is = (
  let low : c.number < next = rises.0 in omega (arith, low),
  λ d h. elim (from-last bs b d h) [
    | inl old ↦ rises.1 d old
    | inr new ↦ let low : c.number < next = rises.0 in let same : b.number ≡ d.number = ap (λ (x : Batch). x.number) new in omega (arith, low, is, same)
  ],
  rises_push next bs b rises.2 is,
)

-- without one of them
pub rises_filter : (next : ℕ) (p : Batch → Bool) (bs : List Batch) → RisesTo next bs → RisesTo next (filter p bs)
rises_filter next p [] rises = tt
rises_filter next p (b ∷ bs) rises = elim (p b) as (λ x. RisesTo next (cond x (b ∷ filter p bs) (filter p bs))) [
  | true ↦ (rises.0, λ c h. rises.1 c (has-filter p bs c h).0, rises_filter next p bs rises.2)
  | false ↦ rises_filter next p bs rises.2
]

-- two batches in flight with one number are one
pub one_batch : (next : ℕ) (bs : List Batch) (b c : Batch) → RisesTo next bs → Has bs b → Has bs c → b.number ≡ c.number → b ≡ c
one_batch next [] b c rises hb hc same = absurd hb
one_batch next (d ∷ bs) b c rises hb hc same = elim hb [
  | inl db ↦ elim hc [
    | inl dc ↦ sym db ∙ dc
    | inr lc ↦ let less : d.number < c.number = rises.1 c lc in let is : d.number ≡ b.number = ap (λ (x : Batch). x.number) db in absurd (omega (arith, less, is, same))
  ]
  | inr lb ↦ elim hc [
    | inl dc ↦ let less : d.number < b.number = rises.1 b lb in let is : d.number ≡ c.number = ap (λ (x : Batch). x.number) dc in absurd (omega (arith, less, is, same))
    | inr lc ↦ one_batch next bs b c rises.2 lb lc same
  ]
]

-- the test of another number
pub other_number : (b : Batch) (number : ℕ) → (b.number ≡ number → ⊥) → not (b.number == number) ≡ true
other_number b number ne = go (b.number == number) refl
  where
    go : (x : Bool) → (b.number == number) ≡ x → not x ≡ true
    go true is = absurd (ne (eqb-true b.number number is))
    go false is = refl

-- greater numbers are other numbers: none of these is taken out
greater_stay : (number : ℕ) (bs : List Batch) → ((c : Batch) → Has bs c → number < c.number) → filter (λ b. not (b.number == number)) bs ≡ bs
greater_stay number [] above = refl
greater_stay number (b ∷ bs) above =
    let less : number < b.number = above b (inl refl) in
    let stays : not (b.number == number) ≡ true = other_number b number (λ same. omega (arith, less, same)) in
    rw stays (ap (λ (l : List Batch). b ∷ l) (greater_stay number bs (λ c h. above c (inr h))))

-- where the first of them has the number, the others have other numbers
pub others_stay : (next : ℕ) (bs : List Batch) (number : ℕ) → RisesTo next bs → IsFirst number bs → drop 1 bs ≡ filter (λ b. not (b.number == number)) bs
others_stay next [] number rises is = absurd is
others_stay next (b ∷ bs) number rises is =
    let same : (b.number == number) ≡ true = eq-eqb b.number number is in
    let above : (c : Batch) → Has bs c → number < c.number = λ c h. let less : b.number < c.number = rises.1 c h in omega (arith, less, is) in
    rw same (sym (greater_stay number bs above))
