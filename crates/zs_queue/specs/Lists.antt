-- What a list's part has, the list has.
use Rattle.std.proofs.Common.{◌≡◌, ℕ, zero, suc, ◌+◌, Bool, true, false, cond, List, [], ◌∷◌, map, filter, take, length, refl, subst, inl, inr, ◌⊎◌, arith}
use Rattle.std.specs.List.{AllByRecursion}
use Rattle.std.specs.List.Sorted.{IsStrictlySortedBy}
use Rattle.std.specs.declared.cmp.Ordering.{Ordering}
use Rattle.std.specs.declared.cmp.Ordering.TheVariants.{Less}
use Rattle.zs_ids.specs.Graph.{Has}

module _ {A : Type 0} where
  pub has-take : (n : ℕ) (xs : List A) (x : A) → Has (take n xs) x → Has xs x
  has-take zero xs x h = absurd h
  has-take (suc n) [] x h = absurd h
  has-take (suc n) (y ∷ ys) x (inl is) = inl is
  has-take (suc n) (y ∷ ys) x (inr h) = inr (has-take n ys x h)

  pub has-filter : (p : A → Bool) (xs : List A) (x : A) → Has (filter p xs) x → Has xs x × (p x ≡ true)
  has-filter p [] x h = absurd h
  has-filter p (y ∷ ys) x h = elim (p y) as (λ b. p y ≡ b → Has (cond b (y ∷ filter p ys) (filter p ys)) x → ((y ≡ x) ⊎ Has ys x) × (p x ≡ true)) [
    | true ↦ λ passes has. elim has [
      | inl is ↦ (inl is, subst (λ (z : A). p z ≡ true) is passes)
      | inr later ↦ let rest = has-filter p ys x later in (inr rest.0, rest.1)
    ]
    | false ↦ λ fails has. let rest = has-filter p ys x has in (inr rest.0, rest.1)
  ] refl h

  -- how many of the list pass, from how many of its tail do
  pub passing-cons : (p : A → Bool) (y : A) (ys : List A) → length (filter p (y ∷ ys)) ≡ length (filter p ys) + cond (p y) 1 0
  passing-cons p y ys =
      elim (p y) as
      (λ b. length (cond b (y ∷ filter p ys) (filter p ys))
      ≡ length (filter p ys) + cond b 1 0) [ true ↦ omega arith | false ↦ omega arith ]

  pub all-take : (P : A → Type 0) (n : ℕ) (xs : List A) → AllByRecursion P xs → AllByRecursion P (take n xs)
  all-take P zero xs all = tt
  all-take P (suc n) [] all = tt
  all-take P (suc n) (y ∷ ys) all = (all.0, all-take P n ys all.1)

  pub sorted-take : (c : A → A → Ordering) (n : ℕ) (xs : List A) → IsStrictlySortedBy c xs → IsStrictlySortedBy c (take n xs)
  unfolding IsStrictlySortedBy
  sorted-take c zero xs sorted = tt
  sorted-take c (suc n) [] sorted = tt
  sorted-take c (suc n) (y ∷ ys) sorted = (all-take (λ z. c y z ≡ Less) n ys sorted.0, sorted-take c n ys sorted.1)

pub has-map : {A B : Type 0} (f : A → B) (xs : List A) (y : B) → Has (map f xs) y → (x : A) × Has xs x × (f x ≡ y)
has-map f [] y h = absurd h
has-map f (x ∷ xs) y (inl is) = (x, inl refl, is)
has-map f (x ∷ xs) y (inr h) = let rest = has-map f xs y h in (rest.0, inr rest.1, rest.2)
