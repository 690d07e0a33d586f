-- What a loop over a list has passed, and lists that lose elements.
use Rattle.std.proofs.Common.{◌≡◌, ◌<◌, ◌≤◌, ◌+◌, ℕ, Bool, true, false, cond, List, [], ◌∷◌, take, drop, length, get_or, refl, sym, subst, ◌∙◌, arith}
use Rattle.std.specs.Prelude.{filter}
use Rattle.std.proofs.lemmas.Bool.{true≢false}
use Rattle.std.proofs.lemmas.List.{take_more, take_all, take-append-drop}
use Rattle.zs_ids.specs.Graph.{Has}
use Rattle.zs_graph.proofs.Lists.{from-append, has-right, has-left}
use mathlib.Core.Logic.{inl, inr}

module _ {A : Type 0} where
  -- one more element is passed
  pub passed_more : (P : A → Type 0) (xs : List A) (i : ℕ) (x : A) → i < length xs → x ≡ get_or xs i x → ((y : A) → Has (take i xs) y → P y) → P x → (y : A) → Has (take (i + 1) xs) y → P y
  passed_more P xs i x within is so_far here y h =
      elim (from-append (take i xs) (get_or xs i x ∷ []) y (subst (λ (l : List A). Has l y) (take_more xs i x within) h)) [
        | inl l ↦ so_far y l
        | inr r ↦ elim r [ inl e ↦ subst P (is ∙ e) here | inr no_more ↦ absurd no_more ]
      ]

  -- all are passed
  pub passed_all : (P : A → Type 0) (xs : List A) (i : ℕ) → length xs ≤ i → ((y : A) → Has (take i xs) y → P y) → (y : A) → Has xs y → P y
  passed_all P xs i over so_far y h = so_far y (subst (λ (l : List A). Has l y) (sym (take_all i xs over)) h)

  -- a list has what stands in it
  pub has_at : (xs : List A) (i : ℕ) (x : A) → i < length xs → x ≡ get_or xs i x → Has xs x
  has_at xs i x within is =
      let more : Has (take (i + 1) xs) x = subst (λ (l : List A). Has l x) (sym (take_more xs i x within)) (has-right (take i xs) (get_or xs i x ∷ []) x (inl (sym is))) in
      subst (λ (l : List A). Has l x) (take-append-drop (i + 1) xs) (has-left (take (i + 1) xs) (drop (i + 1) xs) x more)

module _ {A : Type 0} (p q : A → Bool) (sub : (x : A) → q x ≡ true → p x ≡ true) where
  -- a test that passes less leaves no more
  pub no_more : (xs : List A) → length (filter q xs) ≤ length (filter p xs)
  no_more [] = omega arith
  no_more (y ∷ ys) = go (q y) (p y) (sub y) (no_more ys)
    where
      go : (b c : Bool) → (b ≡ true → c ≡ true) → length (filter q ys) ≤ length (filter p ys) → length (cond b (y ∷ filter q ys) (filter q ys)) ≤ length (cond c (y ∷ filter p ys) (filter p ys))
      go true true h le = omega arith
      go true false h le = absurd (true≢false (sym (h refl)))
      go false true h le = omega arith
      go false false h le = le

  -- and fewer where one of the elements passes the other test alone
  pub fewer : (xs : List A) (x : A) → Has xs x → p x ≡ true → q x ≡ false → length (filter q xs) < length (filter p xs)
  fewer [] x h px qx = absurd h
  fewer (y ∷ ys) x (inl e) px qx =
      go (q y) (p y) (subst (λ (z : A). q z ≡ false) (sym e) qx) (subst (λ (z : A). p z ≡ true) (sym e) px) (no_more ys)
    where
      go : (b c : Bool) → b ≡ false → c ≡ true → length (filter q ys) ≤ length (filter p ys) → length (cond b (y ∷ filter q ys) (filter q ys)) < length (cond c (y ∷ filter p ys) (filter p ys))
      go true c f t le = absurd (true≢false f)
      go false false f t le = absurd (true≢false (sym t))
      go false true f t le = omega arith
  fewer (y ∷ ys) x (inr h) px qx = go (q y) (p y) (sub y) (fewer ys x h px qx)
    where
      go : (b c : Bool) → (b ≡ true → c ≡ true) → length (filter q ys) < length (filter p ys) → length (cond b (y ∷ filter q ys) (filter q ys)) < length (cond c (y ∷ filter p ys) (filter p ys))
      go true true h2 lt = omega arith
      go true false h2 lt = absurd (true≢false (sym (h2 refl)))
      go false true h2 lt = omega arith
      go false false h2 lt = lt
