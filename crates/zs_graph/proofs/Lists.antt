-- What a list has: of appended, mapped and filtered lists.
use Rattle.std.proofs.Common.{◌≡◌, ◌≢◌, ◌⊎◌, Bool, true, false, cond, List, [], ◌∷◌, ◌++◌, refl, sym, ap, subst, ◌∙◌}
use Rattle.std.specs.Prelude.{map, filter, find, is_some, unwrap_or, IsTrue, Option, Some, None}
use Rattle.std.proofs.lemmas.Bool.{true≢false}
use Rattle.zs_ids.specs.Graph.{Has}
use mathlib.Core.Logic.{inl, inr}

module _ {A : Type 0} where
  pub has-left : (xs ys : List A) (x : A) → Has xs x → Has (xs ++ ys) x
  has-left [] ys x h = absurd h
  has-left (z ∷ xs) ys x (inl e) = inl e
  has-left (z ∷ xs) ys x (inr h) = inr (has-left xs ys x h)

  pub has-right : (xs ys : List A) (x : A) → Has ys x → Has (xs ++ ys) x
  has-right [] ys x h = h
  has-right (z ∷ xs) ys x h = inr (has-right xs ys x h)

  -- what an appended list has stands in one of its two parts
  pub from-append : (xs ys : List A) (x : A) → Has (xs ++ ys) x → Has xs x ⊎ Has ys x
  from-append [] ys x h = inr h
  from-append (z ∷ xs) ys x (inl e) = inl (inl e)
  from-append (z ∷ xs) ys x (inr h) = elim (from-append xs ys x h) [ inl l ↦ inl (inr l) | inr r ↦ inr r ]

  pub has-filter : (test : A → Bool) (xs : List A) (x : A) → Has xs x → IsTrue (test x) → Has (filter test xs) x
  has-filter test [] x h is = absurd h
  has-filter test (y ∷ xs) x (inl e) is =
      subst (λ (b : Bool). Has (cond b (y ∷ filter test xs) (filter test xs)) x) (sym (subst (λ (z : A). test z ≡ true) (sym e) is)) (inl e)
  has-filter test (y ∷ xs) x (inr h) is = go (test y) (has-filter test xs x h is)
    where
      go : (b : Bool) → Has (filter test xs) x → Has (cond b (y ∷ filter test xs) (filter test xs)) x
      go true r = inr r
      go false r = r

  pub from-filter : (test : A → Bool) (xs : List A) (x : A) → Has (filter test xs) x → Has xs x × IsTrue (test x)
  from-filter test [] x h = absurd h
  from-filter test (y ∷ xs) x h = go (test y) refl h (λ r. from-filter test xs x r)
    where
      go : (b : Bool) → test y ≡ b → Has (cond b (y ∷ filter test xs) (filter test xs)) x → (Has (filter test xs) x → Has xs x × IsTrue (test x)) → Has (y ∷ xs) x × IsTrue (test x)
      go true is (inl e) rest = (inl e, subst (λ (z : A). test z ≡ true) e is)
      go true is (inr r) rest = (inr (rest r).0, (rest r).1)
      go false is r rest = (inr (rest r).0, (rest r).1)

  pub some_is : (x y : A) → Some x ≡ Some y → x ≡ y
  some_is x y e = ap (λ (o : Option A). unwrap_or o x) e

  pub some≢none : (x : A) → Some x ≢ None
  some≢none x e = true≢false (ap (λ (o : Option A). is_some o) e)

  -- what `find` finds stands in the list and passes the test
  pub from-find : (test : A → Bool) (xs : List A) (x : A) → find test xs ≡ Some x → Has xs x × IsTrue (test x)
  from-find test [] x is = absurd (some≢none x (sym is))
  from-find test (y ∷ xs) x is = go (test y) refl is (λ r. from-find test xs x r)
    where
      go : (b : Bool) → test y ≡ b → cond b (Some y) (find test xs) ≡ Some x → (find test xs ≡ Some x → Has xs x × IsTrue (test x)) → Has (y ∷ xs) x × IsTrue (test x)
      go true at e rest = (inl (some_is y x e), subst (λ (z : A). test z ≡ true) (some_is y x e) at)
      go false at e rest = (inr (rest e).0, (rest e).1)

  -- where `find` finds nothing, nothing in the list passes the test
  pub none-find : (test : A → Bool) (xs : List A) (x : A) → find test xs ≡ None → Has xs x → test x ≡ false
  none-find test [] x is h = absurd h
  none-find test (y ∷ xs) x is h = go (test y) refl is h (λ e r. none-find test xs x e r)
    where
      go : (b : Bool) → test y ≡ b → cond b (Some y) (find test xs) ≡ None → Has (y ∷ xs) x → (find test xs ≡ None → Has xs x → test x ≡ false) → test x ≡ false
      go true at e stands rest = absurd (some≢none y e)
      go false at e (inl same) rest = subst (λ (z : A). test z ≡ false) same at
      go false at e (inr r) rest = rest e r

  -- a `find` by a test that one element alone passes finds it
  pub find_is : (test : A → Bool) (xs : List A) (x : A) → Has xs x → IsTrue (test x) → ((y : A) → Has xs y → IsTrue (test y) → y ≡ x) → find test xs ≡ Some x
  find_is test [] x h is one = absurd h
  find_is test (y ∷ xs) x h is one = go (test y) refl h (λ r. find_is test xs x r is (λ z i t. one z (inr i) t))
    where
      go : (b : Bool) → test y ≡ b → Has (y ∷ xs) x → (Has xs x → find test xs ≡ Some x) → cond b (Some y) (find test xs) ≡ Some x
      go true at stands rest = ap Some (one y (inl refl) at)
      go false at (inl e) rest = absurd (true≢false (sym (subst (λ (z : A). test z ≡ true) (sym e) is) ∙ at))
      go false at (inr r) rest = rest r

-- what a mapped list has comes from an element, and the other way round
module _ {A B : Type 0} where
  pub has-map : (f : A → B) (xs : List A) (x : A) → Has xs x → Has (map f xs) (f x)
  has-map f [] x h = absurd h
  has-map f (y ∷ xs) x (inl e) = inl (ap f e)
  has-map f (y ∷ xs) x (inr h) = inr (has-map f xs x h)

  pub from-map : (f : A → B) (xs : List A) (y : B) → Has (map f xs) y → (x : A) × Has xs x × (f x ≡ y)
  from-map f [] y h = absurd h
  from-map f (z ∷ xs) y (inl e) = (z, inl refl, e)
  from-map f (z ∷ xs) y (inr h) = let r = from-map f xs y h in (r.0, inr r.1, r.2)
