-- Lists as contracts see them: an element and its index, and what searches and tests say of mapped lists.
use Rattle.std.proofs.Common.{◌≡◌, ◌<◌, ◌≤◌, ◌||◌, ℕ, suc, zero, Bool, true, false, cond, List, [], ◌∷◌, length, drop, get_or, Option, refl, sym, ap, subst, ◌∙◌, arith}
use Rattle.std.specs.Prelude.{map, filter, find, option_map, slice_get, Some, None}
use Rattle.std.specs.List.{list_any}
use Rattle.std.proofs.lemmas.Bool.{true≢false}
use Rattle.std.proofs.lemmas.List.{length-map}
use Rattle.std.proofs.lemmas.Option.{slice_get-map, slice_get-get_or}
use Rattle.zs_ids.specs.declared.key.Key.{Key}
use Rattle.zs_ids.specs.declared.block.Bp.{Bp}
use Rattle.zs_ids.specs.Graph.{Has, Graph}
use Rattle.zs_graph.specs.declared.graph.Set.{Set}
use Rattle.zs_graph.specs.View.{dataset_of}
use Rattle.zs_graph.proofs.Lists.{some≢none}
use mathlib.Core.Logic.{inl, inr}

module _ {A : Type 0} where
  -- an index in the list has an element
  pub at_index : (xs : List A) (i : ℕ) → i < length xs → (x : A) × (slice_get xs i ≡ Some x) × Has xs x
  at_index [] i l = absurd (omega (arith, l))
  at_index (x ∷ xs) zero l = (x, refl, inl refl)
  at_index (x ∷ xs) (suc i) l = let r = at_index xs i (omega (arith, l)) in (r.0, r.1, inr r.2)

  -- and an element of the list has an index
  pub has_index : (xs : List A) (x : A) → Has xs x → (i : ℕ) × (i < length xs) × (slice_get xs i ≡ Some x)
  has_index [] x h = absurd h
  has_index (y ∷ xs) x (inl e) = (zero, omega arith, ap Some e)
  has_index (y ∷ xs) x (inr h) = let r = has_index xs x h in (suc r.0, omega (arith, r.1), r.2)

  pub has_at : (xs : List A) (i : ℕ) (x : A) → slice_get xs i ≡ Some x → Has xs x
  has_at [] i x e = absurd (some≢none x (sym e))
  has_at (y ∷ xs) zero x e = inl (one e)
    where
      one : Some y ≡ Some x → y ≡ x
      one f = ap (λ (o : Option A). or_first o) f
        where
          or_first : Option A → A
          or_first None = y
          or_first (Some z) = z
  has_at (y ∷ xs) (suc i) x e = inr (has_at xs i x e)

  -- where nothing in the list passes, nothing is found
  pub find_none : (test : A → Bool) (xs : List A) → ((x : A) → Has xs x → test x ≡ false) → find test xs ≡ None
  find_none test [] fails = refl
  find_none test (x ∷ xs) fails =
      subst (λ (b : Bool). cond b (Some x) (find test xs) ≡ None) (sym (fails x (inl refl))) (find_none test xs (λ y h. fails y (inr h)))

  -- where no element of the list passes, each fails
  pub none_passes : (test : A → Bool) (xs : List A) → list_any test xs ≡ false → (x : A) → Has xs x → test x ≡ false
  none_passes test [] none x h = absurd h
  none_passes test (y ∷ xs) none x h = go (test y) refl none h (λ e i. none_passes test xs e x i)
    where
      go : (b : Bool) → test y ≡ b → (b || list_any test xs) ≡ false → Has (y ∷ xs) x → (list_any test xs ≡ false → Has xs x → test x ≡ false) → test x ≡ false
      go true is e i rest = absurd (true≢false e)
      go false is e (inl same) rest = subst (λ (z : A). test z ≡ false) same is
      go false is e (inr i) rest = rest e i

  -- the first of what is left at an index
  pub first-drop : (xs : List A) (n : ℕ) → slice_get (drop n xs) 0 ≡ slice_get xs n
  first-drop [] zero = refl
  first-drop [] (suc n) = refl
  first-drop (x ∷ xs) zero = refl
  first-drop (x ∷ xs) (suc n) = first-drop xs n

module _ {A B : Type 0} where
  pub find-mapped : (f : A → B) (test : B → Bool) (xs : List A) → find test (map f xs) ≡ option_map f (find (λ x. test (f x)) xs)
  find-mapped f test [] = refl
  find-mapped f test (x ∷ xs) = go (test (f x)) (find-mapped f test xs)
    where
      go : (b : Bool) → find test (map f xs) ≡ option_map f (find (λ y. test (f y)) xs) → cond b (Some (f x)) (find test (map f xs)) ≡ option_map f (cond b (Some x) (find (λ y. test (f y)) xs))
      go true e = refl
      go false e = e

  pub any-mapped : (f : A → B) (test : B → Bool) (xs : List A) → list_any test (map f xs) ≡ list_any (λ x. test (f x)) xs
  any-mapped f test [] = refl
  any-mapped f test (x ∷ xs) = ap (λ (b : Bool). test (f x) || b) (any-mapped f test xs)

  pub filter-mapped : (f : A → B) (test : B → Bool) (xs : List A) → filter test (map f xs) ≡ map f (filter (λ x. test (f x)) xs)
  filter-mapped f test [] = refl
  filter-mapped f test (x ∷ xs) = go (test (f x)) (filter-mapped f test xs)
    where
      go : (b : Bool) → filter test (map f xs) ≡ map f (filter (λ y. test (f y)) xs) → cond b (f x ∷ filter test (map f xs)) (filter test (map f xs)) ≡ map f (cond b (x ∷ filter (λ y. test (f y)) xs) (filter (λ y. test (f y)) xs))
      go true e = ap (λ (ys : List B). f x ∷ ys) e
      go false e = e

  -- where an index parts a list by a test, what is left there is what passes
  pub parted : (f : A → B) (test : B → Bool) (xs : List A) (n : ℕ) → n ≤ length xs → ((k : ℕ) (d : A) → k < n → test (f (get_or xs k d)) ≡ false) → ((k : ℕ) (d : A) → n ≤ k → k < length xs → test (f (get_or xs k d)) ≡ true) → drop n (map f xs) ≡ filter test (map f xs)
  parted f test [] zero le below from = refl
  parted f test [] (suc n) le below from = absurd (omega (arith, le))
  parted f test (x ∷ xs) zero le below from =
      subst (λ (b : Bool). (f x ∷ map f xs) ≡ cond b (f x ∷ filter test (map f xs)) (filter test (map f xs))) (sym (from zero x (omega arith) (omega arith))) (ap (λ (ys : List B). f x ∷ ys) (sym (all f test xs (λ k d l. from (suc k) d (omega arith) (omega (arith, l))))))
    where
      all : (g : A → B) (passes : B → Bool) (ys : List A) → ((k : ℕ) (d : A) → k < length ys → passes (g (get_or ys k d)) ≡ true) → filter passes (map g ys) ≡ map g ys
      all g passes [] each = refl
      all g passes (y ∷ ys) each =
          subst (λ (b : Bool). cond b (g y ∷ filter passes (map g ys)) (filter passes (map g ys)) ≡ (g y ∷ map g ys)) (sym (each zero y (omega arith))) (ap (λ (zs : List B). g y ∷ zs) (all g passes ys (λ k d l. each (suc k) d (omega (arith, l)))))
  parted f test (x ∷ xs) (suc n) le below from =
      subst (λ (b : Bool). drop n (map f xs) ≡ cond b (f x ∷ filter test (map f xs)) (filter test (map f xs))) (sym (below zero x (omega arith))) (parted f test xs n (omega (arith, le)) (λ k d l. below (suc k) d (omega (arith, l))) (λ k d l m. from (suc k) d (omega (arith, l)) (omega (arith, m))))

-- the first that passes of a mapped list is the first of what passes
pub find-filtered : {A B : Type 0} (f : A → B) (test : B → Bool) (xs : List A) → find test (map f xs) ≡ option_map f (slice_get (filter (λ x. test (f x)) xs) 0)
find-filtered f test [] = refl
find-filtered {A} {B} f test (x ∷ xs) = go (test (f x)) (find-filtered f test xs)
  where
    go : (b : Bool) → find test (map f xs) ≡ option_map f (slice_get (filter (λ (y : A). test (f y)) xs) 0) → cond b (Some (f x)) (find test (map f xs)) ≡ option_map f (slice_get (cond b (x ∷ filter (λ (y : A). test (f y)) xs) (filter (λ (y : A). test (f y)) xs)) 0)
    go true e = refl
    go false e = e

-- two tests, one after the other
pub find-both : {B C : Type 0} (h : B → C) (q : B → Bool) (p : C → Bool) (xs : List B) → find p (map h (filter q xs)) ≡ option_map h (find q (filter (λ x. p (h x)) xs))
find-both h q p [] = refl
find-both {B} {C} h q p (x ∷ xs) = go (q x) refl (p (h x)) refl (find-both h q p xs)
  where
    go : (a : Bool) → q x ≡ a → (b : Bool) → p (h x) ≡ b → find p (map h (filter q xs)) ≡ option_map h (find q (filter (λ (y : B). p (h y)) xs)) → find p (map h (cond a (x ∷ filter q xs) (filter q xs))) ≡ option_map h (find q (cond b (x ∷ filter (λ (y : B). p (h y)) xs) (filter (λ (y : B). p (h y)) xs)))
    go true qa true pb e = subst (λ (c : Bool). cond c (Some (h x)) (find p (map h (filter q xs))) ≡ option_map h (cond (q x) (Some x) (find q (filter (λ (y : B). p (h y)) xs)))) (sym pb) (subst (λ (c : Bool). Some (h x) ≡ option_map h (cond c (Some x) (find q (filter (λ (y : B). p (h y)) xs)))) (sym qa) refl)
    go true qa false pb e = subst (λ (c : Bool). cond c (Some (h x)) (find p (map h (filter q xs))) ≡ option_map h (find q (filter (λ (y : B). p (h y)) xs))) (sym pb) e
    go false qa true pb e = subst (λ (c : Bool). find p (map h (filter q xs)) ≡ option_map h (cond c (Some x) (find q (filter (λ (y : B). p (h y)) xs)))) (sym qa) e
    go false qa false pb e = e

-- what is kept of a mapped list, and found in it
pub map-map-option : {A B C : Type 0} (f : A → B) (h : B → C) (o : Option A) → option_map (λ x. h (f x)) o ≡ option_map h (option_map f o)
map-map-option f h None = refl
map-map-option f h (Some x) = refl

-- an element that was read at an index, as contracts see it
pub read_at : {A B : Type 0} (f : A → B) (xs : List A) (i : ℕ) (x : A) → x ≡ get_or xs i x → i < length (map f xs) → slice_get (map f xs) i ≡ Some (f x)
read_at f xs i x is l =
    let long = length-map xs f in
    slice_get-map f xs i ∙ ap (λ o. option_map f o) (slice_get-get_or xs i x (subst (λ (n : ℕ). i < n) long l) ∙ ap Some (sym is))

-- a dataset that was read at an index, as contracts see it
pub set_at : {T : Type 0} (entries : T → List (Key × Bp)) (items : List (Set T)) (g : Graph) → map (dataset_of entries) items ≡ g → (i : ℕ) (x : Set T) → x ≡ get_or items i x → i < length g → slice_get g i ≡ Some (dataset_of entries x)
set_at entries items g e i x is l =
    subst (λ (h : Graph). slice_get h i ≡ Some (dataset_of entries x)) e (read_at (dataset_of entries) items i x is (subst (λ (h : Graph). i < length h) (sym e) l))
