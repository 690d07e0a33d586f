-- What a list in order has once an entry was put in, and what it has at a key.
use Rattle.std.specs.Prelude.{◌≡◌, ◌≢◌, ◌⊎◌, Bool, true, false, cond, List, [], ◌∷◌, Option, Some, None, is_some, unwrap_or, refl}
use Rattle.std.specs.Ordering.{is_eq, is_lt, match_ordering}
use Rattle.std.specs.Cmp.{IsTotalOrder}
use Rattle.std.specs.declared.cmp.Ordering.{Ordering}
use Rattle.std.specs.declared.cmp.Ordering.TheVariants.{Less, Equal, Greater}
use Rattle.std.specs.List.{AllByRecursion}
use Rattle.std.specs.List.Sorted.{IsStrictlySortedBy}
use Rattle.std.specs.Map.{lookup, keys_of}
use Rattle.std.specs.BTreeMap.{insert_entry, is_at}
use Rattle.std.proofs.Common.{sym, ◌∙◌, ap, subst, inl, inr}
use Rattle.std.proofs.lemmas.Bool.{true≢false}
use Rattle.std.proofs.lemmas.Cmp.{tied_itself}
use Rattle.zs_ids.specs.Graph.{Has}

is_equal : (r : Ordering) → is_eq r ≡ true → r ≡ Equal
is_equal Less e = absurd (true≢false (sym e))
is_equal Equal e = refl
is_equal Greater e = absurd (true≢false (sym e))

module _ {K : Type 0} (R : K → K → Ordering) (o : IsTotalOrder R) where
  not_itself : (k x : K) → R k x ≡ Less → x ≢ k
  not_itself k x less is = true≢false (ap is_lt (sym (subst (λ (y : K). R k y ≡ Less) is less) ∙ tied_itself o k))

  not_tied : (k x : K) → is_eq (R k x) ≡ false → x ≢ k
  not_tied k x apart is = true≢false (sym (ap is_eq (tied_itself o k)) ∙ subst (λ (y : K). is_eq (R k y) ≡ false) is apart)

module _ {K X : Type 0} (R : K → K → Ordering) (o : IsTotalOrder R) (same : (x y : K) → R x y ≡ Equal → x ≡ y) where
  abbrev Below : K → List (K × X) → Type 0
  Below k es = AllByRecursion (λ y. R k y ≡ Less) (keys_of es)

  above_first : (k : K) (es : List (K × X)) (e : K × X) → Below k es → Has es e → R k e.0 ≡ Less
  above_first k [] e all h = absurd h
  above_first k (x ∷ xs) e all (inl is) = subst (λ (y : K × X). R k y.0 ≡ Less) is all.0
  above_first k (x ∷ xs) e all (inr h) = above_first k xs e all.1 h

  -- what there is after an entry was put in: it, or what there was at another key
  pub from_put : (es : List (K × X)) (k : K) (v : X) (e : K × X) → IsStrictlySortedBy R (keys_of es) → Has (insert_entry R es k v) e → ((k, v) ≡ e) ⊎ (Has es e × (e.0 ≢ k))
  unfolding IsStrictlySortedBy
  from_put [] k v e s (inl is) = inl is
  from_put [] k v e s (inr none) = absurd none
  from_put (x ∷ xs) k v e s h = go (R k x.0) refl h (λ r. from_put xs k v e s.1 r)
    where
      go : (r : Ordering) → R k x.0 ≡ r → Has (match_ordering r ((k, v) ∷ x ∷ xs) ((x.0, v) ∷ xs) (x ∷ insert_entry R xs k v)) e → (Has (insert_entry R xs k v) e → ((k, v) ≡ e) ⊎ (Has xs e × (e.0 ≢ k))) → ((k, v) ≡ e) ⊎ (Has (x ∷ xs) e × (e.0 ≢ k))
      go Less is (inl new) rest = inl new
      go Less is (inr (inl first)) rest = inr (inl first, subst (λ (y : K × X). y.0 ≢ k) first (not_itself R o k x.0 is))
      go Less is (inr (inr more)) rest = inr (inr more, not_itself R o k e.0 (o.trans k x.0 e.0 is (above_first x.0 xs e s.0 more)))
      go Equal is (inl new) rest = inl (ap (λ (y : K). let z : K × X = (y, v) in z) (same k x.0 is) ∙ new)
      go Equal is (inr more) rest = inr (inr more, subst (λ (y : K). e.0 ≢ y) (sym (same k x.0 is)) (not_itself R o x.0 e.0 (above_first x.0 xs e s.0 more)))
      go Greater is (inl first) rest = inr (inl first, subst (λ (y : K × X). y.0 ≢ k) first (not_tied R o k x.0 (ap is_eq is)))
      go Greater is (inr more) rest = elim (rest more) [ inl new ↦ inl new | inr old ↦ inr (inr old.0, old.1) ]

  -- the entry that was put in is there
  pub put_new : (es : List (K × X)) (k : K) (v : X) → Has (insert_entry R es k v) (k, v)
  put_new [] k v = inl refl
  put_new (x ∷ xs) k v = go (R k x.0) refl (put_new xs k v)
    where
      go : (r : Ordering) → R k x.0 ≡ r → Has (insert_entry R xs k v) (k, v) → Has (match_ordering r ((k, v) ∷ x ∷ xs) ((x.0, v) ∷ xs) (x ∷ insert_entry R xs k v)) (k, v)
      go Less is rest = inl refl
      go Equal is rest = inl (ap (λ (y : K). let z : K × X = (y, v) in z) (sym (same k x.0 is)))
      go Greater is rest = inr rest

  -- what there was at another key is there
  pub put_old : (es : List (K × X)) (k : K) (v : X) (e : K × X) → Has es e → e.0 ≢ k → Has (insert_entry R es k v) e
  put_old [] k v e h other = absurd h
  put_old (x ∷ xs) k v e h other = go (R k x.0) refl h (λ r. put_old xs k v e r other)
    where
      go : (r : Ordering) → R k x.0 ≡ r → Has (x ∷ xs) e → (Has xs e → Has (insert_entry R xs k v) e) → Has (match_ordering r ((k, v) ∷ x ∷ xs) ((x.0, v) ∷ xs) (x ∷ insert_entry R xs k v)) e
      go Less is i rest = inr i
      go Equal is (inl first) rest = absurd (other (ap (λ (y : K × X). y.0) (sym first) ∙ sym (same k x.0 is)))
      go Equal is (inr more) rest = inr more
      go Greater is (inl first) rest = inl first
      go Greater is (inr more) rest = inr (rest more)

  -- what is found at a key is there
  pub at_some : (es : List (K × X)) (k : K) (v : X) → lookup (is_at (R k)) es ≡ Some v → Has es (k, v)
  at_some [] k v is = absurd (true≢false (sym (ap is_some is)))
  at_some (x ∷ xs) k v is = go (is_eq (R k x.0)) refl is (λ r. at_some xs k v r)
    where
      go : (b : Bool) → is_eq (R k x.0) ≡ b → cond b (Some x.1) (lookup (is_at (R k)) xs) ≡ Some v → (lookup (is_at (R k)) xs ≡ Some v → Has xs (k, v)) → Has (x ∷ xs) (k, v)
      go true tied found rest =
          let key : x.0 ≡ k = sym (same k x.0 (is_equal (R k x.0) tied)) in
          let value : x.1 ≡ v = ap (λ (y : Option X). unwrap_or y v) found in
          inl (λ i. (key i, value i))
      go false apart found rest = inr (rest found)

  -- where nothing is found at a key, each entry has another key
  pub at_none : (es : List (K × X)) (k : K) (e : K × X) → lookup (is_at (R k)) es ≡ None → Has es e → e.0 ≢ k
  at_none [] k e is h = absurd h
  at_none (x ∷ xs) k e is h = go (is_eq (R k x.0)) refl is h (λ r i. at_none xs k e r i)
    where
      go : (b : Bool) → is_eq (R k x.0) ≡ b → cond b (Some x.1) (lookup (is_at (R k)) xs) ≡ None → Has (x ∷ xs) e → (lookup (is_at (R k)) xs ≡ None → Has xs e → e.0 ≢ k) → e.0 ≢ k
      go true tied found i rest = absurd (true≢false (ap is_some found))
      go false apart found (inl first) rest = subst (λ (y : K × X). y.0 ≢ k) first (not_tied R o k x.0 apart)
      go false apart found (inr more) rest = rest found more

  -- a key is that of an entry, or of none
  pub at_key : (es : List (K × X)) (k : K) → ((v : X) × Has es (k, v)) ⊎ ((e : K × X) → Has es e → e.0 ≢ k)
  at_key es k = go (lookup (is_at (R k)) es) refl
    where
      go : (f : Option X) → lookup (is_at (R k)) es ≡ f → ((v : X) × Has es (k, v)) ⊎ ((e : K × X) → Has es e → e.0 ≢ k)
      go None is = inr (λ e h. at_none es k e is h)
      go (Some v) is = inl (v, at_some es k v is)

  -- at the key of an entry something is found
  pub found_at : (es : List (K × X)) (k : K) (v : X) → Has es (k, v) → is_some (lookup (is_at (R k)) es) ≡ true
  found_at es k v h = go (lookup (is_at (R k)) es) refl
    where
      go : (f : Option X) → lookup (is_at (R k)) es ≡ f → is_some f ≡ true
      go None is = absurd (at_none es k (k, v) is h refl)
      go (Some w) is = refl

  -- in a list in order a key is that of one entry
  pub one_at : (es : List (K × X)) (e f : K × X) → IsStrictlySortedBy R (keys_of es) → Has es e → Has es f → e.0 ≡ f.0 → e ≡ f
  unfolding IsStrictlySortedBy
  one_at [] e f s h i is = absurd h
  one_at (x ∷ xs) e f s (inl a) (inl b) is = sym a ∙ b
  one_at (x ∷ xs) e f s (inl a) (inr b) is =
      absurd (not_itself R o x.0 f.0 (above_first x.0 xs f s.0 b) (sym is ∙ ap (λ (y : K × X). y.0) (sym a)))
  one_at (x ∷ xs) e f s (inr a) (inl b) is =
      absurd (not_itself R o x.0 e.0 (above_first x.0 xs e s.0 a) (is ∙ ap (λ (y : K × X). y.0) (sym b)))
  one_at (x ∷ xs) e f s (inr a) (inr b) is = one_at xs e f s.1 a b is
