-- What `insert_entry` does to a look-up, to a search above a key, and to the order.
use Rattle.std.proofs.Common.{◌≡◌, ◌∙◌, sym, ap, subst, refl, true≢false, Bool, true, false, cond, List, [], ◌∷◌, Option, Some, find}
use Rattle.std.specs.declared.cmp.Ordering.{Ordering}
use Rattle.std.specs.declared.cmp.Ordering.TheVariants.{Less, Equal, Greater}
use Rattle.std.specs.Ordering.{is_eq, is_gt, is_le, ordering_reverse, match_ordering}
use Rattle.std.specs.Cmp.{IsTotalOrder}
use Rattle.std.proofs.lemmas.Cmp.{alike_right}
use Rattle.std.specs.Map.{lookup, keys_of}
use Rattle.std.specs.BTreeMap.{insert_entry, is_at}
use Rattle.std.specs.List.Sorted.{IsStrictlySortedBy}
use Rattle.std.specs.List.{AllByRecursion}
use Rattle.zs_txg.specs.Late.{nearer}

is_equal : (r : Ordering) → is_eq r ≡ true → r ≡ Equal
is_equal Less e = absurd (true≢false (sym e))
is_equal Equal e = refl
is_equal Greater e = absurd (true≢false (sym e))

same_branch : {X : Type 0} (b c : Bool) (v w : X) (r : Option X) → b ≡ c → cond c (Some v) r ≡ cond b (Some v) (cond c (Some w) r)
same_branch true true v w r e = refl
same_branch true false v w r e = absurd (true≢false e)
same_branch false true v w r e = absurd (true≢false (sym e))
same_branch false false v w r e = refl

swap_branch : {X : Type 0} (a b : Bool) (v w : X) (r : Option X) → (a ≡ true → b ≡ true → ⊥) → cond b (Some w) (cond a (Some v) r) ≡ cond a (Some v) (cond b (Some w) r)
swap_branch true true v w r h = absurd (h refl refl)
swap_branch true false v w r h = refl
swap_branch false b v w r h = refl

module _ {K : Type 0} {R : K → K → Ordering} (o : IsTotalOrder R) where
  apart : (k x q : K) → R k x ≡ Greater → is_eq (R q k) ≡ true → is_eq (R q x) ≡ true → ⊥
  apart k x q g a b = true≢false (ap is_gt (sym g ∙ sym (o.congr q k x (is_equal (R q k) a)) ∙ is_equal (R q x) b))

  flipped : (x y : K) → R x y ≡ Greater → R y x ≡ Less
  flipped x y g = o.antisymm y x ∙ ap ordering_reverse g

  module _ {X : Type 0} (k : K) (v : X) where
    -- the value at q after v is put at k
    module _ (q : K) where
      lookup_step : (e : K × X) (es : List (K × X)) (r : Ordering) → R k e.0 ≡ r → lookup (is_at (R q)) (insert_entry R es k v) ≡ cond (is_at (R q) k) (Some v) (lookup (is_at (R q)) es) → lookup (is_at (R q)) (match_ordering r ((k, v) ∷ e ∷ es) ((e.0, v) ∷ es) (e ∷ insert_entry R es k v)) ≡ cond (is_at (R q) k) (Some v) (lookup (is_at (R q)) (e ∷ es))
      lookup_step e es Less h ih = refl
      lookup_step e es Equal h ih = same_branch (is_eq (R q k)) (is_eq (R q e.0)) v e.1 (lookup (is_at (R q)) es) (ap is_eq (alike_right o k e.0 q h))
      lookup_step e es Greater h ih = ap (λ r. cond (is_eq (R q e.0)) (Some e.1) r) ih ∙ swap_branch (is_eq (R q k)) (is_eq (R q e.0)) v e.1 (lookup (is_at (R q)) es) (apart k e.0 q h)

      pub lookup-insert_entry : (es : List (K × X)) → lookup (is_at (R q)) (insert_entry R es k v) ≡ cond (is_at (R q) k) (Some v) (lookup (is_at (R q)) es)
      lookup-insert_entry [] = refl
      lookup-insert_entry (e ∷ es) = lookup_step e es (R k e.0) refl (lookup-insert_entry es)

    -- the first entry whose key passes a test that all greater keys pass too, after v is put at k
    module _ (same : (x y : K) → R x y ≡ Equal → x ≡ y) (p : K → Bool) (up : (x y : K) → p x ≡ true → R x y ≡ Less → p y ≡ true) where
      found_below : (e : K × X) (f : Option (K × X)) (b c : Bool) → R k e.0 ≡ Less → p k ≡ b → p e.0 ≡ c → cond b (Some (k, v)) (cond c (Some e) f) ≡ cond b (nearer R k v (cond c (Some e) f)) (cond c (Some e) f)
      found_below e f true true h a d = sym (ap (λ r. cond (is_le r) (Some (k, v)) (Some e)) h)
      found_below e f true false h a d = absurd (true≢false (sym (up k e.0 a h) ∙ d))
      found_below e f false c h a d = refl

      found_at : (e : K × X) (f : Option (K × X)) (b : Bool) → R k e.0 ≡ Equal → k ≡ e.0 → cond b (Some (e.0, v)) f ≡ cond b (nearer R k v (cond b (Some e) f)) (cond b (Some e) f)
      found_at e f true h s = ap (λ (x : K). Some (x, v)) (sym s) ∙ sym (ap (λ r. cond (is_le r) (Some (k, v)) (Some e)) h)
      found_at e f false h s = refl

      found_above : (e : K × X) (f g : Option (K × X)) (b c : Bool) → R k e.0 ≡ Greater → p k ≡ b → p e.0 ≡ c → g ≡ cond b (nearer R k v f) f → cond c (Some e) g ≡ cond b (nearer R k v (cond c (Some e) f)) (cond c (Some e) f)
      found_above e f g true true h a d ih = sym (ap (λ r. cond (is_le r) (Some (k, v)) (Some e)) h)
      found_above e f g false true h a d ih = refl
      found_above e f g b false h a d ih = ih

      find_step : (e : K × X) (es : List (K × X)) (r : Ordering) → R k e.0 ≡ r → find (λ x. p x.0) (insert_entry R es k v) ≡ cond (p k) (nearer R k v (find (λ x. p x.0) es)) (find (λ x. p x.0) es) → find (λ x. p x.0) (match_ordering r ((k, v) ∷ e ∷ es) ((e.0, v) ∷ es) (e ∷ insert_entry R es k v)) ≡ cond (p k) (nearer R k v (find (λ x. p x.0) (e ∷ es))) (find (λ x. p x.0) (e ∷ es))
      find_step e es Less h ih = found_below e (find (λ x. p x.0) es) (p k) (p e.0) h refl refl
      find_step e es Equal h ih = subst (λ (b : Bool). cond (p e.0) (Some (e.0, v)) (find (λ x. p x.0) es) ≡ cond b (nearer R k v (cond (p e.0) (Some e) (find (λ x. p x.0) es))) (cond (p e.0) (Some e) (find (λ x. p x.0) es))) (ap p (sym (same k e.0 h))) (found_at e (find (λ x. p x.0) es) (p e.0) h (same k e.0 h))
      find_step e es Greater h ih = found_above e (find (λ x. p x.0) es) (find (λ x. p x.0) (insert_entry R es k v)) (p k) (p e.0) h refl refl ih

      pub find-insert_entry : (es : List (K × X)) → find (λ x. p x.0) (insert_entry R es k v) ≡ cond (p k) (nearer R k v (find (λ x. p x.0) es)) (find (λ x. p x.0) es)
      find-insert_entry [] = refl
      find-insert_entry (e ∷ es) = find_step e es (R k e.0) refl (find-insert_entry es)

    -- the keys still rise
    all_step : (P : K → Type 0) (e : K × X) (es : List (K × X)) (r : Ordering) → AllByRecursion P (keys_of (e ∷ es)) → P k → AllByRecursion P (keys_of (insert_entry R es k v)) → AllByRecursion P (keys_of (match_ordering r ((k, v) ∷ e ∷ es) ((e.0, v) ∷ es) (e ∷ insert_entry R es k v)))
    all_step P e es Less h p ih = (p, h)
    all_step P e es Equal h p ih = h
    all_step P e es Greater h p ih = (h.0, ih)

    all_put : (P : K → Type 0) (es : List (K × X)) → AllByRecursion P (keys_of es) → P k → AllByRecursion P (keys_of (insert_entry R es k v))
    all_put P [] h p = (p, tt)
    all_put P (e ∷ es) h p = all_step P e es (R k e.0) h p (all_put P es h.1 p)

    all_below : (x : K) (ks : List K) → R k x ≡ Less → AllByRecursion (λ y. R x y ≡ Less) ks → AllByRecursion (λ y. R k y ≡ Less) ks
    all_below x [] h a = tt
    all_below x (y ∷ ks) h a = (o.trans k x y h a.0, all_below x ks h a.1)

    sorted_step : (e : K × X) (es : List (K × X)) (r : Ordering) → R k e.0 ≡ r → IsStrictlySortedBy R (keys_of (e ∷ es)) → IsStrictlySortedBy R (keys_of (insert_entry R es k v)) → IsStrictlySortedBy R (keys_of (match_ordering r ((k, v) ∷ e ∷ es) ((e.0, v) ∷ es) (e ∷ insert_entry R es k v)))
    unfolding IsStrictlySortedBy
    sorted_step e es Less h s ih = ((h, all_below e.0 (keys_of es) h s.0), s)
    sorted_step e es Equal h s ih = s
    sorted_step e es Greater h s ih = (all_put (λ y. R e.0 y ≡ Less) es s.0 (flipped k e.0 h), ih)

    pub sorted-insert_entry : (es : List (K × X)) → IsStrictlySortedBy R (keys_of es) → IsStrictlySortedBy R (keys_of (insert_entry R es k v))
    unfolding IsStrictlySortedBy
    sorted-insert_entry [] s = (tt, tt)
    sorted-insert_entry (e ∷ es) s = sorted_step e es (R k e.0) refl s (sorted-insert_entry es s.1)
