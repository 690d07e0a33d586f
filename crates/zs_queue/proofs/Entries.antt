-- What an insert of a new key and a removal leave of a list of entries.
use Rattle.std.proofs.Common.{◌≡◌, ◌+◌, ◌≤◌, ◌||◌, Bool, true, false, not, cond, List, [], ◌∷◌, filter, length, refl, sym, ◌∙◌, ap, inl, inr, ◌⊎◌, arith, is_some}
use Rattle.std.specs.List.{AllByRecursion}
use Rattle.std.specs.Ordering.{is_eq, match_ordering}
use Rattle.std.specs.declared.cmp.Ordering.{Ordering}
use Rattle.std.specs.declared.cmp.Ordering.TheVariants.{Less, Equal, Greater}
use Rattle.std.specs.Map.{lookup, remove_entry, keys_of}
use Rattle.std.specs.BTreeMap.{insert_entry, is_at}
use Rattle.std.specs.Prelude.{Some}
use Rattle.zs_ids.specs.Graph.{Has}
use Rattle.zs_queue.specs.Lists.{passing-cons}

module _ {K X : Type 0} where
  -- a new key adds one to those that pass, where its entry does
  pub passing-insert : (cmp : K → K → Ordering) (p : K × X → Bool) (es : List (K × X)) (k : K) (v : X) → is_some (lookup (is_at (cmp k)) es) ≡ false
      → length (filter p (insert_entry cmp es k v)) ≡ length (filter p es) + cond (p (k, v)) 1 0
  passing-insert cmp p [] k v absent = passing-cons p (k, v) []
  passing-insert cmp p (e ∷ es) k v absent = elim (cmp k e.0) as (λ o. is_some (cond (is_eq o) (Some e.1) (lookup (is_at (cmp k)) es)) ≡ false
      → length (filter p (match_ordering o ((k, v) ∷ e ∷ es) ((e.0, v) ∷ es) (e ∷ insert_entry cmp es k v))) ≡ length (filter p (e ∷ es)) + cond (p (k, v)) 1 0) [
        | Less ↦ λ _. passing-cons p (k, v) (e ∷ es)
        | Equal ↦ λ is. cc
        | Greater ↦ λ out. passing-cons p e (insert_entry cmp es k v) ∙ omega (arith, passing-insert cmp p es k v out, passing-cons p e es)
      ] absent

  -- what the list has after the insert of a new key
  pub has-insert : (cmp : K → K → Ordering) (es : List (K × X)) (k : K) (v : X) (x : K × X) → is_some (lookup (is_at (cmp k)) es) ≡ false
      → Has (insert_entry cmp es k v) x → ((k, v) ≡ x) ⊎ Has es x
  has-insert cmp [] k v x absent has = has
  has-insert cmp (e ∷ es) k v x absent has = elim (cmp k e.0) as (λ o. is_some (cond (is_eq o) (Some e.1) (lookup (is_at (cmp k)) es)) ≡ false
      → Has (match_ordering o ((k, v) ∷ e ∷ es) ((e.0, v) ∷ es) (e ∷ insert_entry cmp es k v)) x → ((k, v) ≡ x) ⊎ Has (e ∷ es) x) [
        | Less ↦ λ _ found. found
        | Equal ↦ λ is _. cc
        | Greater ↦ λ out found. elim found [
          | inl is ↦ inr (inl is)
          | inr later ↦ elim (has-insert cmp es k v x out later) [ inl new ↦ inl new | inr old ↦ inr (inr old) ]
        ]
      ] absent has

  -- a key that is there takes one from those that pass, where its entry did
  pub passing-remove : (test : K → Bool) (p : K × X → Bool) (b : Bool) (es : List (K × X)) → ((e : K × X) → test e.0 ≡ true → p e ≡ b) → is_some (lookup test es) ≡ true
      → length (filter p (remove_entry test es)) + cond b 1 0 ≡ length (filter p es)
  passing-remove test p b [] agrees there = cc
  passing-remove test p b (e ∷ es) agrees there = elim (test e.0) as (λ t. test e.0 ≡ t → is_some (cond t (Some e.1) (lookup test es)) ≡ true
      → length (filter p (cond t es (e ∷ remove_entry test es))) + cond b 1 0 ≡ length (filter p (e ∷ es))) [
        | true ↦ λ passes _. ap (λ x. length (filter p es) + cond x 1 0) (sym (agrees e passes)) ∙ sym (passing-cons p e es)
        | false ↦ λ fails found. omega (arith, passing-cons p e (remove_entry test es), passing-cons p e es, passing-remove test p b es agrees found)
      ] refl there

  pub has-remove : (test : K → Bool) (es : List (K × X)) (x : K × X) → Has (remove_entry test es) x → Has es x
  has-remove test [] x has = has
  has-remove test (e ∷ es) x has = elim (test e.0) as (λ t. Has (cond t es (e ∷ remove_entry test es)) x → Has (e ∷ es) x) [
    | true ↦ λ found. inr found
    | false ↦ λ found. elim found [ inl is ↦ inl is | inr later ↦ inr (has-remove test es x later) ]
  ] has

  pub length-remove : (test : K → Bool) (es : List (K × X)) → length (remove_entry test es) ≤ length es
  length-remove test [] = omega arith
  length-remove test (e ∷ es) = elim (test e.0) as (λ t. length (cond t es (e ∷ remove_entry test es)) ≤ length (e ∷ es)) [ true ↦ omega arith | false ↦ omega (arith, length-remove test es) ]

  -- a removal of the first that passes is a filter, where no later one passes
  pub none_left : (test : K → Bool) (es : List (K × X)) → AllByRecursion (λ k. test k ≡ false) (keys_of es) → filter (λ e. not (test e.0 || false)) es ≡ es
  none_left test [] none = refl
  none_left test (e ∷ es) none = rw none.0 (ap (λ (l : List (K × X)). e ∷ l) (none_left test es none.1))
