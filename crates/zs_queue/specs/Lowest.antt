-- The lowest of a mirror is a batch.
use Rattle.std.proofs.Common.{◌≡◌, ℕ, zero, suc, ◌<◌, ◌≤◌, ◌==◌, Bool, true, false, cond, List, [], ◌∷◌, map, filter, take, length, refl, sym, ◌∙◌, ap, subst, inl, inr, arith, eqb-true}
use Rattle.std.specs.Map.{keys_of}
use Rattle.std.specs.List.Sorted.{IsStrictlySortedBy}
use Rattle.std.proofs.lemmas.List.Kept.{IsStrictlySortedBy-filter}
use Rattle.zs_ids.specs.declared.block.Piece.{Piece}
use Rattle.zs_ids.specs.declared.block.Item.{Item}
use Rattle.zs_ids.specs.Graph.{Has}
use Rattle.zs_ids.specs.Piece.{piece_cmp}
use Rattle.zs_queue.specs.Waiting.{IsBatch, is_of, lowest}
use Rattle.zs_queue.specs.Kept.{AreNamed}
use Rattle.zs_queue.specs.Lists.{has-take, has-filter, has-map, sorted-take}

Entries : Type 0
Entries = List (Piece × Item)

-- the entry that an item of the lowest comes from
found : (items : List (Piece × Item)) (vdev n : ℕ) (i : Item) → AreNamed items → Has (lowest items vdev n) i
    → Has items (i.piece, i) × (i.piece.place.vdev ≡ vdev)
found items vdev n i named has =
    let from = has-map (λ (e : Piece × Item). e.1) (take n (filter (is_of vdev) items)) i has in
    let passed = has-filter (is_of vdev) items from.0 (has-take n (filter (is_of vdev) items) from.0 from.1) in
    let piece : i.piece ≡ from.0.0 = ap (λ (j : Item). j.piece) (sym from.2) ∙ named from.0 passed.0 in
    let pair : Piece → Item → Piece × Item = λ p j. (p, j) in
    let entry : from.0 ≡ (i.piece, i) = ap (λ p. pair p from.0.1) (sym piece) ∙ ap (λ j. pair i.piece j) from.2 in
    (subst (λ (e : Piece × Item). Has items e) entry passed.0, ap (λ (p : Piece). p.place.vdev) piece ∙ eqb-true _ _ passed.1)

-- the pieces of named entries are their keys
keys-named : (es : List (Piece × Item)) → AreNamed es → map (λ (i : Item). i.piece) (map (λ (e : Piece × Item). e.1) es) ≡ keys_of es
keys-named [] named = refl
keys-named (e ∷ es) named =
    let cons : Piece → List Piece → List Piece = λ k ks. k ∷ ks in
    ap (λ k. cons k (map (λ (i : Item). i.piece) (map (λ (x : Piece × Item). x.1) es))) (named e (inl refl))
    ∙ ap (λ ks. cons e.0 ks) (keys-named es (λ x has. named x (inr has)))

keys-take : (n : ℕ) (es : List (Piece × Item)) → keys_of (take n es) ≡ take n (keys_of es)
keys-take zero es = refl
keys-take (suc n) [] = refl
keys-take (suc n) (e ∷ es) = ap (λ (ks : List Piece). e.0 ∷ ks) (keys-take n es)

keys-filter : (p : Piece → Bool) (es : List (Piece × Item)) → keys_of (filter (λ e. p e.0) es) ≡ filter p (keys_of es)
keys-filter p [] = refl
keys-filter p (e ∷ es) =
    elim (p e.0) as
    (λ b. keys_of (cond b (e ∷ filter (λ (x : Piece × Item). p x.0) es) (filter (λ (x : Piece × Item). p x.0) es))
    ≡ cond b (e.0 ∷ filter p (keys_of es)) (filter p (keys_of es))) [
      | true ↦ ap (λ (ks : List Piece). e.0 ∷ ks) (keys-filter p es)
      | false ↦ keys-filter p es
    ]

length-map : (es : List (Piece × Item)) → length (map (λ (e : Piece × Item). e.1) es) ≡ length es
length-map [] = refl
length-map (e ∷ es) = ap suc (length-map es)

length-take : (n : ℕ) (es : List (Piece × Item)) → length (take n es) ≤ n
length-take zero es = omega arith
length-take (suc n) [] = omega arith
length-take (suc n) (e ∷ es) = omega (arith, length-take n es)

some-taken : (n : ℕ) (es : List (Piece × Item)) → 0 < n → 0 < length es → 0 < length (take n es)
some-taken zero es asked waits = omega arith
some-taken (suc n) [] asked waits = waits
some-taken (suc n) (e ∷ es) asked waits = omega arith

pub lowest_is_batch : (items : List (Piece × Item)) (vdev n : ℕ) → AreNamed items → IsStrictlySortedBy piece_cmp (keys_of items)
    → IsBatch items vdev n (lowest items vdev n)
lowest_is_batch items vdev n named ordered = record {
  waiting = λ i has. (found items vdev n i named has).0;
  mirror = λ i has. (found items vdev n i named has).1;
  rising =
      let some = take n (filter (is_of vdev) items) in
      let some_named : AreNamed (take n (filter (is_of vdev) items)) =
      λ e has. named e (has-filter (is_of vdev) items e (has-take n (filter (is_of vdev) items) e has)).0 in
      let keys : map (λ (i : Item). i.piece) (lowest items vdev n) ≡ take n (filter (λ (p : Piece). p.place.vdev == vdev) (keys_of items)) =
      keys-named (take n (filter (is_of vdev) items)) some_named ∙ keys-take n (filter (is_of vdev) items)
      ∙ ap (λ (ks : List Piece). take n ks) (keys-filter (λ (p : Piece). p.place.vdev == vdev) items) in
      subst (λ (ks : List Piece). IsStrictlySortedBy piece_cmp ks) (sym keys)
      (sorted-take piece_cmp n _
      (IsStrictlySortedBy-filter piece_cmp (λ (p : Piece). p.place.vdev == vdev) (keys_of items) ordered));
  most = subst (λ (k : ℕ). k ≤ n) (sym (length-map (take n (filter (is_of vdev) items)))) (length-take n (filter (is_of vdev) items));
  some = λ asked waits. subst (λ (k : ℕ). 0 < k) (sym (length-map (take n (filter (is_of vdev) items)))) (some-taken n (filter (is_of vdev) items) asked waits);
}
