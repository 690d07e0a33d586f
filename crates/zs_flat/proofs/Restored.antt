-- Changes are put, and taken back key by key.
use Rattle.std.proofs.Common.{◌≡◌, ◌⊎◌, ◌<◌, ◌+◌, ℕ, zero, suc, Bool, true, false, List, [], ◌∷◌, length, drop, get_or, Option, Some, None, refl, sym, ap, subst, ◌∙◌, arith}
use Rattle.std.specs.Prelude.{IsSome, is_some, Result, Ok, Err, OnOk, OnErr}
use Rattle.std.specs.declared.cmp.Ordering.TheVariants.{Less, Equal, Greater}
use Rattle.std.specs.declared.cmp.Ordering.{Ordering}
use Rattle.std.specs.Ordering.{is_eq, nat_cmp, ordering_then}
use Rattle.std.specs.Cmp.{IsTotalOrder}
use Rattle.std.specs.Map.{keys_of}
use Rattle.std.specs.BTreeMap.{BTreeMap, IsOrdered, Updates, is_at}
use Rattle.std.proofs.lemmas.Bool.{true≢false}
use Rattle.std.proofs.lemmas.Cmp.{ranked, nat_cmp_total, on_total, then_total}
use Rattle.std.proofs.lemmas.List.{drop_more}
use Rattle.std.proofs.lemmas.Map.Lookups.{btree_map_from_get}
use Rattle.zs_ids.specs.declared.key.Key.{Key}
use Rattle.zs_ids.specs.declared.block.Bp.{Bp}
use Rattle.zs_ids.specs.Key.{key_cmp}
use Rattle.zs_ids.specs.Blocks.{bp_at, entries_with, replaced}
use Rattle.zs_ids.specs.Graph.{Has}
use Rattle.zs_flat.specs.Restoring.{Differs}
use mathlib.Core.Logic.{inl, inr}

key_total : IsTotalOrder key_cmp
key_total = then_total (on_total (λ (k : Key). k.object) nat_cmp_total) (then_total (on_total (λ (k : Key). k.rank) nat_cmp_total) (then_total (on_total (λ (k : Key). k.leaf) nat_cmp_total) (on_total (λ (k : Key). k.depth) nat_cmp_total)))

-- keys between which the order finds no difference are one
then_one : (x y : Ordering) → ordering_then x y ≡ Equal → (x ≡ Equal) × (y ≡ Equal)
then_one Less y e = absurd (true≢false (sym (ap is_eq e)))
then_one Equal y e = (refl, e)
then_one Greater y e = absurd (true≢false (sym (ap is_eq e)))

number_one : (a b : ℕ) → nat_cmp a b ≡ Equal → a ≡ b
number_one a b e = ranked a b Equal (sym e)

key_one : (a b : Key) → key_cmp a b ≡ Equal → a ≡ b
key_one a b e =
    let o = then_one (nat_cmp a.object b.object) (ordering_then (nat_cmp a.rank b.rank) (ordering_then (nat_cmp a.leaf b.leaf) (nat_cmp a.depth b.depth))) e in
    let r = then_one (nat_cmp a.rank b.rank) (ordering_then (nat_cmp a.leaf b.leaf) (nat_cmp a.depth b.depth)) o.1 in
    let l = then_one (nat_cmp a.leaf b.leaf) (nat_cmp a.depth b.depth) r.1 in
    ap (λ (x : ℕ). record a { object = x }) (number_one a.object b.object o.0) ∙ ap (λ (x : ℕ). record b { rank = x; leaf = a.leaf; depth = a.depth }) (number_one a.rank b.rank r.0) ∙ ap (λ (x : ℕ). record b { leaf = x; depth = a.depth }) (number_one a.leaf b.leaf l.0) ∙ ap (λ (x : ℕ). record b { depth = x }) (number_one a.depth b.depth l.1)

is_eq_from : (o : Ordering) → is_eq o ≡ true → o ≡ Equal
is_eq_from Less e = absurd (true≢false (sym e))
is_eq_from Equal e = refl
is_eq_from Greater e = absurd (true≢false (sym e))

-- nothing is changed at first
pub as_before : (before changes : List (Key × Bp)) → Differs before before changes
as_before before changes = record { same = λ q. inl refl; kept = λ q some. some }

module _ (before : List (Key × Bp)) (m n : BTreeMap Key Bp) where
  -- a pointer is put at a key of the changes
  pub put : (changes : List (Key × Bp)) (k : Key) (bp : Bp) → Has (keys_of changes) k → Updates key_cmp m n k (Some bp) → Differs before m.entries changes → Differs before n.entries changes
  put changes k bp among updates d = record {
    same = λ q. go_same q (is_at (key_cmp k) q) refl (d.same q);
    kept = λ q some. go_kept q (is_at (key_cmp k) q) refl (d.kept q some);
  }
    where
      go_same : (q : Key) (b : Bool) → is_at (key_cmp k) q ≡ b → (bp_at m.entries q ≡ bp_at before q) ⊎ Has (keys_of changes) q → (bp_at n.entries q ≡ bp_at before q) ⊎ Has (keys_of changes) q
      go_same q true e old = inr (subst (λ (x : Key). Has (keys_of changes) x) (key_one k q (is_eq_from (key_cmp k q) e)) among)
      go_same q false e (inl same) = inl (updates.2 q e ∙ same)
      go_same q false e (inr i) = inr i

      go_kept : (q : Key) (b : Bool) → is_at (key_cmp k) q ≡ b → IsSome (bp_at m.entries q) → IsSome (bp_at n.entries q)
      go_kept q true e some = subst (λ (x : Key). IsSome (bp_at n.entries x)) (key_one k q (is_eq_from (key_cmp k q) e)) (subst IsSome (sym updates.1) refl)
      go_kept q false e some = subst IsSome (sym (updates.2 q e)) some

  -- what stood at the key of the first change is there again
  pub restored : (c : Key × Bp) (changes : List (Key × Bp)) (was : Option Bp) → was ≡ bp_at before c.0 → Updates key_cmp m n c.0 was → Differs before m.entries (c ∷ changes) → Differs before n.entries changes
  restored c changes was is updates d = record {
    same = λ q. go_same q (is_at (key_cmp c.0) q) refl (d.same q);
    kept = λ q some. go_kept q (is_at (key_cmp c.0) q) refl some;
  }
    where
      at_key : (q : Key) → c.0 ≡ q → bp_at n.entries q ≡ bp_at before q
      at_key q e = subst (λ (x : Key). bp_at n.entries x ≡ bp_at before x) e (updates.1 ∙ is)

      go_same : (q : Key) (b : Bool) → is_at (key_cmp c.0) q ≡ b → (bp_at m.entries q ≡ bp_at before q) ⊎ Has (keys_of (c ∷ changes)) q → (bp_at n.entries q ≡ bp_at before q) ⊎ Has (keys_of changes) q
      go_same q true e old = inl (at_key q (key_one c.0 q (is_eq_from (key_cmp c.0 q) e)))
      go_same q false e (inl same) = inl (updates.2 q e ∙ same)
      go_same q false e (inr (inl first)) = inl (at_key q first)
      go_same q false e (inr (inr i)) = inr i

      go_kept : (q : Key) (b : Bool) → is_at (key_cmp c.0) q ≡ b → IsSome (bp_at before q) → IsSome (bp_at n.entries q)
      go_kept q true e some = subst IsSome (sym (at_key q (key_one c.0 q (is_eq_from (key_cmp c.0 q) e)))) some
      go_kept q false e some = subst IsSome (sym (updates.2 q e)) (d.kept q some)

-- once all is taken back, the map is as it was
pub all_back : (m n : BTreeMap Key Bp) → IsOrdered key_cmp m → IsOrdered key_cmp n → Differs m.entries n.entries [] → n.entries ≡ m.entries
all_back m n om on d = btree_map_from_get key_total n m on om (λ q. elim (d.same q) [ inl same ↦ same | inr none ↦ absurd none ]) key_one

-- an insertion at a key that was there before puts back what stood there: only one at a new key can fail
pub put_back : {A E : Type 0} (before : List (Key × Bp)) (m n : BTreeMap Key Bp) (c : Key × Bp) (changes : List (Key × Bp)) (bp : Bp) (r : Result A E) → Some bp ≡ bp_at before c.0 → OnOk r (Updates key_cmp m n c.0 (Some bp)) → OnErr r (bp_at m.entries c.0 ≡ None) → Differs before m.entries (c ∷ changes) → Differs before n.entries changes
put_back before m n c changes bp (Ok a) is updates absent d = restored before m n c changes (Some bp) is updates d
put_back before m n c changes bp (Err e) is updates absent d =
    absurd (no_value (bp_at m.entries c.0) absent (d.kept c.0 (subst IsSome is refl)))
  where
    no_value : (o : Option Bp) → o ≡ None → IsSome o → ⊥
    no_value o e some = true≢false (sym some ∙ ap is_some e)

-- once as many pointers are taken back as changes were left, the map is as it was
pub taken_back : (before now : BTreeMap Key Bp) (left : List (Key × Bp)) → IsOrdered key_cmp before → IsOrdered key_cmp now → left ≡ [] → Differs before.entries now.entries left → now.entries ≡ before.entries
taken_back before now left ordered now_ordered none d =
    all_back before now ordered now_ordered (subst (λ (x : List (Key × Bp)). Differs before.entries now.entries x) none d)

-- the next change is put
pub put_next : (before all : List (Key × Bp)) (m n : BTreeMap Key Bp) (changes : List (Key × Bp)) (i : ℕ) (c : Key × Bp) → i < length changes
    → Updates key_cmp m n (get_or changes i c).0 (Some (get_or changes i c).1)
    → n.entries ≡ replaced m.entries (get_or changes i c).0 (get_or changes i c).1
    → Differs before m.entries changes × (entries_with m.entries (drop i changes) ≡ all)
    → Differs before n.entries changes × (entries_with n.entries (drop (i + 1) changes) ≡ all)
put_next before all m n changes i c within updates entries so_far =
    (put before m n changes (get_or changes i c).0 (get_or changes i c).1 (key_among changes i c within) updates so_far.0, rw entries (sym step ∙ so_far.1))
  where
    step : entries_with m.entries (drop i changes) ≡ entries_with (replaced m.entries (get_or changes i c).0 (get_or changes i c).1) (drop (i + 1) changes)
    step = rw (drop_more changes i c within) refl

    key_among : (xs : List (Key × Bp)) (k : ℕ) (d : Key × Bp) → k < length xs → Has (keys_of xs) (get_or xs k d).0
    key_among [] k d lt = omega (arith, lt)
    key_among (x ∷ xs) zero d lt = inl refl
    key_among (x ∷ xs) (suc k) d lt = inr (key_among xs k d (omega (arith, lt)))
