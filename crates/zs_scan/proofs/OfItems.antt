-- Whether entries are those of items, one item after the other.
use Rattle.std.proofs.Common.{◌≡◌, ◌<◌, ◌≤◌, ◌+◌, ◌↔◌, ◌++◌, ℕ, List, [], ◌∷◌, take, drop, length, get_or, refl, sym, ap, subst, inl, inr, arith, ◌∙◌}
use Rattle.std.proofs.lemmas.List.{take_more, drop_more, drop_all, take-append-drop}
use Rattle.zs_ids.specs.declared.block.Item.{Item}
use Rattle.zs_ids.specs.Graph.{Has}
use Rattle.zs_ledger.specs.declared.entry.Entry.{Entry}
use Rattle.zs_scan.specs.declared.batch.Batch.{Batch}
use Rattle.zs_scan.specs.Steps.{AreOf, IsVerdict}
use Rattle.zs_scan.specs.View.{ScanView}
use Rattle.zs_scan.specs.Flight.{IsOf}
use Rattle.zs_scan.proofs.Batches.{has-left, has-last, from-last}

-- they are as many
pub as_many : (items : List Item) (entries : List Entry) → AreOf items entries → length items ≡ length entries
as_many [] [] are = refl
as_many [] (e ∷ es) are = absurd are
as_many (i ∷ is) [] are = absurd are
as_many (i ∷ is) (e ∷ es) are = omega (arith, as_many is es are.3)

-- a pair of which the item comes and the entry, and what is left behind them
next : (items : List Item) (entries : List Entry) (n : ℕ) (i : Item) (e : Entry) → n < length items → length items ≡ length entries → AreOf (drop n items) (drop n entries) ≡ AreOf (get_or items n i ∷ drop (n + 1) items) (get_or entries n e ∷ drop (n + 1) entries)
next items entries n i e below same =
    let under : n < length entries = omega (arith, below, same) in
    ap (λ (l : List Item). AreOf l (drop n entries)) (drop_more items n i below) ∙ ap (λ (l : List Entry). AreOf (get_or items n i ∷ drop (n + 1) items) l) (drop_more entries n e under)

-- where the entry is of its item, the rest decides
pub goes_on : (items : List Item) (entries : List Entry) (n : ℕ) (i : Item) (e : Entry) → n < length items → length items ≡ length entries → IsOf (get_or items n i) (get_or entries n e)
    → AreOf (drop n items) (drop n entries) ↔ AreOf items entries → AreOf (drop (n + 1) items) (drop (n + 1) entries) ↔ AreOf items entries
goes_on items entries n i e below same is all =
    let step = next items entries n i e below same in
    ((λ rest. all.0 (subst (λ (T : Type 0). T) (sym step) (is.0, is.1, is.2, rest))), (λ whole. (subst (λ (T : Type 0). T) step (all.1 whole)).3))

-- where it is not, they are not those of the items
pub differs : (items : List Item) (entries : List Entry) (n : ℕ) (i : Item) (e : Entry) → n < length items → length items ≡ length entries → (IsOf (get_or items n i) (get_or entries n e) → ⊥)
    → AreOf (drop n items) (drop n entries) ↔ AreOf items entries → AreOf items entries → ⊥
differs items entries n i e below same off all whole =
    let x = subst (λ (T : Type 0). T) (next items entries n i e below same) (all.1 whole) in
    off (x.0, x.1, x.2)

-- at the end of both nothing is left
pub ends : (items : List Item) (entries : List Entry) (n : ℕ) → length items ≤ n → length items ≡ length entries → AreOf (drop n items) (drop n entries)
ends items entries n over same =
    let under : length entries ≤ n = omega (arith, over, same) in
    rw (drop_all n items over, drop_all n entries under) tt

-- none of the batches has the number and items of which the entries are
abbrev pub NoneIsOf : List Batch → ℕ → List Entry → Type 0
NoneIsOf batches number entries = (b : Batch) → Has batches b → b.number ≡ number → AreOf b.items entries → ⊥

-- an element of a list is in it
has_at : {A : Type 0} → (xs : List A) (n : ℕ) (d : A) → n < length xs → Has xs (get_or xs n d)
has_at xs n d below =
    subst (λ l. Has l (get_or xs n d)) (take-append-drop (n + 1) xs) (has-left (take (n + 1) xs) (drop (n + 1) xs) (get_or xs n d) (rw (take_more xs n d below) (has-last (take n xs) (get_or xs n d))))

-- the next batch is not that either
pub none_more : (batches flight : List Batch) (b : Batch) (n number : ℕ) (entries : List Entry) → batches ≡ flight → n < length batches → b ≡ get_or batches n b → ((b.number ≡ number) × AreOf b.items entries → ⊥) → NoneIsOf (take n flight) number entries → NoneIsOf (take (n + 1) flight) number entries
none_more batches flight b n number entries same below is off none c h named are =
    let more : take (n + 1) flight ≡ take n flight ++ get_or flight n b ∷ [] = take_more flight n b (subst (λ (l : List Batch). n < length l) same below) in
    let at : b ≡ get_or flight n b = is ∙ ap (λ (l : List Batch). get_or l n b) same in
    elim (from-last (take n flight) (get_or flight n b) c (subst (λ (l : List Batch). Has l c) more h)) [
      | inl before ↦ none c before named are
      | inr last ↦ off (ap (λ (x : Batch). x.number) (at ∙ last) ∙ named, subst (λ (x : Batch). AreOf x.items entries) (sym (at ∙ last)) are)
    ]

-- the next batch is that one
pub is_found : (v : ScanView) (batches : List Batch) (b : Batch) (n number : ℕ) (entries : List Entry) → batches ≡ v.flight → n < length batches → b ≡ get_or batches n b → (b.number ≡ number) × AreOf b.items entries → IsVerdict v number entries
is_found v batches b n number entries same below is found = record {
  batch = b;
  here = subst (λ (x : Batch). Has v.flight x) (sym is) (subst (λ (l : List Batch). Has l (get_or batches n b)) same (has_at batches n b below));
  named = found.0;
  of_items = found.1;
}
