-- Items in order of place: a search by halves finds the item of a piece, or there is none.
use Rattle.std.specs.Prelude.{◌≡◌, ◌<◌, ◌≤◌, ◌||◌, ℕ, true, false, List, [], ◌∷◌, length, map, refl}
use Rattle.std.specs.List.{AllByRecursion}
use Rattle.std.specs.List.Sorted.{IsStrictlySortedBy, IsNonDecreasingBy, IsPartitionPoint}
use Rattle.std.specs.Ordering.{is_eq, ordering_index}
use Rattle.std.specs.declared.cmp.Ordering.{Ordering}
use Rattle.std.specs.declared.cmp.Ordering.TheVariants.{Less, Equal, Greater}
use Rattle.std.proofs.Common.{sym, ◌∙◌, ap, subst, inl, inr, arith, get_or, zero, suc}
use Rattle.std.proofs.lemmas.Bool.{cases_lt}
use Rattle.zs_ids.specs.declared.block.Item.{Item}
use Rattle.zs_ids.specs.declared.block.Piece.{Piece}
use Rattle.zs_ids.specs.Piece.{piece_cmp}
use Rattle.zs_queue.specs.Order.{piece_total, equal_pieces}
use Rattle.zs_scan.specs.View.{is_same, has_item, pieces_in}
use Rattle.zs_scan.proofs.Pieces.{among_all}
use Rattle.zs_core.proofs.PutOnce.{no_item}

less_at : (p : Piece) (ys : List Item) (j : ℕ) (d : Item) → AllByRecursion (λ y. piece_cmp p y ≡ Less) (map (λ (i : Item). i.piece) ys) → j < length ys → piece_cmp p (get_or ys j d).piece ≡ Less
less_at p [] j d all below = absurd (omega (arith, below))
less_at p (y ∷ ys) zero d all below = all.0
less_at p (y ∷ ys) (suc j) d all below = less_at p ys j d all.1 (omega (arith, below))

less_between : (xs : List Item) (i j : ℕ) (d : Item) → IsStrictlySortedBy piece_cmp (pieces_in xs) → i < j → j < length xs → piece_cmp (get_or xs i d).piece (get_or xs j d).piece ≡ Less
unfolding IsStrictlySortedBy
less_between [] i j d rise less below = absurd (omega (arith, below))
less_between (x ∷ xs) i zero d rise less below = absurd (omega (arith, less))
less_between (x ∷ xs) zero (suc j) d rise less below = less_at x.piece xs j d rise.0 (omega (arith, below))
less_between (x ∷ xs) (suc i) (suc j) d rise less below = less_between xs i j d rise.1 (omega (arith, less)) (omega (arith, below))

-- the comparisons with a piece rise with the pieces
index_rises : (a b p : Piece) → piece_cmp a b ≡ Less → ordering_index (piece_cmp a p) ≤ ordering_index (piece_cmp b p)
index_rises a b p less = go (piece_cmp b p) refl
  where
    most : (r : Ordering) → ordering_index r ≤ 2
    most Less = omega arith
    most Equal = omega arith
    most Greater = omega arith

    go : (r : Ordering) → piece_cmp b p ≡ r → ordering_index (piece_cmp a p) ≤ ordering_index (piece_cmp b p)
    go Less is = rw (is, piece_total.trans a b p less is) (omega arith)
    go Equal is = rw (is, ap (λ (q : Piece). piece_cmp a q) (sym (equal_pieces b p is)) ∙ less) (omega arith)
    go Greater is = rw is (most (piece_cmp a p))

pub comparisons_rise : (items : List Item) (p : Piece) → IsStrictlySortedBy piece_cmp (pieces_in items) → IsNonDecreasingBy (λ (i : Item). ordering_index (piece_cmp i.piece p)) items
comparisons_rise items p rise i j d le below = elim (cases_lt i j) [
  | inl less ↦ index_rises (get_or items i d).piece (get_or items j d).piece p (less_between items i j d rise less below)
  | inr ge ↦ (let same : i ≡ j = omega (arith, le, ge) in subst (λ (k : ℕ). ordering_index (piece_cmp (get_or items i d).piece p) ≤ ordering_index (piece_cmp (get_or items k d).piece p)) same (omega arith))
]

-- where the search ends at an index, the item there is of the piece
pub found_item : (items : List Item) (i : ℕ) (p : Piece) → i < length items → ((d : Item) → piece_cmp (get_or items i d).piece p ≡ Equal) → true ≡ has_item items p
found_item items i p below equal =
    sym (subst (λ (q : Piece). has_item items q ≡ true) (equal_pieces (get_or items i no_item).piece p (equal no_item)) (among_all (λ (x : Item). x.piece) items i no_item below))

none_found : (items : List Item) (p : Piece) → ((k : ℕ) → k < length items → is_same (get_or items k no_item).piece p ≡ false) → has_item items p ≡ false
none_found [] p each = refl
none_found (x ∷ xs) p each = ap (λ b. b || has_item xs p) (each zero (omega arith)) ∙ none_found xs p (λ k below. each (suc k) (omega (arith, below)))

-- where it ends between the lesser and the greater ones, none is
pub no_item_found : (items : List Item) (i : ℕ) (p : Piece) → IsPartitionPoint (λ (x : Item). piece_cmp x.piece p ≡ Less) (λ (x : Item). piece_cmp x.piece p ≡ Greater) items i → false ≡ has_item items p
no_item_found items i p parts = sym (none_found items p each)
  where
    each : (k : ℕ) → k < length items → is_same (get_or items k no_item).piece p ≡ false
    each k below = elim (cases_lt k i) [
      | inl less ↦ ap is_eq (parts.0 k no_item (omega arith) less)
      | inr ge ↦ ap is_eq (parts.1 k no_item ge below)
    ]
