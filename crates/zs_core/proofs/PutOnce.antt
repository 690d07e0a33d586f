-- Pointers of which no two have one piece: their items, in order of place, have each piece once.
use Rattle.std.specs.Prelude.{◌≡◌, ◌<◌, ◌≤◌, ◌+◌, ℕ, Bool, true, false, cond, List, [], ◌∷◌, ◌++◌, length, map, take, drop, refl}
use Rattle.std.specs.List.{sum_by, Contains}
use Rattle.std.specs.List.Sorted.{IsStrictlySortedBy, IsSortedByKey, IsPermutation}
use Rattle.std.specs.Ordering.{is_lt, ordering_reverse}
use Rattle.std.specs.declared.cmp.Ordering.{Ordering}
use Rattle.std.specs.declared.cmp.Ordering.TheVariants.{Less, Equal, Greater}
use Rattle.std.proofs.Common.{sym, ◌∙◌, ap, subst, inl, inr, arith, get_or, zero, suc}
use Rattle.std.proofs.lemmas.Bool.{true≢false}
use Rattle.std.proofs.lemmas.List.{get_or-map, length-map}
use Rattle.std.proofs.lemmas.List.Sorted.{sum_by-IsPermutation, IsPermutation-sym, Contains-permutation}
use Rattle.std.proofs.lemmas.List.Sums.{sum_by-cons, sum_by-drop_more, sum_by-take-drop}
use Rattle.std.proofs.lemmas.Map.Keys.{sorted_from_all_adjacent}
use Rattle.zs_ids.specs.declared.key.Key.{Key}
use Rattle.zs_ids.specs.declared.block.Bp.{Bp}
use Rattle.zs_ids.specs.declared.block.Item.{Item}
use Rattle.zs_ids.specs.declared.block.Piece.{Piece}
use Rattle.zs_ids.specs.Graph.{Has}
use Rattle.zs_ids.specs.Piece.{piece_cmp}
use Rattle.zs_graph.proofs.Lists.{from-append}
use Rattle.zs_queue.specs.Order.{piece_total, equal_pieces}
use Rattle.zs_scan.specs.View.{is_same, pieces_in}
use Rattle.zs_scan.specs.Walks.{item_of}
use Rattle.zs_scan.proofs.Pieces.{same_is, same_itself}

-- the item of a pointer with its key
abbrev pub item : Key × Bp → Item
item c = item_of c.1

-- no two pointers have one piece
abbrev pub AreOnce : List (Key × Bp) → Type 0
AreOnce [] = Unit {0}
AreOnce (c ∷ cs) = ((d : Key × Bp) → Has cs d → (item c).piece ≡ (item d).piece → ⊥) × AreOnce cs

-- nor have those of two lists, where none of the one shares with one of the other
pub once_both : (xs ys : List (Key × Bp)) → AreOnce xs → AreOnce ys → ((c d : Key × Bp) → Has xs c → Has ys d → (item c).piece ≡ (item d).piece → ⊥) → AreOnce (xs ++ ys)
once_both [] ys first second cross = second
once_both (x ∷ xs) ys first second cross = (
  λ d h same. elim (from-append xs ys d h) [ inl own ↦ first.0 d own same | inr other ↦ cross x d (inl refl) other same ],
  once_both xs ys first.1 second (λ c d h i same. cross c d (inr h) i same),
)

-- how many of one item are of the piece
abbrev ones : Piece → Item → ℕ
ones p i = cond (is_same p i.piece) 1 0

ones_apart : (p : Piece) (i : Item) → is_same p i.piece ≡ false → ones p i ≡ 0
ones_apart p i apart = ap (λ b. cond b 1 0) apart

ones_same : (p : Piece) (i : Item) → p ≡ i.piece → ones p i ≡ 1
ones_same p i same = ap (λ b. cond b 1 0) (subst (λ (q : Piece). is_same p q ≡ true) same (same_itself p))

ones_most : (p : Piece) (i : Item) → ones p i ≤ 1
ones_most p i = go (is_same p i.piece)
  where
    go : (b : Bool) → cond b 1 0 ≤ 1
    go true = omega arith
    go false = omega arith

-- where no pointer is of the piece there are none
none_of : (cs : List (Key × Bp)) (p : Piece) → ((c : Key × Bp) → Has cs c → is_same p (item c).piece ≡ false) → sum_by (ones p) (map item cs) ≡ 0
none_of [] p apart = refl
none_of (c ∷ cs) p apart =
    let first : ones p (item c) ≡ 0 = ones_apart p (item c) (apart c (inl refl)) in
    let rest : sum_by (ones p) (map item cs) ≡ 0 = none_of cs p (λ d h. apart d (inr h)) in
    let both : sum_by (ones p) (item c ∷ map item cs) ≡ ones p (item c) + sum_by (ones p) (map item cs) = sum_by-cons (ones p) (item c) (map item cs) in
    omega (arith, first, rest, both)

-- at most one of them is of a piece
one_of : (cs : List (Key × Bp)) (p : Piece) → AreOnce cs → sum_by (ones p) (map item cs) ≤ 1
one_of [] p once = omega arith
one_of (c ∷ cs) p once = go (is_same p (item c).piece) refl (one_of cs p once.1)
  where
    both : sum_by (ones p) (item c ∷ map item cs) ≡ ones p (item c) + sum_by (ones p) (map item cs)
    both = sum_by-cons (ones p) (item c) (map item cs)

    most : ones p (item c) ≤ 1
    most = ones_most p (item c)

    apart : is_same p (item c).piece ≡ true → (d : Key × Bp) → Has cs d → is_same p (item d).piece ≡ false
    apart same d h = at (is_same p (item d).piece) refl
      where
        at : (b : Bool) → is_same p (item d).piece ≡ b → b ≡ false
        at true also = absurd (once.0 d h (sym (same_is p (item c).piece same) ∙ same_is p (item d).piece also))
        at false other = refl

    go : (b : Bool) → is_same p (item c).piece ≡ b → sum_by (ones p) (map item cs) ≤ 1 → sum_by (ones p) (item c ∷ map item cs) ≤ 1
    go true same rest = let none : sum_by (ones p) (map item cs) ≡ 0 = none_of cs p (apart same) in omega (arith, both, most, none)
    go false other rest = let first : ones p (item c) ≡ 0 = ones_apart p (item c) other in omega (arith, both, first, rest)

-- two neighbours of one piece count twice
two_of : (items : List Item) (k : ℕ) (d : Item) (p : Piece) → k + 1 < length items → p ≡ (get_or items k d).piece → p ≡ (get_or items (k + 1) d).piece → 2 ≤ sum_by (ones p) items
two_of items k d p below first second =
    let one : ones p (get_or items k d) ≡ 1 = ones_same p (get_or items k d) first in
    let other : ones p (get_or items (k + 1) d) ≡ 1 = ones_same p (get_or items (k + 1) d) second in
    let from_first : sum_by (ones p) (drop k items) ≡ ones p (get_or items k d) + sum_by (ones p) (drop (k + 1) items) = sum_by-drop_more (ones p) items k d (omega (arith, below)) in
    let from_second : sum_by (ones p) (drop (k + 1) items) ≡ ones p (get_or items (k + 1) d) + sum_by (ones p) (drop (k + 1 + 1) items) = sum_by-drop_more (ones p) items (k + 1) d below in
    let all : sum_by (ones p) (take k items) + sum_by (ones p) (drop k items) ≡ sum_by (ones p) items = sum_by-take-drop (ones p) items k in
    omega (arith, one, other, from_first, from_second, all)

-- of two pieces in order that are not one the first is less
rises : (p q : Piece) → is_lt (piece_cmp q p) ≡ false → (p ≡ q → ⊥) → piece_cmp p q ≡ Less
rises p q ordered apart = go (piece_cmp p q) refl (piece_total.antisymm q p)
  where
    go : (r : Ordering) → piece_cmp p q ≡ r → piece_cmp q p ≡ ordering_reverse (piece_cmp p q) → piece_cmp p q ≡ Less
    go Less is back = is
    go Equal is back = absurd (apart (equal_pieces p q is))
    go Greater is back = absurd (true≢false (sym (ap is_lt (back ∙ ap ordering_reverse is)) ∙ ordered))

-- what stands behind the end of a list of items
pub no_item : Item
no_item = record { piece = record { place = record { vdev = 0; sector = 0 }; birth = 0 }; sectors = 0; sum = [] }

-- the items of such pointers, in order of piece, have each piece once
pub once_order : (items : List Item) (cs : List (Key × Bp)) → IsPermutation (map (λ (c : Key × Bp). item_of c.1) cs) items → IsSortedByKey (λ (i : Item). i.piece) piece_cmp items → AreOnce cs → IsStrictlySortedBy piece_cmp (pieces_in items)
once_order items cs same sorted once = sorted_from_all_adjacent piece_total (pieces_in items) no_item.piece adjacent
  where
    long : length (pieces_in items) ≡ length items
    long = length-map items (λ (i : Item). i.piece)

    apart : (k : ℕ) → k + 1 < length items → (get_or items k no_item).piece ≡ (get_or items (k + 1) no_item).piece → ⊥
    apart k below both =
        let p : Piece = (get_or items k no_item).piece in
        let two : 2 ≤ sum_by (ones p) items = two_of items k no_item p below refl both in
        let one : sum_by (ones p) (map item cs) ≤ 1 = one_of cs p once in
        let equal : sum_by (ones p) items ≡ sum_by (ones p) (map item cs) = sum_by-IsPermutation (ones p) (map item cs) items same in
        omega (arith, two, one, equal)

    adjacent : (k : ℕ) → k + 1 < length (pieces_in items) → piece_cmp (get_or (pieces_in items) k no_item.piece) (get_or (pieces_in items) (k + 1) no_item.piece) ≡ Less
    adjacent k below =
        let within : k + 1 < length items = omega (arith, below, long) in
        let first : get_or (pieces_in items) k no_item.piece ≡ (get_or items k no_item).piece = get_or-map (λ (i : Item). i.piece) items k no_item no_item.piece (omega (arith, within)) in
        let second : get_or (pieces_in items) (k + 1) no_item.piece ≡ (get_or items (k + 1) no_item).piece = get_or-map (λ (i : Item). i.piece) items (k + 1) no_item no_item.piece within in
        rw (first, second) (rises (get_or items k no_item).piece (get_or items (k + 1) no_item).piece (sorted k no_item (omega arith) within) (apart k within))

-- the list has what stands at a place of it
has_at : {A : Type 0} (xs : List A) (k : ℕ) (x d : A) → k < length xs → get_or xs k d ≡ x → Has xs x
has_at [] k x d below is = absurd (omega (arith, below))
has_at (y ∷ ys) zero x d below is = inl is
has_at (y ∷ ys) (suc k) x d below is = inr (has_at ys k x d (omega (arith, below)) is)

-- what a list has stands at a place of it
contains_has : {A : Type 0} (xs : List A) (x : A) → Has xs x → Contains xs x
contains_has [] x h = absurd h
contains_has (y ∷ ys) x (inl is) = (0, omega arith, is)
contains_has (y ∷ ys) x (inr more) = let r = contains_has ys x more in (suc r.0, (let below : r.0 < length ys = r.1 in omega (arith, below)), r.2)

-- a list has what it has in another order
pub has_moved : {A : Type 0} (xs ys : List A) (x : A) → IsPermutation xs ys → Has ys x → Has xs x
has_moved xs ys x same h = let r = Contains-permutation ys xs x (IsPermutation-sym xs ys same) (contains_has ys x h) in has_at xs r.0 x x r.1 r.2
