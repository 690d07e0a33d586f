-- Items in order of piece: where no piece stands twice, each piece is below those behind it, and none is lost or new.
use Rattle.std.proofs.Common.{◌≡◌, ◌<◌, ◌+◌, ℕ, suc, zero, Bool, false, List, [], ◌∷◌, length, get_or, refl, sym, ap, subst, ◌∙◌, arith}
use Rattle.std.specs.Prelude.{Contains}
use Rattle.std.specs.List.{AllByRecursion, IsDistinct}
use Rattle.std.specs.Cmp.{IsTotalOrder}
use Rattle.std.specs.Ordering.{nat_cmp, ordering_then, ordering_reverse, is_eq, is_lt}
use Rattle.std.specs.declared.cmp.Ordering.{Ordering}
use Rattle.std.specs.declared.cmp.Ordering.TheVariants.{Less, Equal, Greater}
use Rattle.std.specs.List.Sorted.{IsStrictlySortedBy, IsSortedByKey, IsPermutation}
use Rattle.std.proofs.lemmas.Bool.{true≢false}
use Rattle.std.proofs.lemmas.Cmp.{nat_cmp_total, on_total, then_total}
use Rattle.std.proofs.lemmas.List.{length-map, get_or-map}
use Rattle.std.proofs.lemmas.List.Sorted.{Contains-permutation, IsPermutation-map}
use Rattle.std.proofs.lemmas.Map.Keys.{sorted_from_all_adjacent, apart_from_distinct, IsDistinct-IsPermutation}
use Rattle.zs_ids.specs.declared.block.Piece.{Piece}
use Rattle.zs_ids.specs.declared.block.Item.{Item}
use Rattle.zs_ids.specs.Piece.{piece_cmp}
use Rattle.zs_ids.specs.Graph.{Has}
use Rattle.zs_graph.proofs.Keys.{then_equal, number_equal}
use Rattle.zs_graph.proofs.ItemsOf.{pieces_in}
use Rattle.zs_graph.proofs.UsedPlaces.{AreOnce}
use mathlib.Core.Logic.{inl, inr}

pub piece_total : IsTotalOrder piece_cmp
piece_total =
    then_total
    (then_total (on_total (λ (p : Piece). p.place.vdev) nat_cmp_total)
    (on_total (λ (p : Piece). p.place.sector) nat_cmp_total))
    (on_total (λ (p : Piece). p.birth) nat_cmp_total)

-- pieces between which the order finds no difference are one
equal_pieces : (p q : Piece) → piece_cmp p q ≡ Equal → p ≡ q
equal_pieces p q h =
    let outer = then_equal (ordering_then (nat_cmp p.place.vdev q.place.vdev) (nat_cmp p.place.sector q.place.sector)) (nat_cmp p.birth q.birth) h in
    let inner = then_equal (nat_cmp p.place.vdev q.place.vdev) (nat_cmp p.place.sector q.place.sector) outer.0 in
    let made : ℕ → ℕ → ℕ → Piece = λ v s b. record { place = record { vdev = v; sector = s }; birth = b } in
    ap (λ (v : ℕ). made v p.place.sector p.birth) (number_equal p.place.vdev q.place.vdev inner.0)
    ∙ ap (λ (s : ℕ). made q.place.vdev s p.birth) (number_equal p.place.sector q.place.sector inner.1)
    ∙ ap (λ (b : ℕ). made q.place.vdev q.place.sector b) (number_equal p.birth q.birth outer.1)

abbrev is_same : Piece → Piece → Bool
is_same p q = is_eq (piece_cmp p q)

-- whichever comes first
reversed : (o : Ordering) → is_eq (ordering_reverse o) ≡ is_eq o
reversed Less = refl
reversed Equal = refl
reversed Greater = refl

flips : (p q : Piece) → is_same p q ≡ is_same q p
flips p q = ap is_eq (piece_total.antisymm p q) ∙ reversed (piece_cmp q p)

apart : (p q : Piece) → (p ≡ q → ⊥) → is_same p q ≡ false
apart p q other = go (piece_cmp p q) refl
  where
    go : (o : Ordering) → piece_cmp p q ≡ o → is_eq o ≡ false
    go Less is = refl
    go Equal is = absurd (other (equal_pieces p q is))
    go Greater is = refl

distinct : (ps : List Piece) → AreOnce ps → IsDistinct is_same ps
unfolding IsDistinct
distinct [] once = tt
distinct (p ∷ ps) once = (all ps (λ q h same. once.0 (subst (λ (x : Piece). Has ps x) (sym same) h)), distinct ps once.1)
  where
    all : (qs : List Piece) → ((q : Piece) → Has qs q → p ≡ q → ⊥) → AllByRecursion (λ y. is_same p y ≡ false) qs
    all [] other = tt
    all (q ∷ qs) other = (apart p q (other q (inl refl)), all qs (λ x h. other x (inr h)))

-- of two pieces in order that are not one the first is less
rises : (p q : Piece) → is_lt (piece_cmp q p) ≡ false → is_same p q ≡ false → piece_cmp p q ≡ Less
rises p q ordered other = go (piece_cmp p q) refl (piece_total.antisymm q p) other
  where
    go : (o : Ordering) → piece_cmp p q ≡ o → piece_cmp q p ≡ ordering_reverse (piece_cmp p q) → is_eq o ≡ false → o ≡ Less
    go Less is back ne = refl
    go Equal is back ne = absurd (true≢false ne)
    go Greater is back ne = absurd (true≢false (sym (ap is_lt (back ∙ ap ordering_reverse is)) ∙ ordered))

-- what stands behind the end of a list of items
no_item : Item
no_item = record { piece = record { place = record { vdev = 0; sector = 0 }; birth = 0 }; sectors = 0; sum = [] }

-- items that were sorted, of which no piece stands twice
pub strictly : (found items : List Item) → IsPermutation found items → IsSortedByKey (λ (i : Item). i.piece) piece_cmp items → AreOnce (pieces_in found) → IsStrictlySortedBy piece_cmp (pieces_in items)
strictly found items same sorted once = sorted_from_all_adjacent piece_total (pieces_in items) no_item.piece adjacent
  where
    long : length (pieces_in items) ≡ length items
    long = length-map items (λ (i : Item). i.piece)

    differ : IsDistinct is_same (pieces_in items)
    differ = IsDistinct-IsPermutation is_same flips (pieces_in found) (pieces_in items) (IsPermutation-map (λ (i : Item). i.piece) found items same) (distinct (pieces_in found) once)

    adjacent : (k : ℕ) → k + 1 < length (pieces_in items) → piece_cmp (get_or (pieces_in items) k no_item.piece) (get_or (pieces_in items) (k + 1) no_item.piece) ≡ Less
    adjacent k below =
        let within : k + 1 < length items = omega (arith, below, long) in
        let first : get_or (pieces_in items) k no_item.piece ≡ (get_or items k no_item).piece = get_or-map (λ (i : Item). i.piece) items k no_item no_item.piece (omega (arith, within)) in
        let second : get_or (pieces_in items) (k + 1) no_item.piece ≡ (get_or items (k + 1) no_item).piece = get_or-map (λ (i : Item). i.piece) items (k + 1) no_item no_item.piece within in
        let two = apart_from_distinct is_same (pieces_in items) k (k + 1) no_item.piece differ (omega arith) below in
        rises (get_or (pieces_in items) k no_item.piece) (get_or (pieces_in items) (k + 1) no_item.piece) (rw (first, second) (sorted k no_item (omega arith) within)) two

module _ {A : Type 0} where
  -- the list has what stands at a place of it
  has_there : (xs : List A) (k : ℕ) (x d : A) → k < length xs → get_or xs k d ≡ x → Has xs x
  has_there [] k x d below is = absurd (omega (arith, below))
  has_there (y ∷ ys) zero x d below is = inl is
  has_there (y ∷ ys) (suc k) x d below is = inr (has_there ys k x d (omega (arith, below)) is)

  -- what a list has stands at a place of it
  contains_has : (xs : List A) (x : A) → Has xs x → Contains xs x
  contains_has [] x h = absurd h
  contains_has (y ∷ ys) x (inl is) = (0, omega arith, is)
  contains_has (y ∷ ys) x (inr more) =
      let r = contains_has ys x more in (suc r.0, (let below : r.0 < length ys = r.1 in omega (arith, below)), r.2)

  -- a list has what it has in another order
  pub has_moved : (xs ys : List A) (x : A) → IsPermutation xs ys → Has xs x → Has ys x
  has_moved xs ys x same h = let r = Contains-permutation xs ys x same (contains_has xs x h) in has_there ys r.0 x x r.1 r.2
