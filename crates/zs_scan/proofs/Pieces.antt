-- Pieces that are the same, and those of a list that rises.
use Rattle.std.proofs.Common.{◌≡◌, ℕ, ◌<◌, ◌||◌, Bool, true, false, List, [], ◌∷◌, map, take, length, refl, sym, ◌∙◌, ap, subst, arith, get_or, zero, suc}
use Rattle.std.proofs.Math.Bool.{or-true}
use Rattle.std.specs.List.{list_any, AllByRecursion}
use Rattle.std.specs.List.Sorted.{IsStrictlySortedBy}
use Rattle.std.specs.Ordering.{is_eq, ordering_reverse}
use Rattle.std.specs.declared.cmp.Ordering.{Ordering}
use Rattle.std.specs.declared.cmp.Ordering.TheVariants.{Less, Equal, Greater}
use Rattle.zs_ids.specs.declared.block.Piece.{Piece}
use Rattle.zs_ids.specs.Piece.{piece_cmp}
use Rattle.zs_queue.specs.Order.{equal_pieces, tests_equal, piece_total}
use Rattle.zs_scan.specs.View.{is_same}

pub same_is : (p q : Piece) → is_same p q ≡ true → p ≡ q
same_is p q h = equal_pieces p q (tests_equal (piece_cmp p q) h)

pub same_itself : (p : Piece) → is_same p p ≡ true
same_itself p = go (piece_cmp p p) (piece_total.antisymm p p)
  where
    go : (o : Ordering) → o ≡ ordering_reverse o → is_eq o ≡ true
    go Less e = cc
    go Equal e = refl
    go Greater e = cc

pub same_both : (p q : Piece) → is_same p q ≡ is_same q p
same_both p q = go (is_same p q) (is_same q p) refl refl
  where
    go : (a b : Bool) → is_same p q ≡ a → is_same q p ≡ b → a ≡ b
    go true true _ _ = refl
    go false false _ _ = refl
    go true false h k = let e : is_same q p ≡ true = subst (λ (x : Piece). is_same x p ≡ true) (same_is p q h) (same_itself p) in sym e ∙ k
    go false true h k = let e : is_same p q ≡ true = subst (λ (x : Piece). is_same x q ≡ true) (same_is q p k) (same_itself q) in sym h ∙ e

-- a piece below all of a list is not one of them
pub not_above : (p : Piece) (ps : List Piece) (q : Piece) → AllByRecursion (λ x. piece_cmp p x ≡ Less) ps → is_same p q ≡ true → list_any (λ x. is_same x q) ps ≡ false
not_above p [] q all same = refl
not_above p (x ∷ xs) q all same =
    let below : is_same p x ≡ false = ap is_eq all.0 in
    let apart : is_same x q ≡ false = ap (λ (y : Piece). is_same x y) (sym (same_is p q same)) ∙ same_both x p ∙ below in
    ap (λ b. b || list_any (λ y. is_same y q) xs) apart ∙ not_above p xs q all.1 same

module _ {A : Type 0} (f : A → Piece) where
  -- the piece of an entry is not among those before it, where they rise
  pub rising_apart : (xs : List A) (i : ℕ) (d : A) → IsStrictlySortedBy piece_cmp (map f xs) → i < length xs → list_any (λ x. is_same (f x) (f (get_or xs i d))) (take i xs) ≡ false
  unfolding IsStrictlySortedBy
  rising_apart [] i d rising below = absurd (omega (arith, below))
  rising_apart (x ∷ xs) zero d rising below = refl
  rising_apart (x ∷ xs) (suc i) d rising below =
      let less : piece_cmp (f x) (f (get_or xs i d)) ≡ Less = less_at (f x) xs i d rising.0 (omega (arith, below)) in
      rw (ap is_eq less) (rising_apart xs i d rising.1 (omega (arith, below)))
    where
      less_at : (p : Piece) (ys : List A) (j : ℕ) (d : A) → AllByRecursion (λ y. piece_cmp p y ≡ Less) (map f ys) → j < length ys → piece_cmp p (f (get_or ys j d)) ≡ Less
      less_at p [] j d all below = absurd (omega (arith, below))
      less_at p (y ∷ ys) zero d all below = all.0
      less_at p (y ∷ ys) (suc j) d all below = less_at p ys j d all.1 (omega (arith, below))

  -- and it is among all of them
  pub among_all : (xs : List A) (i : ℕ) (d : A) → i < length xs → list_any (λ x. is_same (f x) (f (get_or xs i d))) xs ≡ true
  among_all [] i d below = absurd (omega (arith, below))
  among_all (x ∷ xs) zero d below = rw (same_itself (f x)) refl
  among_all (x ∷ xs) (suc i) d below = rw (among_all xs i d (omega (arith, below))) (or-true (is_same (f x) (f (get_or xs i d))))
