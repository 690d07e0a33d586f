-- The set of spots and the count of errors keep up with the list.
use Rattle.std.proofs.Math.Bool.{or-true}
use Rattle.zs_ids.specs.Graph.{Has}
use Rattle.std.proofs.Common.{map, inl, inr, ◌⊎◌, ◌≡◌, ◌==◌, ◌&&◌, ◌||◌, ℕ, Bool, true, false, cond, List, [], ◌∷◌, ◌++◌, ◌+◌, refl, sym, ap, ◌∙◌, arith, subst}
use Rattle.std.specs.List.{list_any}
use Rattle.std.specs.List.Sorted.{IsPermutation}
use Rattle.std.proofs.lemmas.List.Folds.{list_any-append}
use Rattle.std.specs.Result.{is_err, OnOk}
use Rattle.std.specs.Prelude.{Result, Ok, Err}
use Rattle.std.proofs.lemmas.List.Elements.{filter-append}
use Rattle.std.proofs.lemmas.List.Sums.{length-filter, count_by-le-length}
use Rattle.std.proofs.Common.{◌≤◌}
use Rattle.std.proofs.Common.{length, length-append, filter}
use Rattle.std.proofs.lemmas.List.Sorted.{list_any-IsPermutation}
use Rattle.std.proofs.lemmas.Bool.{eq-eqb, eqb-true}
use Rattle.std.proofs.lemmas.Grind.{common_steps}
use Rattle.zs_ids.specs.declared.block.Piece.{Piece}
use Rattle.zs_ledger.specs.declared.entry.Entry.{Entry}
use Rattle.zs_ledger.specs.declared.ledger.Spot.{Spot}
use Rattle.zs_ledger.specs.Entry.{has_error}
use Rattle.zs_ids.specs.Piece.{is_piece}
use Rattle.zs_ledger.specs.Kept.{AgreesWith, is_spot, has_piece, spot_of}

same_both_ways : (m n : ℕ) → (m == n) ≡ (n == m)
same_both_ways m n = grind arith

spot_both_ways : (s t : Spot) → is_spot s t ≡ is_spot t s
spot_both_ways s t = rw (same_both_ways s.vdev t.vdev, same_both_ways s.sector t.sector, same_both_ways s.birth t.birth) refl

one_more : (a : Bool) (b : Bool) → cond a true b ≡ (b || (a || false))
one_more true true = refl
one_more true false = refl
one_more false true = refl
one_more false false = refl

counted-append : (es fs : List Entry) → length (filter has_error (es ++ fs)) ≡ length (filter has_error es) + length (filter has_error fs)
counted-append es fs = ap (λ (l : List Entry). length l) (filter-append has_error es fs) ∙ length-append (filter has_error es) (filter has_error fs)

-- what a call that did not fail ensures
pub at_ok : {T E P : Type 0} (r : Result T E) → is_err r ≡ false → OnOk r P → P
at_ok (Ok x) no_err p = p
at_ok (Err y) no_err p = cc

-- an entry at the end, its spot in the set
pub pushed : (es : List Entry) (e : Entry) (spots more : List Spot) (n m : ℕ)
    → AgreesWith es spots n
    → ((q : Spot) → list_any (is_spot q) more ≡ cond (is_spot (spot_of e.piece) q) true (list_any (is_spot q) spots))
    → m ≡ n + length (filter has_error (e ∷ []))
    → AgreesWith (es ++ e ∷ []) more m
pushed es e spots more n m agrees puts counts = record {
  pieces = λ p. puts (spot_of p) ∙ ap (λ b. cond b true (list_any (is_spot (spot_of p)) spots)) (spot_both_ways (spot_of e.piece) (spot_of p))
      ∙ ap (λ b. cond (is_piece p e.piece) true b) (agrees.pieces p) ∙ one_more (is_piece p e.piece) (has_piece es p)
      ∙ sym (list_any-append (λ (x : Entry). is_piece p x.piece) es (e ∷ []));
  counted = counts ∙ ap (λ k. k + length (filter has_error (e ∷ []))) agrees.counted ∙ sym (counted-append es (e ∷ []));
}

-- the spots in another order
pub reordered : (es fs : List Entry) (spots others : List Spot) (n : ℕ) → fs ≡ es → IsPermutation spots others → AgreesWith es spots n → AgreesWith fs others n
reordered es fs spots others n is moved agrees =
    subst (λ (l : List Entry). AgreesWith l others n) (sym is) (record {
      pieces = λ p. sym (list_any-IsPermutation (is_spot (spot_of p)) spots others moved) ∙ agrees.pieces p;
      counted = agrees.counted;
    })

both : (a b : Bool) → (a && b) ≡ true → (a ≡ true) × (b ≡ true)
both true b h = (refl, h)
both false b h = cc

pub piece_is : (p q : Piece) → is_piece p q ≡ true → p ≡ q
piece_is p q h =
    let first = both (p.place.vdev == q.place.vdev) ((p.place.sector == q.place.sector) && (p.birth == q.birth)) h in
    let rest = both (p.place.sector == q.place.sector) (p.birth == q.birth) first.1 in
    let vdev : p.place.vdev ≡ q.place.vdev = eqb-true _ _ first.0 in
    let sector : p.place.sector ≡ q.place.sector = eqb-true _ _ rest.0 in
    let birth : p.birth ≡ q.birth = eqb-true _ _ rest.1 in
    let made : ℕ → ℕ → ℕ → Piece = λ v s b. record { place = record { vdev = v; sector = s }; birth = b } in
    ap (λ v. made v p.place.sector p.birth) vdev ∙ ap (λ s. made q.place.vdev s p.birth) sector ∙ ap (λ b. made q.place.vdev q.place.sector b) birth

pub is_itself : (p : Piece) → is_piece p p ≡ true
is_itself p = rw (eq-eqb p.place.vdev p.place.vdev refl, eq-eqb p.place.sector p.place.sector refl, eq-eqb p.birth p.birth refl) refl

-- the test finds the pieces that the list has
pub found : (es : List Entry) (p : Piece) → has_piece es p ≡ true → Has (map (λ (e : Entry). e.piece) es) p
found [] p h = cc
found (e ∷ es) p h = elim (is_piece p e.piece) as (λ b. is_piece p e.piece ≡ b → (b || has_piece es p) ≡ true → (e.piece ≡ p) ⊎ Has (map (λ (x : Entry). x.piece) es) p) [
  | true ↦ λ here _. inl (sym (piece_is p e.piece here))
  | false ↦ λ _ later. inr (found es p later)
] refl h

pub finds : (es : List Entry) (p : Piece) → Has (map (λ (e : Entry). e.piece) es) p → has_piece es p ≡ true
finds [] p has = absurd has
finds (e ∷ es) p has = elim has [
  | inl here ↦ rw (← here, is_itself e.piece) refl
  | inr later ↦ rw (finds es p later) (or-true (is_piece p e.piece))
]

pub few_errors : (es : List Entry) (spots : List Spot) (n : ℕ) → AgreesWith es spots n → n ≤ length es
few_errors es spots n agrees = subst (λ (k : ℕ). k ≤ length es) (sym agrees.counted) (length-filter-le has_error es)
  where
    length-filter-le : (p : Entry → Bool) (xs : List Entry) → length (filter p xs) ≤ length xs
    length-filter-le p xs = rw (length-filter p xs) (count_by-le-length p xs)
