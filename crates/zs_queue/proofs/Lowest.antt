-- A mirror's entries are a run of the list, from its least piece on.
use Rattle.std.proofs.Common.{◌≡◌, ℕ, ◌<◌, ◌≤◌, ◌==◌, ◌&&◌, true, false, not, cond, List, [], ◌∷◌, filter, refl, sym, ◌∙◌, ap, arith, nat_lt}
use Rattle.std.specs.List.{AllByRecursion, take_while}
use Rattle.std.specs.List.Sorted.{IsStrictlySortedBy}
use Rattle.std.specs.Ordering.{is_le}
use Rattle.std.specs.declared.cmp.Ordering.TheVariants.{Less}
use Rattle.std.specs.Map.{keys_of}
use Rattle.std.proofs.lemmas.List.Sums.{take_while-cons}
use Rattle.zs_ids.specs.declared.block.Piece.{Piece}
use Rattle.zs_ids.specs.declared.block.Item.{Item}
use Rattle.zs_ids.specs.Piece.{piece_cmp}
use Rattle.zs_queue.specs.Waiting.{is_of}
use Rattle.std.specs.BTreeMap.Range.{entries_between}
use Rattle.std.specs.declared.ops.Bound.TheVariants.{Included, Unbounded}
use Rattle.std.proofs.Math.Bool.{and-true}
use Rattle.zs_queue.specs.Start.{least_of, run_of}

-- the least piece of a mirror is at most those of the mirror and of the mirrors above
from_least : (vdev : ℕ) (p : Piece) → (is_le (piece_cmp (least_of vdev) p) && true) ≡ not (nat_lt p.place.vdev vdev)
from_least vdev p = and-true _ ∙ by_mirror vdev p
  where
    by_mirror : (v : ℕ) (q : Piece) → is_le (piece_cmp (least_of v) q) ≡ not (nat_lt q.place.vdev v)
    by_mirror v q = grind arith

-- a greater piece is of no lower mirror
mirrors_rise : (p q : Piece) → piece_cmp p q ≡ Less → p.place.vdev ≤ q.place.vdev
mirrors_rise p q h = grind arith

-- none of the mirror after a piece of a mirror above
none_above : (vdev : ℕ) (p : Piece) (es : List (Piece × Item)) → vdev < p.place.vdev → AllByRecursion (λ q. piece_cmp p q ≡ Less) (keys_of es) → filter (is_of vdev) es ≡ []
none_above vdev p [] above rise = refl
none_above vdev p (e ∷ es) above rise =
    let other : (e.0.place.vdev == vdev) ≡ false = apart e.0.place.vdev vdev (omega (arith, mirrors_rise p e.0 rise.0)) in
    rw other (none_above vdev p es above rise.1)
  where
    apart : (a b : ℕ) → b < a → (a == b) ≡ false
    apart a b lt = grind arith

-- the entries from the mirror's least piece on
abbrev from_mirror : List (Piece × Item) → ℕ → List (Piece × Item)
from_mirror es vdev = entries_between piece_cmp (Included (least_of vdev)) Unbounded es

below_apart : (a b : ℕ) → nat_lt a b ≡ true → (a == b) ≡ false
below_apart a b lt = grind arith

above : (a b : ℕ) → nat_lt a b ≡ false → (a == b) ≡ false → b < a
above a b from other = grind arith

pub run_is : (es : List (Piece × Item)) (vdev : ℕ) → IsStrictlySortedBy piece_cmp (keys_of es) → run_of es vdev ≡ filter (is_of vdev) es
unfolding IsStrictlySortedBy
run_is [] vdev rise = refl
run_is (e ∷ es) vdev rise =
    rw (from_least vdev e.0) (elim (nat_lt e.0.place.vdev vdev) as (λ b. nat_lt e.0.place.vdev vdev ≡ b
    → take_while (is_of vdev) (cond (not b) (e ∷ from_mirror es vdev) (from_mirror es vdev))
    ≡ cond (e.0.place.vdev == vdev) (e ∷ filter (is_of vdev) es) (filter (is_of vdev) es)) [
      | true ↦ λ below. rw (below_apart e.0.place.vdev vdev below) (run_is es vdev rise.1)
      | false ↦ λ from. take_while-cons (is_of vdev) e (from_mirror es vdev)
          ∙ (elim (e.0.place.vdev == vdev) as (λ b. (e.0.place.vdev == vdev) ≡ b → cond b (e ∷ run_of es vdev) [] ≡ cond b (e ∷ filter (is_of vdev) es) (filter (is_of vdev) es)) [
            | true ↦ λ _. ap (λ (l : List (Piece × Item)). e ∷ l) (run_is es vdev rise.1)
            | false ↦ λ other. sym (none_above vdev e.0 es (above e.0.place.vdev vdev from other) rise.0)
          ] refl)
    ] refl)
