-- How many marks are of pieces that fly.
use Rattle.std.proofs.Common.{◌≡◌, ℕ, ◌+◌, ◌≤◌, true, false, cond, List, [], ◌∷◌, filter, length, refl, sym, ◌∙◌, ap, arith, is_some}
use Rattle.std.specs.Prelude.{Option, Some, None}
use Rattle.std.specs.Ordering.{is_eq, match_ordering}
use Rattle.std.specs.declared.cmp.Ordering.TheVariants.{Less, Equal, Greater}
use Rattle.std.specs.Map.{lookup, remove_entry}
use Rattle.std.specs.BTreeMap.{insert_entry, is_at}
use Rattle.zs_ids.specs.declared.block.Piece.{Piece}
use Rattle.zs_ids.specs.Piece.{piece_cmp}
use Rattle.zs_queue.specs.Lists.{passing-cons}
use Rattle.zs_scan.specs.View.{Mark, mark_of, flies, is_flying}

counted : List (Piece × Mark) → ℕ
counted marks = length (filter is_flying marks)

counted-cons : (e : Piece × Mark) (es : List (Piece × Mark)) → length (filter is_flying (e ∷ es)) ≡ length (filter is_flying es) + cond (is_flying e) 1 0
counted-cons e es = passing-cons is_flying e es

-- a new mark of a piece that waits
pub wait_counted : (es : List (Piece × Mark)) (p : Piece) → mark_of es p ≡ None → length (filter is_flying (insert_entry piece_cmp es p None)) ≡ length (filter is_flying es)
wait_counted [] p absent = refl
wait_counted (e ∷ es) p absent = elim (piece_cmp p e.0) as (λ o. cond (is_eq o) (Some e.1) (lookup (is_at (piece_cmp p)) es) ≡ None → length (filter is_flying (match_ordering o ((p, None) ∷ e ∷ es) ((e.0, None) ∷ es) (e ∷ insert_entry piece_cmp es p None))) ≡ length (filter is_flying (e ∷ es))) [
  | Less ↦ λ _. refl
  | Equal ↦ λ there. cc
  | Greater ↦ λ later. omega (arith, counted-cons e es, counted-cons e (insert_entry piece_cmp es p None), wait_counted es p later)
] absent

some_is : (a b : Mark) → Some a ≡ Some b → a ≡ b
some_is a b e = ap (λ (o : Option Mark). cond_or o) e
  where
    cond_or : Option Mark → Mark
    cond_or None = a
    cond_or (Some m) = m

-- a piece that waits flies
pub fly_counted : (es : List (Piece × Mark)) (p : Piece) (b : ℕ) → mark_of es p ≡ Some None → length (filter is_flying (insert_entry piece_cmp es p (Some b))) ≡ length (filter is_flying es) + 1
fly_counted [] p b there = cc
fly_counted (e ∷ es) p b there = elim (piece_cmp p e.0) as (λ o. cond (is_eq o) (Some e.1) (lookup (is_at (piece_cmp p)) es) ≡ Some None → length (filter is_flying (match_ordering o ((p, Some b) ∷ e ∷ es) ((e.0, Some b) ∷ es) (e ∷ insert_entry piece_cmp es p (Some b)))) ≡ length (filter is_flying (e ∷ es)) + 1) [
  | Less ↦ λ _. counted-cons (p, Some b) (e ∷ es)
  | Equal ↦ λ is. let waits : is_flying e ≡ false = ap is_some (some_is e.1 None is) in omega (arith, counted-cons (e.0, Some b) es, counted-cons e es ∙ ap (λ x. length (filter is_flying es) + cond x 1 0) waits)
  | Greater ↦ λ later. omega (arith, counted-cons e es, counted-cons e (insert_entry piece_cmp es p (Some b)), fly_counted es p b later)
] there

-- a mark that is taken away
pub remove_counted : (es : List (Piece × Mark)) (p : Piece) → length (filter is_flying (remove_entry (is_at (piece_cmp p)) es)) + cond (flies (mark_of es p)) 1 0 ≡ length (filter is_flying es)
remove_counted [] p = refl
remove_counted (e ∷ es) p = elim (is_eq (piece_cmp p e.0)) as (λ t. length (filter is_flying (cond t es (e ∷ remove_entry (is_at (piece_cmp p)) es))) + cond (flies (cond t (Some e.1) (lookup (is_at (piece_cmp p)) es))) 1 0 ≡ length (filter is_flying (e ∷ es))) [
  | true ↦ sym (counted-cons e es)
  | false ↦ omega (arith, counted-cons e es, counted-cons e (remove_entry (is_at (piece_cmp p)) es), remove_counted es p)
]

-- what each call leaves, where the list of the map is the one that contracts see
pub wait_kept : (es now new : List (Piece × Mark)) (p : Piece) → es ≡ now → new ≡ insert_entry piece_cmp es p None → mark_of now p ≡ None → length (filter is_flying new) ≡ length (filter is_flying now)
wait_kept es now new p same is absent = rw (is, same) (wait_counted now p absent)

pub fly_kept : (es now new : List (Piece × Mark)) (p : Piece) (b : ℕ) → es ≡ now → new ≡ insert_entry piece_cmp es p (Some b) → mark_of now p ≡ Some None → length (filter is_flying new) ≡ length (filter is_flying now) + 1
fly_kept es now new p b same is waits = rw (is, same) (fly_counted now p b waits)

pub remove_kept : (es now new : List (Piece × Mark)) (p : Piece) → es ≡ now → new ≡ remove_entry (is_at (piece_cmp p)) es → length (filter is_flying new) + cond (flies (mark_of now p)) 1 0 ≡ length (filter is_flying now)
remove_kept es now new p same is = rw (is, same) (remove_counted now p)

-- at most so many fly as there are marks
pub few_fly : (es : List (Piece × Mark)) → length (filter is_flying es) ≤ length es
few_fly [] = omega arith
few_fly (e ∷ es) = elim (is_flying e) as (λ b. length (cond b (e ∷ filter is_flying es) (filter is_flying es)) ≤ length (e ∷ es)) [ true ↦ omega (arith, few_fly es) | false ↦ omega (arith, few_fly es) ]
