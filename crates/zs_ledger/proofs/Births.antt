-- A set with the births of a list.
use Rattle.std.proofs.Common.{◌≡◌, ◌==◌, ◌&&◌, ◌||◌, ℕ, ◌≤◌, ◌+◌, ◌<◌, Bool, true, false, cond, List, [], ◌∷◌, map, filter, take, length, nat_le, refl, sym, ap, ◌∙◌, arith, slice_index_or}
use Rattle.std.specs.List.{list_any}
use Rattle.std.specs.List.Sorted.{IsPermutation}
use Rattle.std.proofs.lemmas.List.Folds.{list_any_more}
use Rattle.std.proofs.lemmas.List.Sorted.{list_any-IsPermutation}
use Rattle.std.proofs.lemmas.Grind.{common_steps}
use Rattle.zs_ledger.specs.declared.entry.Entry.{Entry}
use Rattle.zs_ledger.specs.Entry.{failed_on, has_failed_birth}
use Rattle.zs_ranges.specs.declared.set.Interval.{Interval}
use Rattle.zs_ranges.specs.Set.{has_txg, is_between, IsWith}

one_txg : (b t : ℕ) → is_between b b t ≡ (b == t)
one_txg b t = grind arith

-- one more group of the list
pub one_more_txg : (txgs : List ℕ) (i b : ℕ) (old new : List Interval) → i < length txgs → b ≡ slice_index_or txgs i 0
    → ((t : ℕ) → has_txg old t ≡ list_any (λ txg. txg == t) (take i txgs)) → IsWith old (is_between b b) new
    → (t : ℕ) → has_txg new t ≡ list_any (λ txg. txg == t) (take (i + 1) txgs)
one_more_txg txgs i b old new below is so_far with t =
    with t ∙ ap (λ x. x || is_between b b t) (so_far t) ∙ ap (λ x. list_any (λ (txg : ℕ). txg == t) (take i txgs) || x) (one_txg b t ∙ ap (λ x. x == t) is)
    ∙ sym (list_any_more (λ (txg : ℕ). txg == t) txgs i 0 below)

any-filtered : (p : Entry → Bool) (t : ℕ) (es : List Entry) → list_any (λ txg. txg == t) (map (λ (e : Entry). e.piece.birth) (filter p es)) ≡ list_any (λ e. p e && (e.piece.birth == t)) es
any-filtered p t [] = refl
any-filtered p t (e ∷ es) = elim (p e) as (λ b. list_any (λ txg. txg == t) (map (λ (x : Entry). x.piece.birth) (cond b (e ∷ filter p es) (filter p es))) ≡ ((b && (e.piece.birth == t)) || list_any (λ x. p x && (x.piece.birth == t)) es)) [
  | true ↦ ap (λ x. (e.piece.birth == t) || x) (any-filtered p t es)
  | false ↦ any-filtered p t es
]

-- the births of the entries with an error on the device, in another order
pub births_found : (es : List Entry) (dev width : ℕ) (births sorted : List ℕ) → births ≡ map (λ (e : Entry). e.piece.birth) (filter (failed_on dev width) es) → IsPermutation births sorted
    → (t : ℕ) → list_any (λ txg. txg == t) sorted ≡ has_failed_birth es dev width t
births_found es dev width births sorted are moved t =
    sym (list_any-IsPermutation (λ (txg : ℕ). txg == t) births sorted moved) ∙ ap (λ (l : List ℕ). list_any (λ txg. txg == t) l) are ∙ any-filtered (failed_on dev width) t es
