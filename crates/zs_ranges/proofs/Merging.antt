-- Two sets put into one list, lowest first.
use Rattle.std.proofs.Common.{◌≡◌, ◌≤◌, ◌<◌, ◌+◌, ◌||◌, ℕ, Bool, true, false, List, [], ◌∷◌, length, get_or, drop, arith, refl, ap, sym, subst, ◌∙◌}
use Rattle.std.proofs.lemmas.List.{drop_more}
use Rattle.std.proofs.Math.Bool.{or-false, or_assoc}
use Rattle.zs_ranges.specs.declared.set.Interval.{Interval}
use Rattle.zs_ranges.specs.Set.{has_txg, is_between, RisesFrom, IsCanonical}
use Rattle.zs_ranges.specs.Build.{IsPutBehind, IsUnion, StartsBelow, BeginBy, IsMerging}
use Rattle.zs_ranges.proofs.Rises.{by_weaker}

-- what rises from a group rises from each one below
pub rises_lower : (ss : List Interval) (low top : ℕ) → low ≤ top → RisesFrom top ss → RisesFrom low ss
rises_lower [] low top le r = tt
rises_lower (s ∷ ss) low top le r = (omega arith, r.1, r.2)

-- the order in which tests are joined is free
or_swap : (x y : Bool) → (x || y) ≡ (y || x)
or_swap true true = refl
or_swap true false = refl
or_swap false true = refl
or_swap false false = refl

or_in : (o n x a b : Bool) → n ≡ (o || x) → (n || (a || b)) ≡ (o || ((x || a) || b))
or_in o n x a b is = rw is (or_assoc o x (a || b) ∙ ap (λ h. o || h) (sym (or_assoc x a b)))

pub merging_start : (a b : List Interval) → IsCanonical a → IsCanonical b → IsMerging a b a b []
merging_start a b can_a can_b = record { top = 0; canonical = tt; behind = tt; rises_a = can_a; rises_b = can_b; has = λ t. refl }

pub merging_swap : (a b ra rb out : List Interval) → IsMerging a b ra rb out → IsMerging b a rb ra out
merging_swap a b ra rb out m = record {
  top = m.top;
  canonical = m.canonical;
  behind = m.behind;
  rises_a = m.rises_b;
  rises_b = m.rises_a;
  has = λ t. ap (λ h. has_txg out t || h) (or_swap (has_txg rb t) (has_txg ra t)) ∙ m.has t ∙ or_swap (has_txg a t) (has_txg b t);
}

pub merging_left : (a b ra rb out new : List Interval) (x : Interval) → IsMerging a b (x ∷ ra) rb out → RisesFrom x.first rb → IsPutBehind out x new → IsMerging a b ra rb new
merging_left a b ra rb out new x m above put = record {
  top = x.first;
  canonical = put.canonical;
  behind = put.behind;
  rises_a = rises_lower ra x.first (x.last + 2) (let f : x.first ≤ x.last = m.rises_a.1 in omega arith) m.rises_a.2;
  rises_b = above;
  has = λ t. or_in (has_txg out t) (has_txg new t) (is_between x.first x.last t) (has_txg ra t) (has_txg rb t) (put.has t) ∙ m.has t;
}

pub merging_done : (a b ra out new : List Interval) → IsMerging a b ra [] out → IsUnion out ra new → IsUnion a b new
merging_done a b ra out new m u = record {
  canonical = u.canonical;
  has = λ t. u.has t ∙ ap (λ h. has_txg out t || h) (sym (or-false (has_txg ra t))) ∙ m.has t;
}

pub merging_below : (a b ra rb out : List Interval) → IsMerging a b ra rb out → StartsBelow out ra
merging_below a b ra rb out m = record { top = m.top; canonical = m.canonical; behind = m.behind; rises = m.rises_a }

pub below_merging : (out rest : List Interval) → StartsBelow out rest → IsMerging out rest [] rest out
below_merging out rest s = record { top = s.top; canonical = s.canonical; behind = s.behind; rises_a = tt; rises_b = s.rises; has = λ t. refl }

pub merging_over : (a b out : List Interval) → IsMerging a b [] [] out → IsUnion a b out
merging_over a b out m = record { canonical = m.canonical; has = λ t. sym (or-false (has_txg out t)) ∙ m.has t }

-- what is left of a list at an index
pub rest_at : (l : List Interval) (i : ℕ) (d : Interval) → i < length l → drop i l ≡ get_or l i d ∷ drop (i + 1) l
rest_at l i d lt = drop_more l i d lt

-- the next interval may be put behind the others
pub next_behind : (a b rb out : List Interval) (i : ℕ) (d : Interval) → i < length a → IsMerging a b (drop i a) rb out → BeginBy (get_or a i d).first out
next_behind a b rb out i d lt m = by_weaker out m.top (get_or a i d).first (rw (rest_at a i d lt) at m.rises_a).0 m.behind

pub merging_step : (a b rb out new : List Interval) (i : ℕ) (d : Interval) → i < length a → RisesFrom (get_or a i d).first rb → IsMerging a b (drop i a) rb out → IsPutBehind out (get_or a i d) new → IsMerging a b (drop (i + 1) a) rb new
merging_step a b rb out new i d lt above m put =
    merging_left a b (drop (i + 1) a) rb out new (get_or a i d) (subst (λ r. IsMerging a b r rb out) (rest_at a i d lt) m) above put

-- what rises from the first group of its first interval, and so from each one below
pub rises_at : (b : List Interval) (j : ℕ) (d : Interval) (low top : ℕ) → j < length b → low ≤ (get_or b j d).first → RisesFrom top (drop j b) → RisesFrom low (drop j b)
rises_at b j d low top lt le r = rw (rest_at b j d lt) (let m = rw (rest_at b j d lt) at r in (le, m.1, m.2))
