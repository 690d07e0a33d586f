-- Rising intervals, one more at the end.
use Rattle.std.proofs.Common.{◌≡◌, ◌≤◌, ◌<◌, ◌+◌, ◌-◌, ◌⊎◌, ◌||◌, ℕ, Bool, true, false, List, [], ◌∷◌, ◌++◌, length, get_or, set, take, arith, refl, subst, ap, sym, ◌∙◌, inl, inr}
use Rattle.std.proofs.lemmas.Bool.{false≢true}
use Rattle.std.proofs.Math.Bool.{or-false, or-true, or_assoc}
use Rattle.std.specs.Prelude.{nat_le, Some, slice_get}
use Rattle.std.specs.Bool.{OnTrue}
use Rattle.std.proofs.lemmas.Option.{get_or_from_slice_get}
use Rattle.std.proofs.Math.Nat.{le_refl}
use Rattle.std.proofs.Math.Seq.{set-append_seam}
use Rattle.std.proofs.lemmas.List.{take_more, take_all, length-take-le}
use Rattle.std.proofs.lemmas.Bool.Decides.{nat_tests}
use Rattle.std.proofs.lemmas.List.Folds.{list_any-append}
use Rattle.zs_ranges.specs.declared.set.Interval.{Interval}
use Rattle.zs_ranges.specs.Set.{has_txg, is_between, RisesFrom, IsCanonical}
use Rattle.zs_ranges.specs.Build.{IsPutBehind, BeginBy}

-- the least group at which one more interval may begin
abbrev gap_from : ℕ → List Interval → ℕ
gap_from from [] = from
gap_from from (s ∷ ss) = gap_from (s.last + 2) ss

rises_push : (ss : List Interval) (from : ℕ) (s : Interval) → RisesFrom from ss → gap_from from ss ≤ s.first → s.first ≤ s.last → RisesFrom from (ss ++ s ∷ [])
rises_push [] from s r g f = (g, f, tt)
rises_push (x ∷ ss) from s r g f = (r.0, r.1, rises_push ss (x.last + 2) s r.2 g f)

rises_front : (ss : List Interval) (from : ℕ) (s : Interval) → RisesFrom from (ss ++ s ∷ []) → RisesFrom from ss
rises_front [] from s r = tt
rises_front (x ∷ ss) from s r = (r.0, r.1, rises_front ss (x.last + 2) s r.2)

rises_back : (ss : List Interval) (from : ℕ) (s : Interval) → RisesFrom from (ss ++ s ∷ []) → (gap_from from ss ≤ s.first) × (s.first ≤ s.last)
rises_back [] from s r = (r.0, r.1)
rises_back (x ∷ ss) from s r = rises_back ss (x.last + 2) s r.2

gap_push : (ss : List Interval) (from : ℕ) (s : Interval) → gap_from from (ss ++ s ∷ []) ≡ s.last + 2
gap_push [] from s = refl
gap_push (x ∷ ss) from s = gap_push ss (x.last + 2) s

by_push : (ss : List Interval) (top : ℕ) (s : Interval) → BeginBy top ss → s.first ≤ top → BeginBy top (ss ++ s ∷ [])
by_push [] top s r f = (f, tt)
by_push (x ∷ ss) top s r f = (r.0, by_push ss top s r.1 f)

by_front : (ss : List Interval) (top : ℕ) (s : Interval) → BeginBy top (ss ++ s ∷ []) → BeginBy top ss
by_front [] top s r = tt
by_front (x ∷ ss) top s r = (r.0, by_front ss top s r.1)

by_back : (ss : List Interval) (top : ℕ) (s : Interval) → BeginBy top (ss ++ s ∷ []) → s.first ≤ top
by_back [] top s r = r.0
by_back (x ∷ ss) top s r = by_back ss top s r.1

-- what begins by a group begins by each one above
pub by_weaker : (ss : List Interval) (low top : ℕ) → low ≤ top → BeginBy low ss → BeginBy top ss
by_weaker [] low top le r = tt
by_weaker (x ∷ ss) low top le r = (omega arith, by_weaker ss low top le r.1)

-- an interval and one that begins within it or right behind it
between_join : (a b c d m t : ℕ) → a ≤ c → c ≤ b + 1 → c ≤ d → (m ≡ b) ⊎ (m ≡ d) → b ≤ m → d ≤ m → is_between a m t ≡ (is_between a b t || is_between c d t)
between_join a b c d m t p q r e f g = grind (arith, nat_tests)

has_push : (ss : List Interval) (s : Interval) (t : ℕ) → has_txg (ss ++ s ∷ []) t ≡ (has_txg ss t || is_between s.first s.last t)
has_push ss s t = list_any-append (λ (x : Interval). is_between x.first x.last t) ss (s ∷ []) ∙ ap (λ b. has_txg ss t || b) (or-false (is_between s.first s.last t))

-- one interval more, with a group missing before it
put_apart : (ss : List Interval) (s : Interval) → IsCanonical ss → gap_from 0 ss ≤ s.first → s.first ≤ s.last → BeginBy s.first ss → IsPutBehind ss s (ss ++ s ∷ [])
put_apart ss s can gap filled behind = record {
  canonical = rises_push ss 0 s can gap filled;
  has = has_push ss s;
  behind = by_push ss s.first s behind (le_refl s.first);
}

-- the last interval widened over one that it meets
widened : (ss : List Interval) (b s w : Interval) → IsCanonical (ss ++ b ∷ []) → BeginBy s.first (ss ++ b ∷ []) → s.first ≤ b.last + 1 → s.first ≤ s.last → w.first ≡ b.first → (w.last ≡ b.last) ⊎ (w.last ≡ s.last) → b.last ≤ w.last → s.last ≤ w.last → IsPutBehind (ss ++ b ∷ []) s (ss ++ w ∷ [])
widened ss b s w can behind meets filled first last over_b over_s =
    let back = rises_back ss 0 b can in
    let starts : b.first ≤ s.first = by_back ss s.first b behind in
    let gap : gap_from 0 ss ≤ w.first = omega arith in
    let wide : w.first ≤ w.last = omega arith in
    let low : w.first ≤ s.first = omega arith in
    record {
      canonical = rises_push ss 0 w (rises_front ss 0 b can) gap wide;
      has = λ t.
          has_push ss w t
          ∙ ap (λ h. has_txg ss t || h) (ap (λ a. is_between a w.last t) first ∙ between_join b.first b.last s.first s.last w.last t starts meets filled last over_b over_s)
          ∙ sym (or_assoc (has_txg ss t) (is_between b.first b.last t) (is_between s.first s.last t))
          ∙ ap (λ h. h || is_between s.first s.last t) (sym (has_push ss b t));
      behind = by_push ss s.first w (by_front ss s.first b behind) low;
    }

-- a list by its last element
by_last : (ss : List Interval) (n : ℕ) (d : Interval) → 0 < n → length ss ≡ n → take (n - 1) ss ++ get_or ss (n - 1) d ∷ [] ≡ ss
by_last ss n d pos is =
    let lt : n - 1 < length ss = omega arith in
    let all : n - 1 + 1 ≡ length ss = omega arith in
    let full : length ss ≤ n - 1 + 1 = omega arith in
    sym (take_more ss (n - 1) d lt) ∙ take_all (n - 1 + 1) ss full

set_last : (ss : List Interval) (n : ℕ) (d w : Interval) → 0 < n → length ss ≡ n → set ss (n - 1) w ≡ take (n - 1) ss ++ w ∷ []
set_last ss n d w pos is =
    let le : n - 1 ≤ length ss = omega arith in
    let at : set (take (n - 1) ss ++ get_or ss (n - 1) d ∷ []) (length (take (n - 1) ss)) w ≡ take (n - 1) ss ++ w ∷ [] = set-append_seam (take (n - 1) ss) (get_or ss (n - 1) d) [] w in
    rw (length-take-le (n - 1) ss le, by_last ss n d pos is) at at

-- the last interval of a list, of which there are n, widened in its place
pub put_over : (ss : List Interval) (n : ℕ) (b s w : Interval) → 0 < n → length ss ≡ n → b ≡ get_or ss (n - 1) b → IsCanonical ss → BeginBy s.first ss → s.first ≤ b.last + 1 → s.first ≤ s.last → w.first ≡ b.first → (w.last ≡ b.last) ⊎ (w.last ≡ s.last) → b.last ≤ w.last → s.last ≤ w.last → IsPutBehind ss s (set ss (n - 1) w)
put_over ss n b s w pos is at can behind meets filled first last over_b over_s =
    let front = take (n - 1) ss in
    let whole : front ++ b ∷ [] ≡ ss = ap (λ x. front ++ x ∷ []) at ∙ by_last ss n b pos is in
    rw (set_last ss n b w pos is) (subst (λ l. IsPutBehind l s (front ++ w ∷ [])) whole (widened front b s w (subst IsCanonical (sym whole) can) (subst (BeginBy s.first) (sym whole) behind) meets filled first last over_b over_s))

-- one interval more behind the last, which it does not meet
pub put_after : (ss : List Interval) (n : ℕ) (b s : Interval) → 0 < n → length ss ≡ n → b ≡ get_or ss (n - 1) b → IsCanonical ss → BeginBy s.first ss → b.last + 1 < s.first → s.first ≤ s.last → IsPutBehind ss s (ss ++ s ∷ [])
put_after ss n b s pos is at can behind apart filled =
    let front = take (n - 1) ss in
    let whole : front ++ b ∷ [] ≡ ss = ap (λ x. front ++ x ∷ []) at ∙ by_last ss n b pos is in
    let gap : gap_from 0 ss ≤ s.first = subst (λ l. gap_from 0 l ≤ s.first) whole (rw (gap_push front 0 b) (omega arith)) in
    put_apart ss s can gap filled behind

-- the first interval of a list
pub put_first : (ss : List Interval) (s : Interval) → length ss ≡ 0 → IsCanonical ss → BeginBy s.first ss → s.first ≤ s.last → IsPutBehind ss s (ss ++ s ∷ [])
put_first [] s none can behind filled = put_apart [] s can (omega arith) filled behind
put_first (x ∷ ss) s none can behind filled = absurd (omega arith)

by_gap : (ss : List Interval) (from : ℕ) → RisesFrom from ss → (from ≤ gap_from from ss) × BeginBy (gap_from from ss) ss
by_gap [] from r = (le_refl from, tt)
by_gap (s ∷ ss) from r =
    let rest = by_gap ss (s.last + 2) r.2 in
    let le : s.last + 2 ≤ gap_from (s.last + 2) ss = rest.0 in
    let low : from ≤ s.first = r.0 in
    let mid : s.first ≤ s.last = r.1 in
    (omega arith, (omega arith, rest.1))

-- none begins above the group where the last interval does not
pub by_highest : (ss : List Interval) (n : ℕ) (d : Interval) (top : ℕ) → 0 < n → length ss ≡ n → IsCanonical ss → (get_or ss (n - 1) d).first ≤ top → BeginBy top ss
by_highest ss n d top pos is can le =
    let front = take (n - 1) ss in
    let b = get_or ss (n - 1) d in
    let whole : front ++ b ∷ [] ≡ ss = by_last ss n d pos is in
    let rises : RisesFrom 0 (front ++ b ∷ []) = subst (RisesFrom 0) (sym whole) can in
    let gap : gap_from 0 front ≤ b.first = (rises_back front 0 b rises).0 in
    subst (BeginBy top) whole (by_push front top b (by_weaker front (gap_from 0 front) top (omega arith) (by_gap front 0 (rises_front front 0 b rises)).1) le)

in_or : (x y : Bool) → (x || y) ≡ true → (x ≡ true) ⊎ (y ≡ true)
in_or true y is = inl refl
in_or false y is = inr is

-- the groups of rising intervals lie from where they begin to the end of the last one
pub has_above : (ss : List Interval) (from t : ℕ) → RisesFrom from ss → has_txg ss t ≡ true → (from ≤ t) × (t + 2 ≤ gap_from from ss)
has_above [] from t r is = absurd (false≢true is)
has_above (s ∷ ss) from t r is =
    let low : from ≤ s.first = r.0 in
    let mid : s.first ≤ s.last = r.1 in
    let gap : s.last + 2 ≤ gap_from (s.last + 2) ss = (by_gap ss (s.last + 2) r.2).0 in
    elim (in_or (is_between s.first s.last t) (has_txg ss t) is) [
      | inl here ↦ let at = between_true s.first s.last t here in (omega arith, omega arith)
      | inr there ↦ let at = has_above ss (s.last + 2) t r.2 there in (omega arith, at.1)
    ]
  where
    between_true : (a b t : ℕ) → is_between a b t ≡ true → (a ≤ t) × (t ≤ b)
    between_true a b t is = grind (arith, nat_tests)

-- a list has an element where its last one is given
filled_from : (ss : List Interval) (x : Interval) → Some x ≡ slice_get ss (length ss - 1) → 0 < length ss
filled_from [] x is = cc
filled_from (s ∷ ss) x is = omega arith

-- the last interval of a list, and what stands before it
last_of : (ss : List Interval) (x : Interval) → Some x ≡ slice_get ss (length ss - 1) → take (length ss - 1) ss ++ x ∷ [] ≡ ss
last_of ss x is =
    ap (λ y. take (length ss - 1) ss ++ y ∷ []) (sym (get_or_from_slice_get ss (length ss - 1) x x (sym is))) ∙ by_last ss (length ss) x (filled_from ss x is) refl

-- whether none begins above a group, by the last interval
pub begin_by_last : (ss : List Interval) (x : Interval) (top : ℕ) → Some x ≡ slice_get ss (length ss - 1) → IsCanonical ss → OnTrue (nat_le x.first top) (BeginBy top ss)
begin_by_last ss x top is can =
    on_true (nat_le x.first top) (λ le. by_highest ss (length ss) x top (filled_from ss x is) refl can (rw (get_or_from_slice_get ss (length ss - 1) x x (sym is)) (below x.first top le)))
  where
    below : (a b : ℕ) → nat_le a b ≡ true → a ≤ b
    below a b is = grind (arith, nat_tests)

    on_true : {P : Type 0} (b : Bool) → (b ≡ true → P) → OnTrue b P
    on_true true p = p refl
    on_true false p = tt

-- the last group of the last interval is in the set
pub has_last : (ss : List Interval) (x : Interval) → Some x ≡ slice_get ss (length ss - 1) → IsCanonical ss → has_txg ss x.last ≡ true
has_last ss x is can =
    let front = take (length ss - 1) ss in
    let whole : front ++ x ∷ [] ≡ ss = last_of ss x is in
    let filled : x.first ≤ x.last = (rises_back front 0 x (subst (RisesFrom 0) (sym whole) can)).1 in
    ap (λ l. has_txg l x.last) (sym whole) ∙ has_push front x x.last ∙ (rw (between_end x.first x.last filled) (or-true (has_txg front x.last)))
  where
    between_end : (a b : ℕ) → a ≤ b → is_between a b b ≡ true
    between_end a b le = grind (arith, nat_tests)

-- no group of the set is above it
pub last_above : (ss : List Interval) (x : Interval) → Some x ≡ slice_get ss (length ss - 1) → IsCanonical ss → (t : ℕ) → has_txg ss t ≡ true → t ≤ x.last
last_above ss x is can t has =
    let front = take (length ss - 1) ss in
    let gap : gap_from 0 ss ≡ x.last + 2 = ap (gap_from 0) (sym (last_of ss x is)) ∙ gap_push front 0 x in
    let at = has_above ss 0 t can has in
    omega arith

-- no group of the set is below the first one of the first interval
pub first_below : (ss : List Interval) (x : Interval) → Some x ≡ slice_get ss 0 → IsCanonical ss → (t : ℕ) → has_txg ss t ≡ true → x.first ≤ t
first_below [] x is can t has = cc
first_below (s ∷ ss) x is can t has =
    let same : x ≡ s = cc in
    rw same (has_above (s ∷ ss) s.first t (le_refl s.first, can.1, can.2) has).0
