-- What a finished scan cuts out of a log.
use Rattle.std.proofs.Common.{◌≡◌, ◌≤◌, ◌<◌, ◌+◌, ◌-◌, ◌||◌, ◌&&◌, ◌/◌, ◌%◌, ◌^◌, ℕ, Bool, true, false, List, [], ◌∷◌, length, get_or, get_or-set_same, set, take, arith, refl, ap, sym, subst, ◌∙◌}
use Rattle.std.specs.Prelude.{not, nat_lt, min, max, ◌==◌, Option, Some, None, slice_get}
use Rattle.std.proofs.lemmas.Option.{get_or_from_slice_get}
use Rattle.std.proofs.lemmas.List.{get_or_read}
use Rattle.std.proofs.Math.Bool.{or-false, or_assoc, and-false}
use Rattle.std.proofs.Math.Nat.{div-eq_of_lt, pow-le-pow_right}
use Rattle.std.proofs.lemmas.Bool.Decides.{nat_tests}
use Rattle.std.proofs.lemmas.List.Folds.{list_any_more}
use Rattle.zs_ranges.specs.declared.set.Interval.{Interval}
use Rattle.zs_ranges.specs.Set.{has_txg, is_between, joined_to, IsCanonical, IsWith, IsWithout}
use Rattle.zs_dtl.specs.Logs.{Logs, log_of, IsJoinedLog, is_online, is_excised, is_wanted}

-- a device past the mask's bits is not in it
pub none_past : (mask dev : ℕ) → mask < 2 ^ 32 → 32 ≤ dev → false ≡ is_online mask dev
none_past mask dev fits past =
    let le : 2 ^ 32 ≤ 2 ^ dev = pow-le-pow_right {n = 2} (omega arith) past in
    let lt : mask < 2 ^ dev = omega arith in
    sym (ap (λ n. n % 2 == 1) (div-eq_of_lt {n = mask} {m = 2 ^ dev} lt))

-- between two ends there is no group where they are neighbours
none_between : (low high t : ℕ) → high ≤ low + 1 → (nat_lt low t && nat_lt t high) ≡ false
none_between low high t p = grind (arith, nat_tests)

-- the groups strictly between two ends, as those from one to another
strictly : (low high t : ℕ) → low + 1 < high → is_between (low + 1) (high - 1) t ≡ (nat_lt low t && nat_lt t high)
strictly low high t p = grind (arith, nat_tests)

and_true : (b : Bool) → (b && true) ≡ b
and_true true = refl
and_true false = refl

pub excised_none : (low high : ℕ) (only : Option (List Interval)) (old : List Interval) → high ≤ low + 1 → IsWithout old (is_excised low high only) old
excised_none low high only old p = λ t. sym (ap (λ c. has_txg old t && not (c && is_wanted only t)) (none_between low high t p) ∙ and_true (has_txg old t))

pub excised_all : (low high : ℕ) (old new : List Interval) → low + 1 < high → IsWithout old (is_between (low + 1) (high - 1)) new → IsWithout old (is_excised low high None) new
excised_all low high old new p is = λ t. is t ∙ ap (λ c. has_txg old t && not c) (strictly low high t p ∙ sym (and_true (nat_lt low t && nat_lt t high)))

pub excised_some : (low high : ℕ) (only old new : List Interval) → low + 1 < high → IsWithout old (λ t. is_between (low + 1) (high - 1) t && has_txg only t) new → IsWithout old (is_excised low high (Some only)) new
excised_some low high only old new p is = λ t. is t ∙ ap (λ c. has_txg old t && not (c && has_txg only t)) (strictly low high t p)

-- the common part of two intervals
common : (a b first last t : ℕ) → is_between (max a first) (min b last) t ≡ (is_between first last t && is_between a b t)
common a b first last t = grind (arith, nat_tests)

cut_twice : (h c x y : Bool) → (h && not (c && x) && not (c && y)) ≡ (h && not (c && (x || y)))
cut_twice true true true y = refl
cut_twice true true false y = refl
cut_twice true false x y = refl
cut_twice false c x y = refl

pub common_none : (first last : ℕ) (old : List Interval) → IsWithout old (λ t. is_between first last t && false) old
common_none first last old = λ t. sym (ap (λ c. has_txg old t && not c) (and-false (is_between first last t)) ∙ and_true (has_txg old t))

pub common_step : (first last i : ℕ) (d : Interval) (only old mid new : List Interval) → i < length only → IsWithout old (λ t. is_between first last t && has_txg (take i only) t) mid → IsWithout mid (is_between (max (get_or only i d).first first) (min (get_or only i d).last last)) new → IsWithout old (λ t. is_between first last t && has_txg (take (i + 1) only) t) new
common_step first last i d only old mid new lt before now = λ t.
    let s = get_or only i d in
    now t
    ∙ ap (λ h. h && not (is_between (max s.first first) (min s.last last) t)) (before t)
    ∙ ap (λ c. has_txg old t && not (is_between first last t && has_txg (take i only) t) && not c) (common s.first s.last first last t)
    ∙ cut_twice (has_txg old t) (is_between first last t) (has_txg (take i only) t) (is_between s.first s.last t)
    ∙ ap (λ x. has_txg old t && not (is_between first last t && x)) (sym (list_any_more (λ (x : Interval). is_between x.first x.last t) only i d lt))

pub past_bits : (mask dev : ℕ) → mask < 2 ^ 32 → 32 ≤ dev → nat_lt dev 32 ≡ is_online mask dev
past_bits mask dev fits past = not_below dev past ∙ none_past mask dev fits past
  where
    not_below : (dev : ℕ) → 32 ≤ dev → nat_lt dev 32 ≡ false
    not_below dev past = grind (arith, nat_tests)

-- one interval more of the groups to cut, as a call of `span` gives it
pub common_span : (first last i a b low high : ℕ) (only old mid new : List Interval) → i < length only → slice_get only i ≡ Some (record { first = a; last = b }) → low ≡ max a first → high ≡ min b last → IsWithout old (λ t. is_between first last t && has_txg (take i only) t) mid → IsWithout mid (is_between low high) new → IsWithout old (λ t. is_between first last t && has_txg (take (i + 1) only) t) new
common_span first last i a b low high only old mid new lt at lo hi before now =
    let s : Interval = record { first = a; last = b } in
    let read : get_or only i s ≡ s = get_or_from_slice_get only i s s at in
    common_step first last i s only old mid new lt before (λ t. rw read (now t ∙ ap (λ l. has_txg mid t && not (is_between l high t)) lo ∙ ap (λ h. has_txg mid t && not (is_between (max a first) h t)) hi))

one_txg : (t u : ℕ) → is_between t t u ≡ (u == t)
one_txg t u = grind (arith, nat_tests)

-- a device's log with one group more, joined
pub dirty_log : (logs : Logs) (i dev t : ℕ) (old mid new : List Interval) → i ≡ dev → dev < length logs → old ≡ get_or logs i old → IsCanonical mid → IsWith old (is_between t t) mid → new ≡ joined_to 64 mid → IsJoinedLog (λ u. has_txg (log_of logs dev) u || u == t) (log_of (set logs i new) dev)
dirty_log logs i dev t old mid new same lt at can is joined =
    let here : i < length logs = omega arith in
    let there : log_of logs dev ≡ old = ap (log_of logs) (sym same) ∙ sym (get_or_read logs i old here at []) in
    record {
      whole = mid;
      canonical = can;
      has = λ u. is u ∙ ap (λ b. has_txg old u || b) (one_txg t u) ∙ ap (λ l. has_txg l u || u == t) (sym there);
      joined = ap (log_of (set logs i new)) (sym same) ∙ get_or-set_same logs i new [] here ∙ joined;
    }
