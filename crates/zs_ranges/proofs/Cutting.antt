-- Groups cut out of a set.
use Rattle.std.proofs.Common.{◌≡◌, ◌≤◌, ◌<◌, ◌+◌, ◌||◌, ◌&&◌, ◌⊎◌, ℕ, Bool, true, false, List, [], length, get_or, drop, arith, refl, ap, sym, ◌∙◌}
use Rattle.std.specs.Prelude.{not, nat_lt}
use Rattle.std.proofs.Math.Bool.{or-false, or_assoc, and-false}
use Rattle.std.proofs.lemmas.Bool.Decides.{nat_tests}
use Rattle.zs_ranges.specs.declared.set.Interval.{Interval}
use Rattle.zs_ranges.specs.Set.{has_txg, is_between, IsCanonical, IsWithout}
use Rattle.zs_ranges.specs.Build.{IsPutBehind, IsPutPart, BeginBy, IsCutting}
use Rattle.zs_ranges.proofs.Rises.{by_weaker}
use Rattle.zs_ranges.proofs.Merging.{rises_lower, rest_at}

-- the groups of an interval below a group, and those above one
below_part : (a b m first t : ℕ) → a < first → a ≤ b → (m ≤ b) × (m < first) × ((m ≡ b) ⊎ (m + 1 ≡ first)) → is_between a m t ≡ (is_between a b t && nat_lt t first)
below_part a b m first t p q r = grind (arith, nat_tests)

above_part : (a b n last t : ℕ) → last < b → a ≤ b → (a ≤ n) × (last < n) × ((n ≡ a) ⊎ (n ≡ last + 1)) → is_between n b t ≡ (is_between a b t && nat_lt last t)
above_part a b n last t p q r = grind (arith, nat_tests)

none_below : (a b first t : ℕ) → first ≤ a → (is_between a b t && nat_lt t first) ≡ false
none_below a b first t p = grind (arith, nat_tests)

none_above : (a b last t : ℕ) → b ≤ last → (is_between a b t && nat_lt last t) ≡ false
none_above a b last t p = grind (arith, nat_tests)

outside : (first last t : ℕ) → first ≤ last → not (is_between first last t) ≡ (nat_lt t first || nat_lt last t)
outside first last t p = grind (arith, nat_tests)

-- a group lies in one of the parts or is cut out
in_parts : (o n m x l r : Bool) (c : Bool) → n ≡ (o || (x && l)) → m ≡ (n || (x && r)) → c ≡ (l || r) → m ≡ (o || (x && c))
in_parts o n m true l r c p q e = q ∙ ap (λ h. h || r) p ∙ or_assoc o l r ∙ ap (λ h. o || h) (sym e)
in_parts o n m false l r c p q e = q ∙ or-false n ∙ p

and_or : (x y c : Bool) → ((x || y) && c) ≡ ((x && c) || (y && c))
and_or true y true = refl
and_or true y false = sym (and-false y)
and_or false y c = refl

pub cutting_start : (first last : ℕ) (spans : List Interval) → IsCanonical spans → IsCutting first last spans spans []
cutting_start first last spans can = record { top = 0; canonical = tt; behind = tt; rises = can; has = λ t. refl }

pub cutting_done : (first last : ℕ) (spans out : List Interval) → IsCutting first last spans [] out → IsWithout spans (is_between first last) out
cutting_done first last spans out m = λ t. sym (or-false (has_txg out t)) ∙ m.has t

pub cutting_step : (first last : ℕ) (spans out mid new : List Interval) (i : ℕ) (d : Interval) → i < length spans → first ≤ last → IsCutting first last spans (drop i spans) out
    → IsPutPart out (get_or spans i d) (λ t. nat_lt t first) (get_or spans i d).first mid → IsPutPart mid (get_or spans i d) (λ t. nat_lt last t) (get_or spans i d).last new
    → IsCutting first last spans (drop (i + 1) spans) new
cutting_step first last spans out mid new i d lt le m low high =
    let x = get_or spans i d in
    let rest = drop (i + 1) spans in
    let rises = rw (rest_at spans i d lt) at m.rises in
    record {
      top = x.last;
      canonical = high.canonical;
      behind = high.behind;
      rises = rises_lower rest x.last (x.last + 2) (omega arith) rises.2;
      has = λ t.
          let c = not (is_between first last t) in
          let b = is_between x.first x.last t in
          let part : has_txg new t ≡ (has_txg out t || (b && c)) = in_parts (has_txg out t) (has_txg mid t) (has_txg new t) b (nat_lt t first) (nat_lt last t) c (low.has t) (high.has t) (outside first last t le) in
          ap (λ h. h || (has_txg rest t && c)) part
          ∙ or_assoc (has_txg out t) (b && c) (has_txg rest t && c)
          ∙ ap (λ h. has_txg out t || h) (sym (and_or b (has_txg rest t) c))
          ∙ ap (λ l. has_txg out t || (has_txg l t && c)) (sym (rest_at spans i d lt))
          ∙ m.has t;
    }

pub cutting_filled : (first last : ℕ) (spans out : List Interval) (i : ℕ) (d : Interval) → i < length spans → IsCutting first last spans (drop i spans) out → (get_or spans i d).first ≤ (get_or spans i d).last
cutting_filled first last spans out i d lt m = (rw (rest_at spans i d lt) at m.rises).1

pub cutting_behind : (first last : ℕ) (spans out : List Interval) (i : ℕ) (d : Interval) → i < length spans → IsCutting first last spans (drop i spans) out → BeginBy (get_or spans i d).first out
cutting_behind first last spans out i d lt m = by_weaker out m.top (get_or spans i d).first (rw (rest_at spans i d lt) at m.rises).0 m.behind

pub put_none_above : (out : List Interval) (s : Interval) (last : ℕ) → IsCanonical out → s.first ≤ s.last → BeginBy s.first out → s.last ≤ last → IsPutPart out s (λ t. nat_lt last t) s.last out
put_none_above out s last can filled behind low = record {
  canonical = can;
  has = λ t. sym (ap (λ h. has_txg out t || h) (none_above s.first s.last last t low) ∙ or-false (has_txg out t));
  behind = by_weaker out s.first s.last filled behind;
}

pub put_part_above : (out new : List Interval) (s : Interval) (n last : ℕ) → last < s.last → s.first ≤ s.last → (s.first ≤ n) × (last < n) × (n ≤ s.last) → (n ≡ s.first) ⊎ (n ≡ last + 1) → IsPutBehind out (record { first = n; last = s.last }) new → IsPutPart out s (λ t. nat_lt last t) s.last new
put_part_above out new s n last lt filled over from put = record {
  canonical = put.canonical;
  has = λ t. put.has t ∙ ap (λ h. has_txg out t || h) (above_part s.first s.last n last t lt filled (over.0, over.1, from));
  behind = by_weaker new n s.last over.2 put.behind;
}
