-- One copy more was read in a check.
use Rattle.std.proofs.Common.{◌≡◌, ◌≢◌, ℕ, ◌+◌, ◌<◌, inl, inr, List, length, slice_set, slice_index_or, refl, sym, ◌∙◌, ap, subst, arith}
use Rattle.std.proofs.lemmas.Bool.{cases_eq}
use Rattle.std.proofs.lemmas.List.{get_or-set_same, get_or-set_other}
use Rattle.zs_sum.specs.Sum.{sha256}
use Rattle.zs_lane.specs.Children.{DeviceView, OnlyOn}
use Rattle.zs_ledger.specs.declared.entry.CopyResult.{CopyResult}
use Rattle.zs_ledger.specs.declared.entry.CopyResult.TheVariants.{Missing, Good, Rewritten, Bad, Fault, Absent}
use Rattle.zs_mirror.specs.Mirror.{nowhere, has_bit, Leaves}
use Rattle.zs_mirror.specs.Calls.{WasRead}
use Rattle.zs_mirror.specs.Steps.{AreRead}
use Rattle.zs_mirror.proofs.Devices.{stays}
use Rattle.zs_mirror.proofs.Copies.{untouched, left_alone}
use Rattle.zs_mirror.proofs.ReadCopies.{read_between}

pub none_read : (online first at len : ℕ) (sum good : List ℕ) (letters : List CopyResult) (marks : List ℕ) (old : ℕ → DeviceView)
    → ((k : ℕ) → slice_index_or letters k Missing ≡ Missing) → ((k : ℕ) → slice_index_or marks k nowhere ≡ nowhere)
    → AreRead online first 0 at len sum good letters marks old old
none_read online first at len sum good letters marks old missing empty = record {
  each = λ k lt. absurd (omega (arith, lt));
  missing_else = λ k le. missing k;
  nowhere_else = λ k le. empty k;
  sum_is = λ k is. absurd (differ k is);
}
  where
    differ : (k : ℕ) → slice_index_or letters k Missing ≡ Good → ⊥
    differ k is = unlike (sym (missing k) ∙ is)
      where
        unlike : Missing ≡ Good → ⊥
        unlike e = cc

module _ (online first i at len : ℕ) (sum good : List ℕ) (letters : List CopyResult) (marks : List ℕ) (old mid : ℕ → DeviceView) (n m l place : ℕ) (copy : CopyResult) (good' : List ℕ)
    (new : ℕ → DeviceView) (within : i < length letters) (there : i < length marks)
    (so_far : AreRead online first i at len sum good letters marks old mid) (before : Leaves first i n m old mid) (only : OnlyOn (first + i) m l mid new)
    (was : WasRead (has_bit online (first + i)) copy at len sum place (mid (first + i)) (new (first + i)))
    (is_good : copy ≡ Good → sha256 good' ≡ sum) (kept : copy ≢ Good → good' ≡ good) where
  letters' : List CopyResult
  letters' = slice_set letters i copy

  marks' : List ℕ
  marks' = slice_set marks i place

  Each : ℕ → Type 0
  Each k = WasRead (has_bit online (first + k)) (slice_index_or letters' k Missing) at len sum (slice_index_or marks' k nowhere) (old (first + k)) (new (first + k))

  letter_here : slice_index_or letters' i Missing ≡ copy
  unfolding letters'
  letter_here = get_or-set_same letters i copy Missing within

  letter_else : (k : ℕ) → k ≢ i → slice_index_or letters' k Missing ≡ slice_index_or letters k Missing
  unfolding letters'
  letter_else k ne = get_or-set_other letters i k copy Missing ne

  mark_here : slice_index_or marks' i nowhere ≡ place
  unfolding marks'
  mark_here = get_or-set_same marks i place nowhere there

  mark_else : (k : ℕ) → k ≢ i → slice_index_or marks' k nowhere ≡ slice_index_or marks k nowhere
  unfolding marks'
  mark_else k ne = get_or-set_other marks i k place nowhere ne

  this : Each i
  unfolding Each
  this = rw (letter_here, mark_here)
      (read_between (has_bit online (first + i)) copy at len sum place (old (first + i)) (mid (first + i)) (new (first + i)) (new (first + i))
      (untouched first i n m l old mid new before only) was (stays (new (first + i))))

  earlier : (k : ℕ) → k < i → k ≢ i → Each k
  unfolding Each
  earlier k lt ne = rw (letter_else k ne, mark_else k ne)
      (read_between (has_bit online (first + k)) (slice_index_or letters k Missing) at len sum (slice_index_or marks k nowhere)
      (old (first + k)) (old (first + k)) (mid (first + k)) (new (first + k))
      (stays (old (first + k))) (so_far.each k lt) (left_alone first i n m l old mid new before only k ne))

  each_one : (k : ℕ) → k < i + 1 → Each k
  each_one k lt = elim (cases_eq k i) [
    | inl here ↦ subst (λ (x : ℕ). Each x) (sym here) this
    | inr ne ↦ earlier k (omega (arith, lt, ne)) ne
  ]

  good_before : (k : ℕ) (c : CopyResult) → c ≡ copy → slice_index_or letters k Missing ≡ Good → sha256 good' ≡ sum
  good_before k Good same is = is_good (sym same)
  good_before k Missing same is = ap sha256 (kept (λ e. unlike (same ∙ e))) ∙ so_far.sum_is k is
    where
      unlike : Missing ≡ Good → ⊥
      unlike e = cc
  good_before k Rewritten same is = ap sha256 (kept (λ e. unlike (same ∙ e))) ∙ so_far.sum_is k is
    where
      unlike : Rewritten ≡ Good → ⊥
      unlike e = cc
  good_before k Bad same is = ap sha256 (kept (λ e. unlike (same ∙ e))) ∙ so_far.sum_is k is
    where
      unlike : Bad ≡ Good → ⊥
      unlike e = cc
  good_before k Fault same is = ap sha256 (kept (λ e. unlike (same ∙ e))) ∙ so_far.sum_is k is
    where
      unlike : Fault ≡ Good → ⊥
      unlike e = cc
  good_before k Absent same is = ap sha256 (kept (λ e. unlike (same ∙ e))) ∙ so_far.sum_is k is
    where
      unlike : Absent ≡ Good → ⊥
      unlike e = cc

  pub read_next : AreRead online first (i + 1) at len sum good' (slice_set letters i copy) (slice_set marks i place) old new
  unfolding Each letters' marks'
  read_next = record {
    each = each_one;
    missing_else = λ k le. letter_else k (λ same. omega (arith, le, same)) ∙ so_far.missing_else k (omega (arith, le));
    nowhere_else = λ k le. mark_else k (λ same. omega (arith, le, same)) ∙ so_far.nowhere_else k (omega (arith, le));
    sum_is = λ k is. elim (cases_eq k i) [
      | inl here ↦ is_good (sym letter_here ∙ ap (λ (x : ℕ). slice_index_or (slice_set letters i copy) x Missing) (sym here) ∙ is)
      | inr ne ↦ good_before k copy refl (sym (letter_else k ne) ∙ is)
    ];
  }
