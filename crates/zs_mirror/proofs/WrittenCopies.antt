-- One copy more was written.
use Rattle.std.proofs.Common.{◌≡◌, ◌≢◌, ℕ, ◌+◌, ◌<◌, ◌≤◌, inl, inr, Bool, true, false, List, [], ◌∷◌, length, slice_set, slice_index_or, sym, ◌∙◌, subst, arith}
use Rattle.std.proofs.lemmas.Bool.{cases_eq, cases_lt}
use Rattle.std.proofs.lemmas.List.{get_or-set_same, get_or-set_other}
use Rattle.zs_sum.specs.Sum.{sha256}
use Rattle.zs_io.specs.Told.{Told}
use Rattle.zs_lane.specs.declared.mark.Mark.TheVariants.{Wrote, Failed}
use Rattle.zs_lane.specs.Children.{DeviceView, Stays, OnlyOn}
use Rattle.zs_mirror.specs.Mirror.{nowhere, has_bit, Leaves, Touched}
use Rattle.zs_mirror.specs.Mirror.Change.{Put, Opened}
use Rattle.zs_mirror.specs.Calls.{WasWritten, AreWritten}
use Rattle.zs_mirror.proofs.Devices.{stays, stays_on, went_between, uncalled_between, stays_touched, put_touched, opened_touched}
use Rattle.zs_mirror.proofs.Copies.{other_copy, untouched, left_alone}

written_between : (online failed : Bool) (at : ℕ) (bytes : List ℕ) (place : ℕ) (a b c d : DeviceView) → Stays a b → WasWritten online failed at bytes place b c → Stays c d
    → WasWritten online failed at bytes place a d
written_between true false at bytes place a b c d first was then = went_between (Put at bytes) (Wrote at (length bytes) (sha256 bytes) ∷ []) false place a b c d first was then
written_between true true at bytes place a b c d first was then = went_between (Opened at bytes) (Failed ∷ []) true place a b c d first was then
written_between false true at bytes place a b c d first was then = uncalled_between place a b c d first was then
written_between false false at bytes place a b c d first was then = absurd was

touched : (online failed : Bool) (at : ℕ) (bytes : List ℕ) (place : ℕ) (a b : DeviceView) → Told a.told (λ c. at + length bytes ≤ length c)
    → WasWritten online failed at bytes place a b → Touched at bytes a b
touched true false at bytes place a b fits was = put_touched at bytes (Wrote at (length bytes) (sha256 bytes) ∷ []) false place a b fits was
touched true true at bytes place a b fits was = opened_touched at bytes (Failed ∷ []) true place a b was
touched false true at bytes place a b fits was = stays_touched at bytes a b was.stays
touched false false at bytes place a b fits was = absurd was

module _ (online first i at : ℕ) (bytes : List ℕ) (mask : ℕ) (places : List ℕ) (old mid : ℕ → DeviceView) where
  pub none_written : i ≡ 0 → mask ≡ 0 → ((e : ℕ) → slice_index_or places e nowhere ≡ nowhere) → ((e : ℕ) → has_bit 0 e ≡ false) → AreWritten online first i at bytes mask places old mid
  none_written none clear empty no_bit = record {
    each = λ k lt. absurd (omega (arith, lt, none));
    none_else = λ e other. subst (λ (m : ℕ). has_bit m e ≡ false) (sym clear) (no_bit e);
    nowhere_else = λ e other. empty e;
  }

  module _ (n m l mask' place : ℕ) (failed : Bool) (new : ℕ → DeviceView) (within : first + i < length places) (so_far : AreWritten online first i at bytes mask places old mid)
      (before : Leaves first i n m old mid) (only : OnlyOn (first + i) m l mid new)
      (was : WasWritten (has_bit online (first + i)) failed at bytes place (mid (first + i)) (new (first + i)))
      (bit : has_bit mask' (first + i) ≡ failed) (bits : (e : ℕ) → e ≢ first + i → has_bit mask' e ≡ has_bit mask e) where
    Each : ℕ → Type 0
    Each k = WasWritten (has_bit online (first + k)) (has_bit mask' (first + k)) at bytes (slice_index_or (slice_set places (first + i) place) (first + k) nowhere) (old (first + k)) (new (first + k))

    this : Each i
    unfolding Each
    this = rw (bit, get_or-set_same places (first + i) place nowhere within)
        (written_between (has_bit online (first + i)) failed at bytes place (old (first + i)) (mid (first + i)) (new (first + i)) (new (first + i))
        (untouched first i n m l old mid new before only) was (stays (new (first + i))))

    earlier : (k : ℕ) → k < i → k ≢ i → Each k
    unfolding Each
    earlier k lt ne = rw (bits (first + k) (other_copy first i k ne), get_or-set_other places (first + i) (first + k) place nowhere (other_copy first i k ne))
        (written_between (has_bit online (first + k)) (has_bit mask (first + k)) at bytes (slice_index_or places (first + k) nowhere) (old (first + k)) (old (first + k)) (mid (first + k)) (new (first + k))
        (stays (old (first + k))) (so_far.each k lt) (left_alone first i n m l old mid new before only k ne))

    each_one : (k : ℕ) → k < i + 1 → Each k
    each_one k lt = elim (cases_eq k i) [
      | inl here ↦ subst (λ (x : ℕ). Each x) (sym here) this
      | inr ne ↦ earlier k (omega (arith, lt, ne)) ne
    ]

    pub written_next : AreWritten online first (i + 1) at bytes mask' (slice_set places (first + i) place) old new
    unfolding Each
    written_next = record {
      each = each_one;
      none_else = λ e other. bits e (other i (omega arith)) ∙ so_far.none_else e (λ k lt. other k (omega (arith, lt)));
      nowhere_else = λ e other. get_or-set_other places (first + i) e place nowhere (other i (omega arith)) ∙ so_far.nowhere_else e (λ k lt. other k (omega (arith, lt)));
    }

  -- where memory is wanting at this copy
  pub all_touched : (n m l width : ℕ) (new : ℕ → DeviceView) → AreWritten online first i at bytes mask places old mid → Leaves first i n m old mid → OnlyOn (first + i) m l mid new
      → Stays (mid (first + i)) (new (first + i)) → ((k : ℕ) → k < width → Told (old (first + k)).told (λ c. at + length bytes ≤ length c))
      → (k : ℕ) → k < width → Touched at bytes (old (first + k)) (new (first + k))
  all_touched n m l width new so_far before only here fits k lt = elim (cases_lt k i) [
    | inl done ↦ touched (has_bit online (first + k)) (has_bit mask (first + k)) at bytes (slice_index_or places (first + k) nowhere) (old (first + k)) (new (first + k)) (fits k lt)
        (written_between (has_bit online (first + k)) (has_bit mask (first + k)) at bytes (slice_index_or places (first + k) nowhere) (old (first + k)) (old (first + k)) (mid (first + k)) (new (first + k))
        (stays (old (first + k))) (so_far.each k done) (left_alone first i n m l old mid new before only k (λ same. omega (arith, done, same))))
    | inr rest ↦ stays_touched at bytes (old (first + k)) (new (first + k))
        (stays_on (old (first + k)) (mid (first + k)) (new (first + k)) (before.others (first + k) (λ j below same. omega (arith, below, rest, same)))
        (elim (cases_eq k i) [
          | inl same ↦ subst (λ (x : ℕ). Stays (mid (first + x)) (new (first + x))) (sym same) here
          | inr ne ↦ left_alone first i n m l old mid new before only k ne
        ]))
  ]
