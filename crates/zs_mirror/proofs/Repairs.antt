-- One copy more was repaired.
use Rattle.std.proofs.Common.{◌≡◌, ◌≢◌, ℕ, zero, suc, ◌+◌, ◌<◌, ◌≤◌, inl, inr, true, false, List, [], ◌∷◌, length, slice_set, slice_index_or, refl, sym, ◌∙◌, subst, arith}
use Rattle.std.proofs.lemmas.Bool.{cases_eq, cases_lt}
use Rattle.std.proofs.lemmas.List.{get_or-set_same, get_or-set_other}
use Rattle.zs_io.specs.Told.{Told}
use Rattle.zs_lane.specs.declared.mark.Mark.TheVariants.{Wrote, Synced, Failed}
use Rattle.zs_lane.specs.Children.{DeviceView, Stays, OnlyOn}
use Rattle.zs_ledger.specs.declared.entry.CopyResult.{CopyResult}
use Rattle.zs_ledger.specs.declared.entry.CopyResult.TheVariants.{Missing, Good, Rewritten, Bad, Fault, Absent}
use Rattle.zs_mirror.specs.Mirror.{nowhere, Went, Leaves, Touched}
use Rattle.zs_mirror.specs.Mirror.Change.{Put, Opened}
use Rattle.zs_mirror.specs.Steps.{WasSynced, WasRewritten, WasRepaired, AreRepaired}
use Rattle.zs_mirror.proofs.Devices.{stays, stays_on, went_between, went_then, stays_touched, put_touched, opened_touched, durable_stays, touched_after, unwritten_stays}
use Rattle.zs_mirror.proofs.Copies.{untouched, left_alone}

-- a write that was done, and then a sync
pub synced_rewrite : (copy : CopyResult) (place first at len : ℕ) (sum good : List ℕ) (a b c : DeviceView) → Went (Put at good) (Wrote at len sum ∷ []) false first a b
    → WasSynced copy place b c → WasRewritten copy place at len sum good a c
synced_rewrite Rewritten place first at len sum good a b c write sync =
    (went_then (Put at good) (Wrote at len sum ∷ []) (Synced ∷ []) false first place a b c write sync.0, sync.1)
synced_rewrite Fault place first at len sum good a b c write sync =
    inr (went_then (Put at good) (Wrote at len sum ∷ []) (Failed ∷ []) true first place a b c write sync)
synced_rewrite Missing place first at len sum good a b c write sync = absurd sync
synced_rewrite Good place first at len sum good a b c write sync = absurd sync
synced_rewrite Bad place first at len sum good a b c write sync = absurd sync
synced_rewrite Absent place first at len sum good a b c write sync = absurd sync

rewritten_between : (copy : CopyResult) (place at len : ℕ) (sum good : List ℕ) (a b c d : DeviceView) → Stays a b → WasRewritten copy place at len sum good b c → Stays c d
    → WasRewritten copy place at len sum good a d
rewritten_between Rewritten place at len sum good a b c d first was then =
    (went_between (Put at good) (Wrote at len sum ∷ Synced ∷ []) false place a b c d first was.0 then, durable_stays c d was.1 then)
rewritten_between Fault place at len sum good a b c d first was then = elim was [
  | inl write ↦ inl (went_between (Opened at good) (Failed ∷ []) true place a b c d first write then)
  | inr sync ↦ inr (went_between (Put at good) (Wrote at len sum ∷ Failed ∷ []) true place a b c d first sync then)
]
rewritten_between Missing place at len sum good a b c d first was then = absurd was
rewritten_between Good place at len sum good a b c d first was then = absurd was
rewritten_between Bad place at len sum good a b c d first was then = absurd was
rewritten_between Absent place at len sum good a b c d first was then = absurd was

rewritten_touched : (copy : CopyResult) (place at len : ℕ) (sum good : List ℕ) (a b : DeviceView) → Told a.told (λ c. at + length good ≤ length c)
    → WasRewritten copy place at len sum good a b → Touched at good a b
rewritten_touched Rewritten place at len sum good a b fits was = put_touched at good (Wrote at len sum ∷ Synced ∷ []) false place a b fits was.0
rewritten_touched Fault place at len sum good a b fits was = elim was [
  | inl write ↦ opened_touched at good (Failed ∷ []) true place a b write
  | inr sync ↦ put_touched at good (Wrote at len sum ∷ Failed ∷ []) true place a b fits sync
]
rewritten_touched Missing place at len sum good a b fits was = absurd was
rewritten_touched Good place at len sum good a b fits was = absurd was
rewritten_touched Bad place at len sum good a b fits was = absurd was
rewritten_touched Absent place at len sum good a b fits was = absurd was

repaired_between : (before : CopyResult) (was_at : ℕ) (copy : CopyResult) (place at len : ℕ) (sum good : List ℕ) (a b c d : DeviceView) → Stays a b
    → WasRepaired before was_at copy place at len sum good b c → Stays c d → WasRepaired before was_at copy place at len sum good a d
repaired_between Bad was_at copy place at len sum good a b c d first was then = rewritten_between copy place at len sum good a b c d first was then
repaired_between Missing was_at copy place at len sum good a b c d first was then = (was.0, was.1, stays_on a c d (stays_on a b c first was.2) then)
repaired_between Good was_at copy place at len sum good a b c d first was then = (was.0, was.1, stays_on a c d (stays_on a b c first was.2) then)
repaired_between Rewritten was_at copy place at len sum good a b c d first was then = (was.0, was.1, stays_on a c d (stays_on a b c first was.2) then)
repaired_between Fault was_at copy place at len sum good a b c d first was then = (was.0, was.1, stays_on a c d (stays_on a b c first was.2) then)
repaired_between Absent was_at copy place at len sum good a b c d first was then = (was.0, was.1, stays_on a c d (stays_on a b c first was.2) then)

repaired_touched : (before : CopyResult) (was_at : ℕ) (copy : CopyResult) (place at len : ℕ) (sum good : List ℕ) (a b : DeviceView) → Told a.told (λ c. at + length good ≤ length c)
    → WasRepaired before was_at copy place at len sum good a b → Touched at good a b
repaired_touched Bad was_at copy place at len sum good a b fits was = rewritten_touched copy place at len sum good a b fits was
repaired_touched Missing was_at copy place at len sum good a b fits was = stays_touched at good a b was.2
repaired_touched Good was_at copy place at len sum good a b fits was = stays_touched at good a b was.2
repaired_touched Rewritten was_at copy place at len sum good a b fits was = stays_touched at good a b was.2
repaired_touched Fault was_at copy place at len sum good a b fits was = stays_touched at good a b was.2
repaired_touched Absent was_at copy place at len sum good a b fits was = stays_touched at good a b was.2

-- an element that is there does not depend on what stands for one that is not
any_default : (xs : List ℕ) (i d e : ℕ) → i < length xs → slice_index_or xs i d ≡ slice_index_or xs i e
any_default [] i d e lt = absurd (omega arith)
any_default (x ∷ xs) zero d e lt = refl
any_default (x ∷ xs) (suc i) d e lt = any_default xs i d e (omega arith)

pub of_array : (before : List CopyResult) (was_at : List ℕ) (j i : ℕ) (copy : CopyResult) (place at len : ℕ) (sum good : List ℕ) (a b : DeviceView) → j ≡ i → i < length was_at
    → WasRepaired (slice_index_or before j Missing) (slice_index_or was_at j 0) copy place at len sum good a b
    → WasRepaired (slice_index_or before i Missing) (slice_index_or was_at i nowhere) copy place at len sum good a b
of_array before was_at j i copy place at len sum good a b same lt was =
    subst (λ (x : ℕ). WasRepaired (slice_index_or before i Missing) x copy place at len sum good a b) (any_default was_at i 0 nowhere lt)
    (subst (λ (x : ℕ). WasRepaired (slice_index_or before x Missing) (slice_index_or was_at x 0) copy place at len sum good a b) same was)

pub of_length : (first width at l len : ℕ) (sum good : List ℕ) (before : List CopyResult) (was_at : List ℕ) (letters : List CopyResult) (marks : List ℕ) (old new : ℕ → DeviceView) → l ≡ len
    → AreRepaired first width at l sum good before was_at letters marks old new → AreRepaired first width at len sum good before was_at letters marks old new
of_length first width at l len sum good before was_at letters marks old new is repaired =
    subst (λ (k : ℕ). AreRepaired first width at k sum good before was_at letters marks old new) is repaired

pub none_repaired : (first at len : ℕ) (sum good : List ℕ) (letters : List CopyResult) (marks : List ℕ) (old : ℕ → DeviceView)
    → AreRepaired first 0 at len sum good letters marks letters marks old old
none_repaired first at len sum good letters marks old = record {
  each = λ k lt. absurd (omega (arith, lt));
  same_letters = λ k le. refl;
  same_marks = λ k le. refl;
}

module _ (first i at len : ℕ) (sum good : List ℕ) (before : List CopyResult) (was_at : List ℕ) (letters : List CopyResult) (marks : List ℕ) (old mid : ℕ → DeviceView) (n m l : ℕ)
    (new : ℕ → DeviceView) (so_far : AreRepaired first i at len sum good before was_at letters marks old mid) (leaves : Leaves first i n m old mid) (only : OnlyOn (first + i) m l mid new) where
  module _ (place : ℕ) (copy : CopyResult) (within : i < length letters) (there : i < length marks)
      (was : WasRepaired (slice_index_or before i Missing) (slice_index_or was_at i nowhere) copy place at len sum good (mid (first + i)) (new (first + i))) where
    letters' : List CopyResult
    letters' = slice_set letters i copy

    marks' : List ℕ
    marks' = slice_set marks i place

    Each : ℕ → Type 0
    Each k = WasRepaired (slice_index_or before k Missing) (slice_index_or was_at k nowhere) (slice_index_or letters' k Missing) (slice_index_or marks' k nowhere) at len sum good
        (old (first + k)) (new (first + k))

    letter_here : slice_index_or letters' i Missing ≡ copy
    unfolding letters'
    letter_here = get_or-set_same letters i copy Missing within

    letter_else : (k : ℕ) → k ≢ i → slice_index_or letters' k Missing ≡ slice_index_or letters k Missing
    unfolding letters'
    letter_else k ne = get_or-set_other letters i k copy Missing ne

    mark_here : slice_index_or marks' i nowhere ≡ place
    unfolding marks'
    mark_here = get_or-set_same marks i place nowhere there

    mark_else : (k : ℕ) → k ≢ i → slice_index_or marks' k nowhere ≡ slice_index_or marks k nowhere
    unfolding marks'
    mark_else k ne = get_or-set_other marks i k place nowhere ne

    this : Each i
    unfolding Each
    this = rw (letter_here, mark_here)
        (repaired_between (slice_index_or before i Missing) (slice_index_or was_at i nowhere) copy place at len sum good
        (old (first + i)) (mid (first + i)) (new (first + i)) (new (first + i))
        (untouched first i n m l old mid new leaves only) was (stays (new (first + i))))

    earlier : (k : ℕ) → k < i → k ≢ i → Each k
    unfolding Each
    earlier k lt ne = rw (letter_else k ne, mark_else k ne)
        (repaired_between (slice_index_or before k Missing) (slice_index_or was_at k nowhere) (slice_index_or letters k Missing) (slice_index_or marks k nowhere) at len sum good
        (old (first + k)) (old (first + k)) (mid (first + k)) (new (first + k))
        (stays (old (first + k))) (so_far.each k lt) (left_alone first i n m l old mid new leaves only k ne))

    each_one : (k : ℕ) → k < i + 1 → Each k
    each_one k lt = elim (cases_eq k i) [
      | inl here ↦ subst (λ (x : ℕ). Each x) (sym here) this
      | inr ne ↦ earlier k (omega (arith, lt, ne)) ne
    ]

    pub repaired_next : AreRepaired first (i + 1) at len sum good before was_at (slice_set letters i copy) (slice_set marks i place) old new
    unfolding Each letters' marks'
    repaired_next = record {
      each = each_one;
      same_letters = λ k le. letter_else k (λ same. omega (arith, le, same)) ∙ so_far.same_letters k (omega (arith, le));
      same_marks = λ k le. mark_else k (λ same. omega (arith, le, same)) ∙ so_far.same_marks k (omega (arith, le));
    }

  -- where memory is wanting at this copy
  pub repairs_touched : (width : ℕ) → Touched at good (mid (first + i)) (new (first + i)) → ((k : ℕ) → k < width → Told (old (first + k)).told (λ c. at + length good ≤ length c))
      → (k : ℕ) → k < width → Touched at good (old (first + k)) (new (first + k))
  repairs_touched width here fits k lt = elim (cases_lt k i) [
    | inl done ↦ repaired_touched (slice_index_or before k Missing) (slice_index_or was_at k nowhere) (slice_index_or letters k Missing) (slice_index_or marks k nowhere) at len sum good
        (old (first + k)) (new (first + k)) (fits k lt)
        (repaired_between (slice_index_or before k Missing) (slice_index_or was_at k nowhere) (slice_index_or letters k Missing) (slice_index_or marks k nowhere) at len sum good
        (old (first + k)) (old (first + k)) (mid (first + k)) (new (first + k))
        (stays (old (first + k))) (so_far.each k done) (left_alone first i n m l old mid new leaves only k (λ same. omega (arith, done, same))))
    | inr rest ↦ touched_after at good (old (first + k)) (mid (first + k)) (new (first + k))
        (unwritten_stays (old (first + k)) (mid (first + k)) (leaves.others (first + k) (λ j below same. omega (arith, below, rest, same))))
        (elim (cases_eq k i) [
          | inl same ↦ subst (λ (x : ℕ). Touched at good (mid (first + x)) (new (first + x))) (sym same) here
          | inr ne ↦ stays_touched at good (mid (first + k)) (new (first + k)) (left_alone first i n m l old mid new leaves only k ne)
        ])
  ]
