-- One copy more was read.
use Rattle.std.proofs.Common.{◌≡◌, ◌≢◌, ℕ, ◌+◌, ◌<◌, inl, inr, Bool, true, false, List, [], ◌∷◌, length, slice_set, slice_index_or, slice_range, sym, ◌∙◌, ap, subst, arith}
use Rattle.std.proofs.lemmas.Bool.{cases_eq}
use Rattle.std.proofs.lemmas.List.{get_or-set_same, get_or-set_other}
use Rattle.zs_sum.specs.Sum.{sha256}
use Rattle.zs_io.specs.Told.{Told}
use Rattle.zs_lane.specs.declared.mark.Mark.TheVariants.{Read, Failed}
use Rattle.zs_lane.specs.Children.{DeviceView, Stays, OnlyOn, Marked}
use Rattle.zs_ledger.specs.declared.entry.CopyResult.{CopyResult}
use Rattle.zs_ledger.specs.declared.entry.CopyResult.TheVariants.{Missing, Good, Rewritten, Bad, Fault, Absent}
use Rattle.zs_mirror.specs.Mirror.{Untouched, nowhere, has_bit, Leaves}
use Rattle.zs_mirror.specs.Mirror.Change.{Kept}
use Rattle.zs_mirror.specs.Calls.{HasRead, WasRead, WasLost, AreLost, IsFound}
use Rattle.zs_mirror.proofs.Devices.{untouched_twice, unwritten_stays, stays, stays_on, went_between, uncalled_between}
use Rattle.zs_mirror.proofs.Copies.{untouched, left_alone}

pub was_other : (online : Bool) (at len : ℕ) (sum read buf : List ℕ) (place : ℕ) (a b : DeviceView) → online ≡ true → read ≢ sum → read ≡ sha256 buf
    → Marked (Read at len (sha256 buf)) a b → Told a.journal (λ j. place ≡ length j) → Told a.told (λ c. buf ≡ slice_range c at (at + len))
    → Untouched a b → b.faults ≡ a.faults → WasRead online Bad at len sum place a b
was_other online at len sum read buf place a b is_online differs digest mark last bytes unwritten counts = rw is_online (record {
  read = read;
  differs = differs;
  bytes = λ c is. ap sha256 (sym (bytes c is)) ∙ sym digest;
  went = record {
    journal = subst (λ (s : List ℕ). Marked (Read at len s) a b) (sym digest) mark;
    last = λ j is. omega (arith, last j is);
    told = unwritten.told;
    crash = unwritten.crash;
    faults = counts;
  };
})

read_on : (at len : ℕ) (sum : List ℕ) (place : ℕ) (a b c d : DeviceView) → Stays a b → HasRead at len sum place b c → Stays c d → HasRead at len sum place a d
read_on at len sum place a b c d first was then = record {
  bytes = λ x is. was.bytes x (first.told ∙ is);
  went = went_between Kept (Read at len sum ∷ []) false place a b c d first was.went then;
}

pub read_between : (online : Bool) (copy : CopyResult) (at len : ℕ) (sum : List ℕ) (place : ℕ) (a b c d : DeviceView) → Stays a b → WasRead online copy at len sum place b c → Stays c d
    → WasRead online copy at len sum place a d
read_between true Good at len sum place a b c d first was then = read_on at len sum place a b c d first was then
read_between true Bad at len sum place a b c d first was then = record {
  read = was.read;
  differs = was.differs;
  bytes = λ x is. was.bytes x (first.told ∙ is);
  went = went_between Kept (Read at len was.read ∷ []) false place a b c d first was.went then;
}
read_between true Fault at len sum place a b c d first was then = went_between Kept (Failed ∷ []) true place a b c d first was then
read_between false Absent at len sum place a b c d first was then = uncalled_between place a b c d first was then
read_between true Missing at len sum place a b c d first was then = absurd was
read_between true Rewritten at len sum place a b c d first was then = absurd was
read_between true Absent at len sum place a b c d first was then = absurd was
read_between false Missing at len sum place a b c d first was then = absurd was
read_between false Good at len sum place a b c d first was then = absurd was
read_between false Rewritten at len sum place a b c d first was then = absurd was
read_between false Bad at len sum place a b c d first was then = absurd was
read_between false Fault at len sum place a b c d first was then = absurd was

lost_between : (online : Bool) (at len : ℕ) (sum : List ℕ) (place : ℕ) (a b c d : DeviceView) → Stays a b → WasLost online at len sum place b c → Stays c d
    → WasLost online at len sum place a d
lost_between online at len sum place a b c d first was then = (was.0, was.1, read_between online was.0 at len sum place a b c d first was.2 then)

pub of_length : (online : Bool) (copy : CopyResult) (at l len : ℕ) (sum : List ℕ) (place : ℕ) (a b : DeviceView) → l ≡ len → WasRead online copy at l sum place a b
    → WasRead online copy at len sum place a b
of_length online copy at l len sum place a b is was = subst (λ (k : ℕ). WasRead online copy at k sum place a b) is was

pub unwritten_on : (dev : ℕ) (n m : ℕ) (old mid new : ℕ → DeviceView) → ((e : ℕ) → Untouched (old e) (mid e)) → OnlyOn dev n m mid new → Untouched (mid dev) (new dev)
    → (e : ℕ) → Untouched (old e) (new e)
unwritten_on dev n m old mid new before only now e = elim (cases_eq e dev) [
  | inl here ↦ subst (λ (x : ℕ). Untouched (old x) (new x)) (sym here) (untouched_twice (old dev) (mid dev) (new dev) (before dev) now)
  | inr other ↦ untouched_twice (old e) (mid e) (new e) (before e) (unwritten_stays (mid e) (new e) (only.others e other))
]

pub none_lost : (online first at len : ℕ) (sum places : List ℕ) (old : ℕ → DeviceView) → ((k : ℕ) → slice_index_or places k nowhere ≡ nowhere)
    → AreLost online first 0 at len sum places old old
none_lost online first at len sum places old empty = record {
  each = λ k lt. absurd (omega (arith, lt));
  nowhere_else = λ k le. empty k;
}

module _ (online first i at len : ℕ) (sum places : List ℕ) (old mid : ℕ → DeviceView) (n m l place : ℕ) (copy : CopyResult) (new : ℕ → DeviceView) (within : i < length places)
    (so_far : AreLost online first i at len sum places old mid) (before : Leaves first i n m old mid) (only : OnlyOn (first + i) m l mid new)
    (was : WasRead (has_bit online (first + i)) copy at len sum place (mid (first + i)) (new (first + i))) where
  this : WasRead (has_bit online (first + i)) copy at len sum place (old (first + i)) (new (first + i))
  this = read_between (has_bit online (first + i)) copy at len sum place (old (first + i)) (mid (first + i)) (new (first + i)) (new (first + i))
      (untouched first i n m l old mid new before only) was (stays (new (first + i)))

  here : slice_index_or (slice_set places i place) i nowhere ≡ place
  here = get_or-set_same places i place nowhere within

  elsewhere : (k : ℕ) → k ≢ i → slice_index_or (slice_set places i place) k nowhere ≡ slice_index_or places k nowhere
  elsewhere k ne = get_or-set_other places i k place nowhere ne

  earlier : (k : ℕ) → k < i → k ≢ i → WasLost (has_bit online (first + k)) at len sum (slice_index_or (slice_set places i place) k nowhere) (old (first + k)) (new (first + k))
  earlier k lt ne = rw (elsewhere k ne)
      (lost_between (has_bit online (first + k)) at len sum (slice_index_or places k nowhere) (old (first + k)) (old (first + k)) (mid (first + k)) (new (first + k))
      (stays (old (first + k))) (so_far.each k lt) (left_alone first i n m l old mid new before only k ne))

  pub lost_next : copy ≢ Good → AreLost online first (i + 1) at len sum (slice_set places i place) old new
  lost_next bad = record {
    each = λ k lt. elim (cases_eq k i) [
      | inl same ↦ subst (λ (x : ℕ). WasLost (has_bit online (first + x)) at len sum (slice_index_or (slice_set places i place) x nowhere) (old (first + x)) (new (first + x)))
          (sym same) (rw here (copy, bad, this))
      | inr ne ↦ earlier k (omega (arith, lt, ne)) ne
    ];
    nowhere_else = λ k le. elsewhere k (λ same. omega (arith, le, same)) ∙ so_far.nowhere_else k (omega (arith, le));
  }

  pub found_here : (width : ℕ) → i < width → copy ≡ Good → IsFound online first width at len sum (slice_set places i place) old new
  found_here width lt good = record {
    copy = i;
    there = lt;
    good = rw here (subst (λ (c : CopyResult). WasRead (has_bit online (first + i)) c at len sum place (old (first + i)) (new (first + i))) good this);
    before = λ k below. earlier k below (λ same. omega (arith, below, same));
    untried = λ k above. stays_on (old (first + k)) (mid (first + k)) (new (first + k)) (before.others (first + k) (λ j below same. omega (arith, below, above, same)))
        (left_alone first i n m l old mid new before only k (λ same. omega (arith, above, same)));
    nowhere_else = λ k above. elsewhere k (λ same. omega (arith, above, same)) ∙ so_far.nowhere_else k (omega (arith, above));
  }
