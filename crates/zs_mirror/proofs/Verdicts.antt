-- What reading all copies and repairing them comes to.
use Rattle.std.proofs.Common.{◌≡◌, ◌≢◌, ℕ, zero, suc, ◌+◌, ◌<◌, ◌≤◌, inl, inr, Bool, true, false, List, [], ◌∷◌, length, slice_index_or, refl, sym, ◌∙◌, ap, subst}
use Rattle.std.proofs.lemmas.Bool.{cases_lt}
use Rattle.std.specs.List.{list_any}
use Rattle.zs_sum.specs.Sum.{sha256}
use Rattle.zs_lane.specs.declared.mark.Mark.{Mark}
use Rattle.zs_lane.specs.declared.mark.Mark.TheVariants.{Read, Wrote, Synced, Failed}
use Rattle.zs_lane.specs.Children.{DeviceView, Stays}
use Rattle.zs_ledger.specs.declared.entry.CopyResult.{CopyResult}
use Rattle.zs_ledger.specs.declared.entry.CopyResult.TheVariants.{Missing, Good, Rewritten, Bad, Fault, Absent}
use Rattle.zs_mirror.specs.Mirror.{nowhere, has_bit, Change, Went}
use Rattle.zs_mirror.specs.Mirror.Change.{Kept, Put, Opened}
use Rattle.zs_mirror.specs.Calls.{HasReadOther, WasRead, WasChecked, AreChecked}
use Rattle.zs_mirror.specs.Steps.{AreRead, WasRewritten, WasRepaired, AreRepaired, is_good}
use Rattle.zs_mirror.proofs.Devices.{stays, went_twice}
use Rattle.zs_mirror.proofs.ReadCopies.{read_between}

-- a list of letters that has a good one
pub some_good : (letters : List CopyResult) → list_any is_good letters ≡ true → (j : ℕ) × (slice_index_or letters j Missing ≡ Good)
some_good [] is = absurd cc
some_good (Good ∷ letters) is = (0, refl)
some_good (Missing ∷ letters) is = let next = some_good letters is in (suc next.0, next.1)
some_good (Rewritten ∷ letters) is = let next = some_good letters is in (suc next.0, next.1)
some_good (Bad ∷ letters) is = let next = some_good letters is in (suc next.0, next.1)
some_good (Fault ∷ letters) is = let next = some_good letters is in (suc next.0, next.1)
some_good (Absent ∷ letters) is = let next = some_good letters is in (suc next.0, next.1)

good_is : (c : CopyResult) → c ≡ Good → is_good c ≡ true
good_is c is = ap is_good is

pub no_good : (letters : List CopyResult) → list_any is_good letters ≡ false → (k : ℕ) → slice_index_or letters k Missing ≢ Good
no_good [] none k is = absurd cc
no_good (Good ∷ letters) none k is = absurd cc
no_good (Missing ∷ letters) none zero is = absurd cc
no_good (Missing ∷ letters) none (suc k) is = no_good letters none k is
no_good (Rewritten ∷ letters) none zero is = absurd cc
no_good (Rewritten ∷ letters) none (suc k) is = no_good letters none k is
no_good (Bad ∷ letters) none zero is = absurd cc
no_good (Bad ∷ letters) none (suc k) is = no_good letters none k is
no_good (Fault ∷ letters) none zero is = absurd cc
no_good (Fault ∷ letters) none (suc k) is = no_good letters none k is
no_good (Absent ∷ letters) none zero is = absurd cc
no_good (Absent ∷ letters) none (suc k) is = no_good letters none k is

-- a copy that was read is checked as it is
checked_read : (online : Bool) (copy : CopyResult) (at len : ℕ) (sum good : List ℕ) (place : ℕ) (a b : DeviceView) → WasRead online copy at len sum place a b
    → WasChecked online copy at len sum good place a b
checked_read true Good at len sum good place a b was = was
checked_read true Bad at len sum good place a b was = was
checked_read true Fault at len sum good place a b was = inl was
checked_read false Absent at len sum good place a b was = was
checked_read true Missing at len sum good place a b was = absurd was
checked_read true Rewritten at len sum good place a b was = absurd was
checked_read true Absent at len sum good place a b was = absurd was
checked_read false Missing at len sum good place a b was = absurd was
checked_read false Good at len sum good place a b was = absurd was
checked_read false Rewritten at len sum good place a b was = absurd was
checked_read false Bad at len sum good place a b was = absurd was
checked_read false Fault at len sum good place a b was = absurd was

read_then : (at len : ℕ) (sum : List ℕ) (change : Change) (more : List Mark) (failed : Bool) (place last : ℕ) (a b c : DeviceView)
    → HasReadOther at len sum Kept [] false place a b → Went change more failed last b c → HasReadOther at len sum change more failed last a c
read_then at len sum change more failed place last a b c was went = record {
  read = was.read;
  differs = was.differs;
  bytes = was.bytes;
  went = went_twice change (Read at len was.read ∷ []) more failed place last a b c was.went went;
}

same_checked : (online : Bool) (before copy : CopyResult) (at len : ℕ) (sum good : List ℕ) (was_at place : ℕ) (a b c : DeviceView) → WasRead online before at len sum was_at a b
    → (copy ≡ before) × (place ≡ was_at) × Stays b c → WasChecked online copy at len sum good place a c
same_checked online before copy at len sum good was_at place a b c was same = rw (same.0, same.1)
    (checked_read online before at len sum good was_at a c (read_between online before at len sum was_at a a b c (stays a) was same.2))

rewritten_checked : (online : Bool) (copy : CopyResult) (at len : ℕ) (sum good : List ℕ) (was_at place : ℕ) (a b c : DeviceView) → sha256 good ≡ sum
    → WasRead online Bad at len sum was_at a b → WasRewritten copy place at len sum good b c → WasChecked online copy at len sum good place a c
rewritten_checked true Rewritten at len sum good was_at place a b c is was done =
    (is, read_then at len sum (Put at good) (Wrote at len sum ∷ Synced ∷ []) false was_at place a b c was done.0, done.1)
rewritten_checked true Fault at len sum good was_at place a b c is was done = elim done [
  | inl write ↦ inr (is, inl (read_then at len sum (Opened at good) (Failed ∷ []) true was_at place a b c was write))
  | inr sync ↦ inr (is, inr (read_then at len sum (Put at good) (Wrote at len sum ∷ Failed ∷ []) true was_at place a b c was sync))
]
rewritten_checked true Missing at len sum good was_at place a b c is was done = absurd done
rewritten_checked true Good at len sum good was_at place a b c is was done = absurd done
rewritten_checked true Bad at len sum good was_at place a b c is was done = absurd done
rewritten_checked true Absent at len sum good was_at place a b c is was done = absurd done
rewritten_checked false copy at len sum good was_at place a b c is was done = absurd was

repaired_checked : (online : Bool) (before copy : CopyResult) (at len : ℕ) (sum good : List ℕ) (was_at place : ℕ) (a b c : DeviceView) → sha256 good ≡ sum
    → WasRead online before at len sum was_at a b → WasRepaired before was_at copy place at len sum good b c → WasChecked online copy at len sum good place a c
repaired_checked online Bad copy at len sum good was_at place a b c is was done = rewritten_checked online copy at len sum good was_at place a b c is was done
repaired_checked online Missing copy at len sum good was_at place a b c is was done = same_checked online Missing copy at len sum good was_at place a b c was done
repaired_checked online Good copy at len sum good was_at place a b c is was done = same_checked online Good copy at len sum good was_at place a b c was done
repaired_checked online Rewritten copy at len sum good was_at place a b c is was done = same_checked online Rewritten copy at len sum good was_at place a b c was done
repaired_checked online Fault copy at len sum good was_at place a b c is was done = same_checked online Fault copy at len sum good was_at place a b c was done
repaired_checked online Absent copy at len sum good was_at place a b c is was done = same_checked online Absent copy at len sum good was_at place a b c was done

-- a copy that was checked is there
not_missing : (online : Bool) (copy : CopyResult) (at len : ℕ) (sum good : List ℕ) (place : ℕ) (a b : DeviceView) → WasChecked online copy at len sum good place a b → copy ≢ Missing
not_missing true Missing at len sum good place a b was is = absurd was
not_missing false Missing at len sum good place a b was is = absurd was
not_missing online Good at len sum good place a b was is = absurd cc
not_missing online Rewritten at len sum good place a b was is = absurd cc
not_missing online Bad at len sum good place a b was is = absurd cc
not_missing online Fault at len sum good place a b was is = absurd cc
not_missing online Absent at len sum good place a b was is = absurd cc

-- a read does not rewrite, and a repair leaves no copy bad
read_only : (online : Bool) (at len : ℕ) (sum : List ℕ) (place : ℕ) (a b : DeviceView) → WasRead online Rewritten at len sum place a b → ⊥
read_only true at len sum place a b was = absurd was
read_only false at len sum place a b was = absurd was

repair_ends : (before : CopyResult) (was_at place at len : ℕ) (sum good : List ℕ) (a b : DeviceView) → WasRepaired before was_at Bad place at len sum good a b → ⊥
repair_ends Bad was_at place at len sum good a b was = absurd was
repair_ends Missing was_at place at len sum good a b was = unlike was.0
  where
    unlike : Bad ≡ Missing → ⊥
    unlike e = cc
repair_ends Good was_at place at len sum good a b was = unlike was.0
  where
    unlike : Bad ≡ Good → ⊥
    unlike e = cc
repair_ends Rewritten was_at place at len sum good a b was = unlike was.0
  where
    unlike : Bad ≡ Rewritten → ⊥
    unlike e = cc
repair_ends Fault was_at place at len sum good a b was = unlike was.0
  where
    unlike : Bad ≡ Fault → ⊥
    unlike e = cc
repair_ends Absent was_at place at len sum good a b was = unlike was.0
  where
    unlike : Bad ≡ Absent → ⊥
    unlike e = cc

-- a good copy stays good
good_stays : (before : CopyResult) (was_at : ℕ) (copy : CopyResult) (place at len : ℕ) (sum good : List ℕ) (a b : DeviceView) → before ≡ Good
    → WasRepaired before was_at copy place at len sum good a b → copy ≡ Good
good_stays Good was_at copy place at len sum good a b is was = was.0
good_stays Missing was_at copy place at len sum good a b is was = was.0 ∙ is
good_stays Rewritten was_at copy place at len sum good a b is was = was.0 ∙ is
good_stays Fault was_at copy place at len sum good a b is was = was.0 ∙ is
good_stays Absent was_at copy place at len sum good a b is was = was.0 ∙ is
good_stays Bad was_at copy place at len sum good a b is was = absurd (unlike is)
  where
    unlike : Bad ≡ Good → ⊥
    unlike e = cc

-- a letter that is not `Missing` is that of a copy
there_at : (letters : List CopyResult) (width k : ℕ) (c : CopyResult) → ((j : ℕ) → width ≤ j → slice_index_or letters j Missing ≡ Missing) → (Missing ≡ c → ⊥)
    → slice_index_or letters k Missing ≡ c → k < width
there_at letters width k c missing differs is = elim (cases_lt k width) [
  | inl lt ↦ lt
  | inr past ↦ absurd (differs (sym (missing k past) ∙ is))
]

missing_good : Missing ≡ Good → ⊥
missing_good e = cc

missing_bad : Missing ≡ Bad → ⊥
missing_bad e = cc

missing_rewritten : Missing ≡ Rewritten → ⊥
missing_rewritten e = cc

module _ (online first width at len : ℕ) (sum good : List ℕ) (letters : List CopyResult) (marks : List ℕ) (old mid : ℕ → DeviceView) (long : length good ≡ len)
    (read : AreRead online first width at len sum good letters marks old mid) where
  -- no copy is good, and none is rewritten
  pub checked_only : length letters ≡ 4 → list_any is_good letters ≡ false → AreChecked online first width at len sum letters marks old mid
  checked_only four none = record {
    good = good;
    long = long;
    each = λ k lt. checked_read (has_bit online (first + k)) (slice_index_or letters k Missing) at len sum good (slice_index_or marks k nowhere) (old (first + k)) (mid (first + k)) (read.each k lt);
    copies = record {
      four = four;
      there = λ k lt. not_missing (has_bit online (first + k)) (slice_index_or letters k Missing) at len sum good (slice_index_or marks k nowhere) (old (first + k)) (mid (first + k))
          (checked_read (has_bit online (first + k)) (slice_index_or letters k Missing) at len sum good (slice_index_or marks k nowhere) (old (first + k)) (mid (first + k)) (read.each k lt));
      missing = read.missing_else;
    };
    nowhere_else = read.nowhere_else;
    beside = λ k is. absurd (read_only (has_bit online (first + k)) at len sum (slice_index_or marks k nowhere) (old (first + k)) (mid (first + k))
        (subst (λ (c : CopyResult). WasRead (has_bit online (first + k)) c at len sum (slice_index_or marks k nowhere) (old (first + k)) (mid (first + k))) is
        (read.each k (there_at letters width k Rewritten read.missing_else missing_rewritten is))));
    alone = λ j k is bad. absurd (no_good letters none j is);
  }

  pub good_sum : list_any is_good letters ≡ true → sha256 good ≡ sum
  good_sum some = let one = some_good letters some in read.sum_is one.0 one.1

  module _ (letters' : List CopyResult) (marks' : List ℕ) (new : ℕ → DeviceView) (four : length letters' ≡ 4) (some : list_any is_good letters ≡ true)
      (repaired : AreRepaired first width at len sum good letters marks letters' marks' mid new) where
    abbrev one : (j : ℕ) × (slice_index_or letters j Missing ≡ Good)
    one = some_good letters some

    Each : ℕ → Type 0
    Each k = WasChecked (has_bit online (first + k)) (slice_index_or letters' k Missing) at len sum good (slice_index_or marks' k nowhere) (old (first + k)) (new (first + k))

    each_one : (k : ℕ) → k < width → Each k
    unfolding Each
    each_one k lt = repaired_checked (has_bit online (first + k)) (slice_index_or letters k Missing) (slice_index_or letters' k Missing) at len sum good
        (slice_index_or marks k nowhere) (slice_index_or marks' k nowhere) (old (first + k)) (mid (first + k)) (new (first + k)) (good_sum some) (read.each k lt) (repaired.each k lt)

    missing_else : (k : ℕ) → width ≤ k → slice_index_or letters' k Missing ≡ Missing
    missing_else k le = repaired.same_letters k le ∙ read.missing_else k le

    one_there : one.0 < width
    one_there = there_at letters width one.0 Good read.missing_else missing_good one.1

    pub checked_repaired : AreChecked online first width at len sum letters' marks' old new
    unfolding Each
    checked_repaired = record {
      good = good;
      long = long;
      each = each_one;
      copies = record {
        four = four;
        there = λ k lt. not_missing (has_bit online (first + k)) (slice_index_or letters' k Missing) at len sum good (slice_index_or marks' k nowhere) (old (first + k)) (new (first + k)) (each_one k lt);
        missing = missing_else;
      };
      nowhere_else = λ k le. repaired.same_marks k le ∙ read.nowhere_else k le;
      beside = λ k is. (
        one.0,
        one_there,
        good_stays (slice_index_or letters one.0 Missing) (slice_index_or marks one.0 nowhere) (slice_index_or letters' one.0 Missing)
            (slice_index_or marks' one.0 nowhere) at len sum good (mid (first + one.0)) (new (first + one.0)) one.1 (repaired.each one.0 one_there),
      );
      alone = λ j k is bad. repair_ends (slice_index_or letters k Missing) (slice_index_or marks k nowhere) (slice_index_or marks' k nowhere) at len sum good (mid (first + k)) (new (first + k))
          (subst (λ (c : CopyResult). WasRepaired (slice_index_or letters k Missing) (slice_index_or marks k nowhere) c (slice_index_or marks' k nowhere) at len sum good (mid (first + k)) (new (first + k)))
          bad (repaired.each k (there_at letters' width k Bad missing_else missing_bad bad)));
    }
