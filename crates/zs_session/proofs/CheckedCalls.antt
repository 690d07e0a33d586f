-- The check of a copy, over the marks of its device: it bears its letter out, and its call stands among the new marks.
use Rattle.std.proofs.Common.{◌≡◌, ◌≢◌, inl, inr, ℕ, ◌≤◌, ◌<◌, Bool, true, false, List, [], ◌∷◌, ◌++◌, length, refl, ◌∙◌}
use Rattle.std.specs.Prelude.{Option, Some, IsSome, option_map, slice_get}
use Rattle.zs_lane.specs.declared.mark.Mark.{Mark}
use Rattle.zs_lane.specs.declared.mark.Mark.TheVariants.{Read, Wrote, Synced, Failed}
use Rattle.zs_lane.specs.Journal.Touch.{Holds}
use Rattle.zs_lane.proofs.GoingOn.{gains_none}
use Rattle.zs_ledger.specs.declared.entry.CopyResult.{CopyResult}
use Rattle.zs_ledger.specs.declared.entry.CopyResult.TheVariants as copies
use Rattle.zs_mirror.specs.Mirror.{nowhere}
use Rattle.zs_machine.specs.Matches.{last_write, IsBorneOut, WasInVain}
use Rattle.zs_session.specs.Devices.{marks_in}
use Rattle.zs_session.specs.Plays.{GainsTo, GainsOther, ChecksCopy, TriesCopy}
use Rattle.zs_session.proofs.Marking.{EndsWith, ends_with, wrote_same, synced_at}

-- the journal has some marks more
abbrev pub GainsSome : Option (List Mark) → Option (List Mark) → Type 0
GainsSome old new = (more : List Mark) × (new ≡ option_map (λ j. j ++ more) old)

-- one that is as it was has none more
pub gains_same : (old new : Option (List Mark)) → new ≡ old → GainsSome old new
gains_same old new is = ([], is ∙ gains_none old)

-- one that gains marks has some more
pub gains_to : (marks : List Mark) (place : ℕ) (old new : Option (List Mark)) → GainsTo marks place old new → GainsSome old new
gains_to marks place old new gains = (marks, gains.gains)

-- the same of one that gains the mark of a read whose bytes had another sum, and some more
gains_other : (at len : ℕ) (sum : List ℕ) (more : List Mark) (place : ℕ) (old new : Option (List Mark)) → GainsOther at len sum more place old new → GainsSome old new
gains_other at len sum more place old new gains = (Read at len gains.0 ∷ more, gains.2.gains)

-- the check of a copy only adds marks
pub checked_longer : (on : Bool) (copy : CopyResult) (at len : ℕ) (sum : List ℕ) (place : ℕ) (old new : Option (List Mark))
    → ChecksCopy on copy at len sum place old new → GainsSome old new
checked_longer true copies.Good at len sum place old new gains = gains_to (Read at len sum ∷ []) place old new gains
checked_longer true copies.Bad at len sum place old new gains = gains_other at len sum [] place old new gains
checked_longer true copies.Rewritten at len sum place old new gains = gains_other at len sum (Wrote at len sum ∷ Synced ∷ []) place old new gains
checked_longer true copies.Fault at len sum place old new (inl gains) = gains_to (Failed ∷ []) place old new gains
checked_longer true copies.Fault at len sum place old new (inr (inl gains)) = gains_other at len sum (Failed ∷ []) place old new gains
checked_longer true copies.Fault at len sum place old new (inr (inr gains)) = gains_other at len sum (Wrote at len sum ∷ Failed ∷ []) place old new gains
checked_longer false copies.Absent at len sum place old new (none, same) = gains_same old new same
checked_longer _ _ at len sum place old new h = absurd h

-- so does a read of a copy that was tried
pub tried_longer : (on : Bool) (at len : ℕ) (sum : List ℕ) (place : ℕ) (old new : Option (List Mark)) → TriesCopy on at len sum place old new → GainsSome old new
tried_longer true at len sum place old new (inl gains) = gains_to (Failed ∷ []) place old new gains
tried_longer true at len sum place old new (inr gains) = gains_other at len sum [] place old new gains
tried_longer false at len sum place old new (none, same) = gains_same old new same

-- a call that is named stands among the new marks
pub record IsNew (place : ℕ) (old new : List Mark) : Type 0 where
  pub since : length old ≤ place
  pub marked : place < length new

-- what the check of a copy shows of its device's marks
pub record IsCopyShown (on : Bool) (copy : CopyResult) (at len : ℕ) (sum : List ℕ) (place : ℕ) (old new : List Mark) : Type 0 where
  pub borne : IsBorneOut copy new place at len sum
  pub new_call : place ≢ nowhere → IsNew place old new
  pub absent : copy ≡ copies.Absent → on ≡ false
  pub offline : on ≡ false → copy ≡ copies.Absent

-- the last of the marks that came is new
is_new : (marks : List Mark) (m : Mark) (place : ℕ) (old new : List Mark) → EndsWith marks m place old new → place ≢ nowhere → IsNew place old new
is_new marks m place old new ends there = record { since = ends.since; marked = ends.marked }

-- a read and a write of a range say that it holds what was written
repaired : (at len : ℕ) (sum other : List ℕ) → 1 ≤ len → last_write at len (Read at len other ∷ Wrote at len sum ∷ []) ≡ Holds sum
repaired at len sum other some = rw (wrote_same at len sum some) refl

module _ (at len : ℕ) (sum : List ℕ) (place : ℕ) (old new : Option (List Mark)) (told : IsSome old) (some : 1 ≤ len) where
  -- a check that failed bears out that it did
  fault : (marks : List Mark) → EndsWith marks Failed place (marks_in old) (marks_in new) → IsCopyShown true copies.Fault at len sum place (marks_in old) (marks_in new)
  fault marks ends = record { borne = ends.there; new_call = is_new _ _ _ _ _ ends; absent = λ e. cc; offline = λ e. cc }

  -- the check of a copy bears its letter out
  pub copy_shown : (on : Bool) (copy : CopyResult) → ChecksCopy on copy at len sum place old new → IsCopyShown on copy at len sum place (marks_in old) (marks_in new)
  copy_shown true copies.Good gains =
      let ends : EndsWith [] (Read at len sum) place (marks_in old) (marks_in new) = ends_with [] (Read at len sum) place old new told gains in
      record { borne = ends.there; new_call = is_new _ _ _ _ _ ends; absent = λ e. cc; offline = λ e. cc }
  copy_shown true copies.Bad gains =
      let ends : EndsWith [] (Read at len gains.0) place (marks_in old) (marks_in new) = ends_with [] (Read at len gains.0) place old new told gains.2 in
      record { borne = (gains.0, gains.1, ends.there); new_call = is_new _ _ _ _ _ ends; absent = λ e. cc; offline = λ e. cc }
  copy_shown true copies.Rewritten gains =
      let marks : List Mark = Read at len gains.0 ∷ Wrote at len sum ∷ [] in
      let ends : EndsWith marks Synced place (marks_in old) (marks_in new) = ends_with marks Synced place old new told gains.2 in
      record {
        borne = synced_at at len place sum marks (marks_in old) (marks_in new) (repaired at len sum gains.0 some) ends;
        new_call = is_new _ _ _ _ _ ends;
        absent = λ e. cc;
        offline = λ e. cc;
      }
  copy_shown true copies.Fault (inl gains) = fault [] (ends_with [] Failed place old new told gains)
  copy_shown true copies.Fault (inr (inl gains)) = fault (Read at len gains.0 ∷ []) (ends_with (Read at len gains.0 ∷ []) Failed place old new told gains.2)
  copy_shown true copies.Fault (inr (inr gains)) =
      fault (Read at len gains.0 ∷ Wrote at len sum ∷ []) (ends_with (Read at len gains.0 ∷ Wrote at len sum ∷ []) Failed place old new told gains.2)
  copy_shown false copies.Absent (none, same) = record {
    borne = none;
    new_call = λ there. absurd (there none);
    absent = λ e. refl;
    offline = λ e. refl;
  }
  copy_shown _ _ h = absurd h

-- what a read of a copy that was tried in vain shows of its device's marks
pub record IsTryShown (on : Bool) (at len : ℕ) (sum : List ℕ) (place : ℕ) (old new : List Mark) : Type 0 where
  pub vain : on ≡ true → WasInVain new place at len sum
  pub new_call : place ≢ nowhere → IsNew place old new

-- it bears out that it was in vain
pub try_shown : (on : Bool) (at len : ℕ) (sum : List ℕ) (place : ℕ) (old new : Option (List Mark)) → IsSome old → TriesCopy on at len sum place old new
    → IsTryShown on at len sum place (marks_in old) (marks_in new)
try_shown true at len sum place old new told (inl gains) =
    let ends : EndsWith [] Failed place (marks_in old) (marks_in new) = ends_with [] Failed place old new told gains in
    record { vain = λ e. inl ends.there; new_call = is_new _ _ _ _ _ ends }
try_shown true at len sum place old new told (inr gains) =
    let ends : EndsWith [] (Read at len gains.0) place (marks_in old) (marks_in new) = ends_with [] (Read at len gains.0) place old new told gains.2 in
    record { vain = λ e. inr (gains.0, gains.1, ends.there); new_call = is_new _ _ _ _ _ ends }
try_shown false at len sum place old new told (none, same) = record { vain = λ e. cc; new_call = λ there. absurd (there none) }

-- a read that found the sum shows it
pub find_shown : (at len : ℕ) (sum : List ℕ) (place : ℕ) (old new : Option (List Mark)) → IsSome old → GainsTo (Read at len sum ∷ []) place old new
    → (slice_get (marks_in new) place ≡ Some (Read at len sum)) × IsNew place (marks_in old) (marks_in new)
find_shown at len sum place old new told gains =
    let ends : EndsWith [] (Read at len sum) place (marks_in old) (marks_in new) = ends_with [] (Read at len sum) place old new told gains in
    (ends.there, record { since = ends.since; marked = ends.marked })
