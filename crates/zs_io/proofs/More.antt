-- What one call more does to the bytes as they read, and to what a crash may leave.
use Rattle.std.proofs.Common.{◌≡◌, inl, inr, ℕ, ◌+◌, ◌≤◌, List, [], ◌∷◌, ◌++◌, length, take, sym, ◌∙◌, ap, subst, arith, length-append, length-take}
use Rattle.std.proofs.lemmas.List.{take_all, take-append-le}
use Rattle.std.proofs.lemmas.Bool.{cases_lt}
use Rattle.zs_io.specs.Told.{Torn, over}
use Rattle.zs_io.specs.Crash.{Follows, NoMore, Only, Elapses}
use Rattle.zs_io.specs.Calls.{overlaid, after_call, left_after, Kept, bytes_of, images_of, images_since, with_call}
use Rattle.zs_io.specs.CallLaws.{after_calls-push, left_after-push, overlaid_torn, overlaid_over, bytes_of_left, length-bytes_of}
use Rattle.zs_io.specs.declared.disk.Call.{Call}
use Rattle.zs_io.specs.declared.disk.Call.TheVariants.{Looked, Wrote, Synced}

module _ (kept : Kept) where
  pub bytes_of-push : (e : Call) → bytes_of (with_call kept e) ≡ after_call e (bytes_of kept)
  unfolding bytes_of
  bytes_of-push e = after_calls-push kept.calls e kept.first

  pub time_goes_on : (e : Call) → Elapses (length kept.calls) (length (kept.calls ++ e ∷ [])) (images_since kept) (images_since (with_call kept e)) (images_of (with_call kept e))
  unfolding images_of images_since
  time_goes_on e =
      let could : List ℕ → Type 0 = λ d. d ≡ kept.first in
      let long = length-append kept.calls (e ∷ []) in
      record {
        later = omega (arith, long);
        nothing_else = λ t c le since.
            let P : List Call → Type 0 = λ l. left_after l kept.first could c in
            elim (cases_lt (length kept.calls) since.0) [
              | inl beyond ↦ inr (subst P (take_all since.0 (kept.calls ++ e ∷ []) (omega (arith, long, beyond))) since.3)
              | inr within ↦ inl (since.0, since.1, within, subst P (take-append-le since.0 kept.calls (e ∷ []) within) since.3)
            ];
        keeps = λ t c le since.
            let P : List Call → Type 0 = λ l. left_after l kept.first could c in
            (since.0, since.1, omega (arith, long, since.2), subst P (sym (take-append-le since.0 kept.calls (e ∷ []) since.2)) since.3);
      }

  pub after_look : NoMore (images_of kept) (images_of (with_call kept Looked))
  unfolding images_of
  after_look c left = left_after-push kept.calls Looked kept.first (λ d. d ≡ kept.first) c left

  pub after_write : (at : ℕ) (bytes : List ℕ) (many : ℕ) → Follows (Torn at bytes) (images_of kept) (images_of (with_call kept (Wrote at bytes many)))
  unfolding images_of
  after_write at bytes many c left = left_after-push kept.calls (Wrote at bytes many) kept.first (λ d. d ≡ kept.first) c left

  pub after_sync : Only (bytes_of kept) (images_of (with_call kept Synced))
  unfolding images_of bytes_of
  after_sync c left = left_after-push kept.calls Synced kept.first (λ d. d ≡ kept.first) c left

  pub after_sync_no_more : NoMore (images_of kept) (images_of (with_call kept Synced))
  after_sync_no_more c left = subst (images_of kept) (sym (after_sync c left)) (bytes_of_left kept)

-- no call, no time
pub time_stays : (kept : Kept) → Elapses (length kept.calls) (length kept.calls) (images_since kept) (images_since kept) (images_of kept)
time_stays kept = record { later = omega arith; nothing_else = λ t c le since. inl since; keeps = λ t c le past. past }

abbrev pub kept_of : List ℕ → List Call → Kept
kept_of first calls = record { first = first; calls = calls }

-- a call was pushed to the list
pub pushed : (first : List ℕ) (calls calls' : List Call) (e : Call) (old : Kept) → calls' ≡ calls ++ e ∷ [] → kept_of first calls ≡ old → kept_of first calls' ≡ with_call old e
pushed first calls calls' e old is was = ap (λ (l : List Call). kept_of first l) is ∙ ap (λ (k : Kept). with_call k e) was

module _ (old new : Kept) (e : Call) (is : new ≡ with_call old e) where
  pub bytes_after : bytes_of new ≡ after_call e (bytes_of old)
  bytes_after = ap bytes_of is ∙ bytes_of-push old e

  pub time_after : Elapses (length old.calls) (length new.calls) (images_since old) (images_since new) (images_of new)
  time_after = subst (λ (k : Kept). Elapses (length old.calls) (length k.calls) (images_since old) (images_since k) (images_of k)) (sym is) (time_goes_on old e)

pub looked : (old new : Kept) → new ≡ with_call old Looked → NoMore (images_of old) (images_of new)
looked old new is = subst (λ (k : Kept). NoMore (images_of old) (images_of k)) (sym is) (after_look old)

pub synced : (old new : Kept) → new ≡ with_call old Synced → NoMore (images_of old) (images_of new)
synced old new is = subst (λ (k : Kept). NoMore (images_of old) (images_of k)) (sym is) (after_sync_no_more old)

pub synced_only : (old new : Kept) → new ≡ with_call old Synced → Only (bytes_of old) (images_of new)
synced_only old new is = subst (λ (k : Kept). Only (bytes_of old) (images_of k)) (sym is) (after_sync old)

module _ (old new : Kept) (at : ℕ) (bytes : List ℕ) (many : ℕ) (is : new ≡ with_call old (Wrote at bytes many)) where
  pub wrote : Follows (Torn at bytes) (images_of old) (images_of new)
  wrote = subst (λ (k : Kept). Follows (Torn at bytes) (images_of old) (images_of k)) (sym is) (after_write old at bytes many)

  pub wrote_torn : Torn at bytes (bytes_of old) (bytes_of new)
  wrote_torn = subst (λ (l : List ℕ). Torn at bytes (bytes_of old) l) (sym (bytes_after old new (Wrote at bytes many) is)) (overlaid_torn at bytes many (bytes_of old))

  pub wrote_whole : at + length bytes ≤ length old.first → many ≡ length bytes → bytes_of new ≡ over at bytes (bytes_of old)
  wrote_whole fits whole =
      bytes_after old new (Wrote at bytes many) is
      ∙ ap (λ (l : List ℕ). overlaid at l (bytes_of old)) (take_all many bytes (omega arith))
      ∙ overlaid_over at bytes (bytes_of old) (omega (arith, fits, length-bytes_of old))

  pub wrote_part : at + length bytes ≤ length old.first → bytes_of new ≡ over at (take many bytes) (bytes_of old)
  wrote_part fits =
      bytes_after old new (Wrote at bytes many) is
      ∙ overlaid_over at (take many bytes) (bytes_of old) (omega (arith, fits, length-bytes_of old, length-take many bytes))
