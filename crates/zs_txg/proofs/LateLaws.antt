-- What is late, put over the map one by one.
use Rattle.std.proofs.Common.{◌≡◌, ◌∙◌, ap, refl, ℕ, ◌+◌, ◌<◌, List, [], ◌∷◌, ◌++◌, length, take, get_or, true, cond, ◌&&◌, Option, Some, None, find, filter, slice_get, sym}
use Rattle.std.specs.Ordering.{is_le, is_lt}
use Rattle.std.specs.declared.cmp.Ordering.{Ordering}
use Rattle.std.specs.declared.cmp.Ordering.TheVariants.{Less, Equal, Greater}
use Rattle.std.proofs.lemmas.List.{take_more}
use Rattle.std.specs.BTreeMap.{is_at}
use Rattle.zs_txg.specs.declared.staged.Staging.{Staging}
use Rattle.zs_txg.specs.Txg.{Slot, slot_cmp, put_staged, staged_at, is_after, first_after}
use Rattle.zs_txg.specs.Late.{with_late, nearer}
use Rattle.zs_txg.proofs.Entries.{lookup-insert_entry, find-insert_entry}
use Rattle.zs_txg.proofs.Slots.{slot_total, same_slot, after_up}

pub late_push : (es late : List (Slot × Staging)) (k : Slot) (v : Staging) → with_late es (late ++ (k, v) ∷ []) ≡ put_staged (with_late es late) k v
late_push es [] k v = refl
late_push es (e ∷ late) k v = late_push (put_staged es e.0 e.1) late k v

late_more : (es late : List (Slot × Staging)) (i : ℕ) (d : Slot × Staging) → i < length late → with_late es (take (i + 1) late) ≡ put_staged (with_late es (take i late)) (get_or late i d).0 (get_or late i d).1
late_more es late i d lt = ap (λ l. with_late es l) (take_more late i d lt) ∙ late_push es (take i late) (get_or late i d).0 (get_or late i d).1

pub late_at : (es late : List (Slot × Staging)) (i : ℕ) (d : Slot × Staging) (q : Slot) → i < length late → staged_at (with_late es (take (i + 1) late)) q ≡ cond (is_at (slot_cmp q) (get_or late i d).0) (Some (get_or late i d).1) (staged_at (with_late es (take i late)) q)
late_at es late i d q lt = ap (λ l. staged_at l q) (late_more es late i d lt) ∙ lookup-insert_entry slot_total (get_or late i d).0 (get_or late i d).1 q (with_late es (take i late))

pub late_first : (es late : List (Slot × Staging)) (i : ℕ) (d : Slot × Staging) (after : Option Slot) → i < length late → first_after (with_late es (take (i + 1) late)) after ≡ cond (is_after after (get_or late i d).0) (nearer slot_cmp (get_or late i d).0 (get_or late i d).1 (first_after (with_late es (take i late)) after)) (first_after (with_late es (take i late)) after)
late_first es late i d after lt =
    ap (λ l. first_after l after) (late_more es late i d lt)
    ∙ find-insert_entry slot_total (get_or late i d).0 (get_or late i d).1 same_slot (is_after after) (after_up after) (with_late es (take i late))

-- a search above a slot, among the entries from the slot on
above_case : (slot : Slot) (e : Slot × Staging) (es f : List (Slot × Staging)) (r : Ordering) → slot_cmp slot e.0 ≡ r → find (λ x. is_lt (slot_cmp slot x.0)) f ≡ first_after es (Some slot) → find (λ x. is_lt (slot_cmp slot x.0)) (cond (is_le r && true) (e ∷ f) f) ≡ cond (is_lt r) (Some e) (first_after es (Some slot))
above_case slot e es f Less h ih = ap (λ r. cond (is_lt r) (Some e) (find (λ x. is_lt (slot_cmp slot x.0)) f)) h
above_case slot e es f Equal h ih = ap (λ r. cond (is_lt r) (Some e) (find (λ x. is_lt (slot_cmp slot x.0)) f)) h ∙ ih
above_case slot e es f Greater h ih = ih

pub above_is : (es : List (Slot × Staging)) (slot : Slot) → find (λ e. is_lt (slot_cmp slot e.0)) (filter (λ e. is_le (slot_cmp slot e.0) && true) es) ≡ first_after es (Some slot)
above_is [] slot = refl
above_is (e ∷ es) slot = above_case slot e es (filter (λ x. is_le (slot_cmp slot x.0) && true) es) (slot_cmp slot e.0) refl (above_is es slot)

pub lowest_is : (es : List (Slot × Staging)) (e : Slot × Staging) → slice_get es 0 ≡ Some e → Some e ≡ first_after es None
lowest_is [] e h = sym h
lowest_is (x ∷ es) e h = sym h
