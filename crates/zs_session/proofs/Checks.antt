-- Checks of items one after another.
use Rattle.std.proofs.Common.{◌≡◌, ℕ, ◌<◌, ◌+◌, Bool, true, false, List, [], ◌∷◌, ◌++◌, length, take, get_or, refl, sym, subst, inl, inr}
use Rattle.std.specs.Prelude.{slice_index_or}
use Rattle.std.proofs.lemmas.List.{take_more}
use Rattle.zs_ids.specs.declared.block.Item.{Item}
use Rattle.zs_lane.specs.declared.mark.Mark.{Mark}
use Rattle.zs_lane.specs.declared.mark.Mark.TheVariants.{Read}
use Rattle.zs_lane.specs.Children.{DeviceView}
use Rattle.zs_ledger.specs.declared.entry.Entry.{Entry}
use Rattle.zs_ledger.specs.declared.entry.CopyResult.{CopyResult}
use Rattle.zs_ledger.specs.declared.entry.CopyResult.TheVariants.{Missing, Good, Rewritten, Bad, Fault, Absent}
use Rattle.zs_ledger.specs.Entry.{AreCopies, HaveCopies}
use Rattle.zs_mirror.specs.Calls.{HasReadOther, WasChecked, IsChecked, IsEntryOf}
use Rattle.zs_mirror.specs.Mirror.{Change, Went, Leaves, first_of, start_of, size_of, has_bit}
use Rattle.zs_scan.specs.Steps.{AreOf}
use Rattle.zs_session.specs.Devices.{Journals, journals, LiesOn, LieOn, SetGoesOn}
use Rattle.zs_session.specs.Plays.{GainsTo, GainsOther, ChecksCopy, ChecksItem, AreChecks}
use Rattle.zs_session.proofs.Members.{has_at}
use Rattle.zs_session.proofs.OnMirror.{has_sectors}
use Rattle.zs_session.proofs.Rooms.{lies_still}

-- the marks of calls on a copy are those of its device's journal
gained : (change : Change) (marks : List Mark) (failed : Bool) (place : ℕ) (old new : DeviceView) → Went change marks failed place old new → GainsTo marks place old.journal new.journal
gained change marks failed place old new went = record { gains = went.journal; last = went.last }

gained_other : (at len : ℕ) (sum : List ℕ) (change : Change) (more : List Mark) (failed : Bool) (place : ℕ) (old new : DeviceView)
    → HasReadOther at len sum change more failed place old new → GainsOther at len sum more place old.journal new.journal
gained_other at len sum change more failed place old new has = (has.read, has.differs, gained change (Read at len has.read ∷ more) failed place old new has.went)

-- what was checked of a copy is what its device's journal tells
pub checks_copy : (online : Bool) (copy : CopyResult) (at len : ℕ) (sum good : List ℕ) (place : ℕ) (old new : DeviceView)
    → WasChecked online copy at len sum good place old new → ChecksCopy online copy at len sum place old.journal new.journal
checks_copy true Good at len sum good place old new was = gained _ _ _ place old new was.went
checks_copy true Bad at len sum good place old new was = gained_other at len sum _ _ _ place old new was
checks_copy true Rewritten at len sum good place old new was = gained_other at len sum _ _ _ place old new was.1
checks_copy true Fault at len sum good place old new was = elim was [
  | inl read ↦ inl (gained _ _ _ place old new read)
  | inr late ↦ inr (elim late.1 [
    | inl write ↦ inl (gained_other at len sum _ _ _ place old new write)
    | inr sync ↦ inr (gained_other at len sum _ _ _ place old new sync)
  ])
]
checks_copy true Missing at len sum good place old new was = absurd was
checks_copy true Absent at len sum good place old new was = absurd was
checks_copy false Absent at len sum good place old new was = (was.place_is, was.stays.journal)
checks_copy false Good at len sum good place old new was = absurd was
checks_copy false Bad at len sum good place old new was = absurd was
checks_copy false Rewritten at len sum good place old new was = absurd was
checks_copy false Fault at len sum good place old new was = absurd was
checks_copy false Missing at len sum good place old new was = absurd was

-- the check of an item is one that its entry tells
pub checks_item : (width online n m : ℕ) (item : Item) (entry : Entry) (old new : ℕ → DeviceView) → IsEntryOf item entry → IsChecked online width item entry old new
    → Leaves (first_of item.piece.place.vdev width) width n m old new → LiesOn n width item old → ChecksItem width online item entry (journals old) (journals new)
checks_item width online n m item entry old new of_item checked leaves lies = record {
  of_item = of_item;
  mirror = lies.first;
  not_empty = has_sectors n width item.piece.place (size_of item) item.sectors old lies.lies refl;
  each = λ k lt. checks_copy (has_bit online (first_of item.piece.place.vdev width + k)) (slice_index_or entry.copies k Missing) (start_of item.piece.place) (size_of item) item.sum
      checked.good (slice_index_or entry.marks k _) (old (first_of item.piece.place.vdev width + k)) (new (first_of item.piece.place.vdev width + k)) (checked.each k lt);
  others = λ dev other. (leaves.others dev other).journal;
  copies_are = checked.copies;
  nowhere_else = checked.nowhere_else;
  beside = checked.beside;
  alone = checked.alone;
}

-- checks of items, and one more
checks_push : (width online : ℕ) (is : List Item) (es : List Entry) (i : Item) (e : Entry) (old mid new : Journals) → AreChecks width online is old es mid
    → ChecksItem width online i e mid new → AreChecks width online (is ++ i ∷ []) old (es ++ e ∷ []) new
checks_push width online [] [] i e old mid new are checked = (new, subst (λ (c : Journals). ChecksItem width online i e c new) are checked, refl)
checks_push width online [] (x ∷ es) i e old mid new are checked = absurd are
checks_push width online (x ∷ xs) [] i e old mid new are checked = absurd are
checks_push width online (x ∷ xs) (y ∷ ys) i e old mid new are checked = (are.0, are.1, checks_push width online xs ys i e are.0 mid new are.2 checked)

-- the checks of the first items, and that of the next
pub checks_more : (width online : ℕ) (items : List Item) (k : ℕ) (d : Item) (entries more : List Entry) (e : Entry) (old mid new : Journals)
    → k < length items → AreChecks width online (take k items) old entries mid → ChecksItem width online (get_or items k d) e mid new → more ≡ entries ++ e ∷ []
    → AreChecks width online (take (k + 1) items) old more new
checks_more width online items k d entries more e old mid new below are checked added =
    let x : Item = get_or items k d in
    let all : AreChecks width online (take k items ++ x ∷ []) old (entries ++ e ∷ []) new = checks_push width online (take k items) entries x e old mid new are checked in
    subst (λ (es : List Entry). AreChecks width online (take (k + 1) items) old es new) (sym added)
    (subst (λ (is : List Item). AreChecks width online is old (entries ++ e ∷ []) new) (sym (take_more items k d below)) all)

-- entries that have the copies of the mirror, and one more
pub copies_more : (width : ℕ) (entries more : List Entry) (e : Entry) → HaveCopies width entries → AreCopies width e.copies → more ≡ entries ++ e ∷ [] → HaveCopies width more
copies_more width entries more e have copies added = subst (λ (es : List Entry). HaveCopies width es) (sym added) (go entries have)
  where
    go : (es : List Entry) → HaveCopies width es → HaveCopies width (es ++ e ∷ [])
    go [] had x (inl is) = subst (λ (y : Entry). AreCopies width y.copies) is copies
    go [] had x (inr none) = absurd none
    go (y ∷ ys) had x (inl is) = had x (inl is)
    go (y ∷ ys) had x (inr later) = go ys (λ z here. had z (inr here)) x later

-- the entries are of the items
pub are_of : (width online : ℕ) (items : List Item) (entries : List Entry) (old new : Journals) → AreChecks width online items old entries new → AreOf items entries
are_of width online [] [] old new are = tt
are_of width online [] (e ∷ es) old new are = absurd are
are_of width online (i ∷ is) [] old new are = absurd are
are_of width online (i ∷ is) (e ∷ es) old new are = (are.1.of_item.piece, are.1.of_item.sectors, are.1.of_item.sum, are_of width online is es are.0 new are.2)

-- the same checks of the same lists
pub same_checks : (width online : ℕ) (items is : List Item) (entries es : List Entry) (old new : Journals) → is ≡ items → es ≡ entries → AreChecks width online is old entries new
    → AreChecks width online items old es new
same_checks width online items is entries es old new same_items same_entries checks =
    subst (λ (xs : List Entry). AreChecks width online items old xs new) (sym same_entries) (subst (λ (xs : List Item). AreChecks width online xs old entries new) same_items checks)

-- each item of some that lie on devices lies on them, as they went on
pub lies_at : (count now width : ℕ) (items : List Item) (k : ℕ) (d : Item) (old new : ℕ → DeviceView) → k < length items → SetGoesOn count now old new → LieOn count width items old
    → LiesOn now width (get_or items k d) new
lies_at count now width items k d old new below set all = lies_still count now width (get_or items k d) old new set (all (get_or items k d) (has_at items k d below))
