-- The checks of a batch's items, one after another: each entry is borne out, and the calls that entries name were made.
use Rattle.std.proofs.Common.{◌≡◌, inl, inr, ℕ, ◌+◌, ◌<◌, Bool, true, false, cond, List, [], ◌∷◌, filter, flat_map, sym, ap, subst, arith}
use Rattle.std.specs.Prelude.{IsSome, slice_index_or}
use Rattle.zs_ids.specs.declared.block.Item.{Item}
use Rattle.zs_ids.specs.declared.block.Piece.{Piece}
use Rattle.zs_ids.specs.Graph.{Has}
use Rattle.zs_ledger.specs.declared.entry.CopyResult.TheVariants as copies
use Rattle.zs_ledger.specs.declared.entry.Entry.{Entry}
use Rattle.zs_mirror.specs.Mirror.{nowhere, has_bit, first_of, start_of, size_of}
use Rattle.zs_queue.specs.Lists.{has-filter}
use Rattle.zs_machine.specs.Flight.{Flying}
use Rattle.zs_machine.specs.Matches.{Call, calls_from, IsEntryBorneOut, IsVerdictBorneOut}
use Rattle.zs_session.specs.Devices.{Journals, marks_of, AreLonger}
use Rattle.zs_session.specs.Plays.{ChecksItem, AreChecks, WasChecked}
use Rattle.zs_session.proofs.Sets.{longer_twice}
use Rattle.zs_session.proofs.Marking.{AllGrown, all_grown, all_longer}
use Rattle.zs_session.proofs.CallsMade.{AreMade, none_made, both_made, made_since}
use Rattle.zs_session.proofs.CheckedCalls.{gains_same, checked_longer, IsCopyShown, copy_shown}
use Rattle.zs_session.proofs.OnMirror.{AreTold, told_longer, on_first, longer_from, made_on}
use Rattle.zs_session.proofs.Growing.{entry_longer}

-- journals that are as they were are longer by none
pub longer_same : (old new : Journals) → new ≡ old → AreLonger old new
longer_same old new is dev = gains_same (old dev) (new dev) (ap (λ (j : Journals). j dev) is)

-- the calls that an entry names
abbrev pub entry_calls : ℕ → Entry → List Call
entry_calls width e = calls_from (first_of e.piece.place.vdev width) e.marks

module _ (width online : ℕ) (item : Item) (entry : Entry) (old new : Journals) (checks : ChecksItem width online item entry old new) where
  -- the check of an item only adds marks
  pub item_longer : AreLonger old new
  item_longer = longer_from item.piece.place.vdev width width old new checks.mirror (λ k lt. checked_longer _ _ _ _ _ _ _ _ (checks.each k lt)) checks.others

  -- what the check shows of each copy
  shown : AreTold width old → (k : ℕ) → k < width
      → IsCopyShown (has_bit online (first_of item.piece.place.vdev width + k)) (slice_index_or entry.copies k copies.Missing) (start_of item.piece.place) (size_of item)
      item.sum (slice_index_or entry.marks k nowhere) (marks_of old (first_of item.piece.place.vdev width + k)) (marks_of new (first_of item.piece.place.vdev width + k))
  shown told k lt =
      let there : IsSome (old (first_of item.piece.place.vdev width + k)) =
      subst (λ (d : ℕ). IsSome (old d)) (sym (on_first item.piece.place.vdev width k checks.mirror)) (told k lt) in
      copy_shown _ _ _ _ _ _ there (omega (arith, checks.not_empty)) _ _ (checks.each k lt)

  -- its entry is borne out
  pub item_borne : AreTold width old → IsEntryBorneOut width online (marks_of new) entry
  item_borne told = record {
    each = λ k lt. rw (checks.of_item.piece, checks.of_item.sectors, checks.of_item.sum) ((shown told k lt).borne);
    absent = λ k lt is. rw checks.of_item.piece ((shown told k lt).absent is);
    offline = λ k lt off. (shown told k lt).offline (rw checks.of_item.piece at off);
    alone = checks.alone;
    nowhere_else = checks.nowhere_else;
  }

  -- the calls that the entry names were made
  pub item_made : AreTold width old → AreMade (marks_of old) (marks_of new) (entry_calls width entry)
  item_made told = rw checks.of_item.piece (made_on (first_of item.piece.place.vdev width) width entry.marks old new (λ k lt. (shown told k lt).new_call) checks.nowhere_else)

-- checks only add marks
pub checks_longer : (width online : ℕ) (items : List Item) (old : Journals) (found : List Entry) (new : Journals) → AreChecks width online items old found new → AreLonger old new
checks_longer width online [] old [] new same = longer_same old new same
checks_longer width online (i ∷ is) old (e ∷ es) new (mid, one, rest) =
    longer_twice old mid new (item_longer width online i e old mid one) (checks_longer width online is mid es new rest)
checks_longer _ _ _ old _ new h = absurd h

-- the entry of each check is borne out
pub checks_borne : (width online : ℕ) (items : List Item) (old : Journals) (found : List Entry) (new : Journals) → AreChecks width online items old found new → AreTold width old
    → (e : Entry) → Has found e → IsEntryBorneOut width online (marks_of new) e
checks_borne width online [] old [] new same told e h = absurd h
checks_borne width online (i ∷ is) old (f ∷ es) new (mid, one, rest) told e (inl is_e) =
    subst (λ (x : Entry). IsEntryBorneOut width online (marks_of new) x) is_e
    (entry_longer width online (marks_of mid) (marks_of new) f (all_longer mid new (checks_longer width online is mid es new rest)) (item_borne width online i f old mid one told))
checks_borne width online (i ∷ is) old (f ∷ es) new (mid, one, rest) told e (inr h) =
    checks_borne width online is mid es new rest (told_longer width old mid (item_longer width online i f old mid one) told) e h
checks_borne _ _ _ old _ new h told e has = absurd h

-- the calls that some of the entries name were made
pub checks_made : (width online : ℕ) (items : List Item) (old : Journals) (found : List Entry) (new : Journals) (kept : Entry → Bool)
    → AreChecks width online items old found new → AreTold width old → AreMade (marks_of old) (marks_of new) (flat_map (entry_calls width) (filter kept found))
checks_made width online [] old [] new kept same told = none_made (marks_of old) (marks_of new)
checks_made width online (i ∷ is) old (e ∷ es) new kept (mid, one, rest) told =
    go (kept e) (checks_made width online is mid es new kept rest (told_longer width old mid longer told))
  where
    longer : AreLonger old mid
    longer = item_longer width online i e old mid one

    first : AllGrown (marks_of old) (marks_of mid)
    first = all_grown (marks_of old) (marks_of mid) (all_longer old mid longer)

    then : AllGrown (marks_of mid) (marks_of new)
    then = all_grown (marks_of mid) (marks_of new) (all_longer mid new (checks_longer width online is mid es new rest))

    go : (b : Bool) → AreMade (marks_of mid) (marks_of new) (flat_map (entry_calls width) (filter kept es))
        → AreMade (marks_of old) (marks_of new) (flat_map (entry_calls width) (cond b (e ∷ filter kept es) (filter kept es)))
    go true made = both_made (marks_of old) (marks_of mid) (marks_of new) (entry_calls width e) (flat_map (entry_calls width) (filter kept es)) first then
        (item_made width online i e old mid one told) made
    go false made = made_since (marks_of old) (marks_of mid) (marks_of new) (flat_map (entry_calls width) (filter kept es)) first made
checks_made _ _ _ old _ new kept h told = absurd h

module _ (width : ℕ) (flying : List Flying) (number : ℕ) (pieces : List Piece) (made : List Entry) (old new : Journals)
    (checked : WasChecked width flying number pieces made old new) where
  -- the check of a batch only adds marks
  pub batch_longer : AreLonger old new
  batch_longer = checks_longer width checked.online checked.items old checked.found new checked.checks

  -- its verdict is borne out
  pub batch_borne : AreTold width old → IsVerdictBorneOut width (marks_of new) flying number pieces made
  batch_borne told = record {
    online = checked.online;
    taken = λ some. checked.taken;
    each = λ e h. checks_borne width checked.online checked.items old checked.found new checked.checks told e
        ((has-filter checked.kept checked.found e (subst (λ (es : List Entry). Has es e) checked.among h)).0);
  }

  -- the calls that it names were made
  pub batch_made : AreTold width old → AreMade (marks_of old) (marks_of new) (flat_map (entry_calls width) made)
  batch_made told = rw checked.among (checks_made width checked.online checked.items old checked.found new checked.kept checked.checks told)
