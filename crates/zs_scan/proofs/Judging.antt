-- What a verdict leaves of a scan is orderly again.
use Rattle.std.proofs.Common.{◌≡◌, ℕ, ◌≤◌, ◌==◌, ◌&&◌, ◌||◌, ◌++◌, Bool, true, false, not, cond, List, [], ◌∷◌, map, filter, length, refl, sym, ◌∙◌, ap, subst, inl, inr, eq-eqb, eqb-true, length-append, arith}
use Rattle.std.specs.Prelude.{Option, Some, None}
use Rattle.std.specs.List.{AllByRecursion}
use Rattle.std.specs.List.Sorted.{IsStrictlySortedBy}
use Rattle.std.specs.Ordering.{is_eq}
use Rattle.std.specs.declared.cmp.Ordering.TheVariants.{Less}
use Rattle.std.proofs.lemmas.List.Folds.{list_any-append}
use Rattle.zs_ids.specs.declared.block.Piece.{Piece}
use Rattle.zs_ids.specs.declared.block.Item.{Item}
use Rattle.zs_ids.specs.Graph.{Has}
use Rattle.zs_ledger.specs.declared.entry.Entry.{Entry}
use Rattle.zs_ledger.specs.Entry.{HaveCopies}
use Rattle.zs_ids.specs.Piece.{is_piece}
use Rattle.zs_ledger.specs.Kept.{has_piece}
use Rattle.zs_ids.specs.Piece.{piece_cmp}
use Rattle.zs_scan.specs.declared.batch.Batch.{Batch}
use Rattle.zs_scan.specs.View.{Mark, ScanView, is_same, mark_of, is_waiting, flies_in, is_flying, pieces_in, has_item}
use Rattle.std.proofs.Math.Bool.{or-true, and-false}
use Rattle.zs_scan.specs.Kept.{IsOrderly, IsInBatch, AreOnce, RisesTo}
use Rattle.zs_scan.specs.Steps.{AreOf, AreRising, IsVerdict, Judged, has_entry, still_flying}
use Rattle.zs_scan.proofs.Pieces.{same_is, same_itself}
use Rattle.zs_scan.proofs.Marking.{none_marked_at}
use Rattle.zs_scan.proofs.Landings.{HaveLanded}
use Rattle.zs_scan.proofs.Batches.{into-filter, one_batch, rises_filter}
use Rattle.zs_graph.proofs.Lists.{from-append}
use Rattle.zs_queue.specs.Lists.{has-filter}

-- the entries of a batch are of the pieces of its items
pub of_pieces : (items : List Item) (entries : List Entry) → AreOf items entries → map (λ (e : Entry). e.piece) entries ≡ pieces_in items
of_pieces [] [] are = refl
of_pieces [] (e ∷ es) are = absurd are
of_pieces (i ∷ is) [] are = absurd are
of_pieces (i ∷ is) (e ∷ es) are = ap (λ (p : Piece). p ∷ map (λ (x : Entry). x.piece) es) are.0 ∙ ap (λ (l : List Piece). i.piece ∷ l) (of_pieces is es are.3)

pub of_any : (items : List Item) (entries : List Entry) (q : Piece) → AreOf items entries → has_entry entries q ≡ has_item items q
of_any [] [] q are = refl
of_any [] (e ∷ es) q are = absurd are
of_any (i ∷ is) [] q are = absurd are
of_any (i ∷ is) (e ∷ es) q are = ap (λ (p : Piece). is_same p q || has_entry es q) are.0 ∙ ap (λ b. is_same i.piece q || b) (of_any is es q are.3)

-- the two tests of pieces are one
pub piece_same : (p q : Piece) → is_piece p q ≡ is_same p q
piece_same p q = go (is_piece p q) (is_same p q) refl refl
  where
    both : (a b : Bool) → (a && b) ≡ true → (a ≡ true) × (b ≡ true)
    both true b h = (refl, h)
    both false b h = cc

    piece_is : is_piece p q ≡ true → p ≡ q
    piece_is h =
        let first = both (p.place.vdev == q.place.vdev) ((p.place.sector == q.place.sector) && (p.birth == q.birth)) h in
        let rest = both (p.place.sector == q.place.sector) (p.birth == q.birth) first.1 in
        let vdev : p.place.vdev ≡ q.place.vdev = eqb-true _ _ first.0 in
        let sector : p.place.sector ≡ q.place.sector = eqb-true _ _ rest.0 in
        let birth : p.birth ≡ q.birth = eqb-true _ _ rest.1 in
        let made : ℕ → ℕ → ℕ → Piece = λ v s b. record { place = record { vdev = v; sector = s }; birth = b } in
        ap (λ v. made v p.place.sector p.birth) vdev ∙ ap (λ s. made q.place.vdev s p.birth) sector ∙ ap (λ b. made q.place.vdev q.place.sector b) birth

    itself : (x : Piece) → is_piece x x ≡ true
    itself x = rw (eq-eqb x.place.vdev x.place.vdev refl, eq-eqb x.place.sector x.place.sector refl, eq-eqb x.birth x.birth refl) refl

    go : (a b : Bool) → is_piece p q ≡ a → is_same p q ≡ b → a ≡ b
    go true true _ _ = refl
    go false false _ _ = refl
    go true false h k = let e : is_same p q ≡ true = subst (λ (x : Piece). is_same p x ≡ true) (piece_is h) (same_itself p) in sym e ∙ k
    go false true h k = let e : is_piece p q ≡ true = subst (λ (x : Piece). is_piece p x ≡ true) (same_is p q k) (itself p) in sym h ∙ e

-- an entry that is still flying is of a piece that flies in the batch, and is one of the entries
pub still_is : (marks : List (Piece × Mark)) (number : ℕ) (entries : List Entry) (p : Piece) → has_piece (still_flying marks number entries) p ≡ true → (flies_in number (mark_of marks p) ≡ true) × (has_entry entries p ≡ true)
still_is marks number [] p h = cc
still_is marks number (e ∷ es) p h = at (λ g. let r = still_is marks number es p g in (r.0, rw r.1 (or-true (is_same e.piece p)))) (flies_in number (mark_of marks e.piece)) refl (is_piece p e.piece) refl h
  where
    at : (has_piece (still_flying marks number es) p ≡ true → (flies_in number (mark_of marks p) ≡ true) × ((is_same e.piece p || has_entry es p) ≡ true)) → (flew : Bool) → flies_in number (mark_of marks e.piece) ≡ flew → (here : Bool) → is_piece p e.piece ≡ here → has_piece (cond flew (e ∷ still_flying marks number es) (still_flying marks number es)) p ≡ true
        → (flies_in number (mark_of marks p) ≡ true) × ((is_same e.piece p || has_entry es p) ≡ true)
    at later true is true here h =
        let same : p ≡ e.piece = same_is p e.piece (sym (piece_same p e.piece) ∙ here) in
        (subst (λ (x : Piece). flies_in number (mark_of marks x) ≡ true) (sym same) is, rw (subst (λ (x : Piece). is_same e.piece x ≡ true) (sym same) (same_itself e.piece)) refl)
    at later true is false here h = later (subst (λ b. (b || has_piece (still_flying marks number es) p) ≡ true) here h)
    at later false is here there h = later h

-- no later entry is of the piece of one that is below all of them
none_later : (marks : List (Piece × Mark)) (number : ℕ) (p : Piece) (xs : List Entry) → AllByRecursion (λ q. piece_cmp p q ≡ Less) (map (λ (x : Entry). x.piece) xs) → has_piece (still_flying marks number xs) p ≡ false
none_later marks number p [] all = refl
none_later marks number p (x ∷ xs) all = go (none_later marks number p xs all.1) (flies_in number (mark_of marks x.piece))
  where
    go : has_piece (still_flying marks number xs) p ≡ false → (b : Bool) → has_piece (cond b (x ∷ still_flying marks number xs) (still_flying marks number xs)) p ≡ false
    go rest true = rw (piece_same p x.piece ∙ ap is_eq all.0) rest
    go rest false = rest

-- entries of different pieces
pub rising_once : (marks : List (Piece × Mark)) (number : ℕ) (entries : List Entry) → AreRising entries → AreOnce (still_flying marks number entries)
unfolding IsStrictlySortedBy
rising_once marks number [] rising = tt
rising_once marks number (e ∷ es) rising = at (none_later marks number e.piece es rising.0) (rising_once marks number es rising.1) (flies_in number (mark_of marks e.piece))
  where
    at : has_piece (still_flying marks number es) e.piece ≡ false → AreOnce (still_flying marks number es) → (b : Bool) → AreOnce (cond b (e ∷ still_flying marks number es) (still_flying marks number es))
    at first rest true = (first, rest)
    at first rest false = rest

once-append : (xs ys : List Entry) → AreOnce xs → AreOnce ys → ((p : Piece) → has_piece ys p ≡ true → has_piece xs p ≡ false) → AreOnce (xs ++ ys)
once-append [] ys ox oy apart = oy
once-append (x ∷ xs) ys ox oy apart = (
  list_any-append (λ (e : Entry). is_piece x.piece e.piece) xs ys ∙ ap (λ b. b || has_piece ys x.piece) ox.0 ∙ not_there (has_piece ys x.piece) refl,
  once-append xs ys ox.1 oy (λ p h. second (is_piece p x.piece) (has_piece xs p) (apart p h)),
)
  where
    itself : has_piece (x ∷ xs) x.piece ≡ true
    itself = ap (λ b. b || has_piece xs x.piece) (piece_same x.piece x.piece ∙ same_itself x.piece)

    not_there : (b : Bool) → has_piece ys x.piece ≡ b → b ≡ false
    not_there true h = let e : has_piece (x ∷ xs) x.piece ≡ false = apart x.piece h in sym itself ∙ e
    not_there false h = refl

    second : (a b : Bool) → (a || b) ≡ false → b ≡ false
    second true b h = cc
    second false b h = h

-- the entries of a verdict are of different pieces
pub verdict_rising : (v : ScanView) (number : ℕ) (entries : List Entry) → IsOrderly v → IsVerdict v number entries → AreRising entries
verdict_rising v number entries kept verdict = subst (λ (l : List Piece). IsStrictlySortedBy piece_cmp l) (sym (of_pieces (verdict.batch).items entries verdict.of_items)) (kept.rising verdict.batch verdict.here)

-- a piece that flies in the batch has an entry
pub flying_named : (v : ScanView) (number : ℕ) (entries : List Entry) → IsOrderly v → IsVerdict v number entries → (q : Piece) → flies_in number (mark_of v.marks q) ≡ true → has_entry entries q ≡ true
flying_named v number entries kept verdict q flew = go (mark_of v.marks q) refl flew
  where
    go : (m : Option Mark) → mark_of v.marks q ≡ m → flies_in number m ≡ true → has_entry entries q ≡ true
    go None is h = cc
    go (Some None) is h = cc
    go (Some (Some c)) is h =
        let f = kept.flies q c is in
        let here : c ≡ number = eqb-true c number h in
        let one : f.batch ≡ verdict.batch = one_batch v.batches v.flight f.batch verdict.batch kept.numbers f.here verdict.here (f.named ∙ here ∙ sym verdict.named) in
        of_any (verdict.batch).items entries q verdict.of_items ∙ subst (λ (b : Batch). has_item b.items q ≡ true) one f.is_item

module _ (v : ScanView) (number : ℕ) (entries checked : List Entry) (marks : List (Piece × Mark)) (flight : List Batch) (room : ℕ) (kept : IsOrderly v) (verdict : IsVerdict v number entries)
    (adds : checked ≡ v.checked ++ still_flying v.marks number entries) (landed : HaveLanded v.marks marks number entries) (out : flight ≡ filter (λ b. not (b.number == number)) v.flight) (enough : length (filter is_flying marks) ≤ room) where
  rising : AreRising entries
  rising = verdict_rising v number entries kept verdict

  -- just the marks of the batch are gone
  pub judged_marks : (q : Piece) → mark_of marks q ≡ cond (flies_in number (mark_of v.marks q)) None (mark_of v.marks q)
  judged_marks q = landed q ∙ go (flies_in number (mark_of v.marks q)) refl
    where
      go : (b : Bool) → flies_in number (mark_of v.marks q) ≡ b → cond (has_entry entries q && flies_in number (mark_of v.marks q)) None (mark_of v.marks q) ≡ cond (flies_in number (mark_of v.marks q)) None (mark_of v.marks q)
      go true flew = ap (λ x. cond (x && flies_in number (mark_of v.marks q)) None (mark_of v.marks q)) (flying_named v number entries kept verdict q flew)
      go false stayed = rw stayed (ap (λ x. cond x None (mark_of v.marks q)) (and-false (has_entry entries q)))

  was : (p : Piece) (m : Mark) → mark_of marks p ≡ Some m → (flies_in number (mark_of v.marks p) ≡ false) × (mark_of v.marks p ≡ Some m)
  was p m there = go (flies_in number (mark_of v.marks p)) refl (sym (judged_marks p) ∙ there)
    where
      go : (b : Bool) → flies_in number (mark_of v.marks p) ≡ b → cond b None (mark_of v.marks p) ≡ Some m → (flies_in number (mark_of v.marks p) ≡ false) × (mark_of v.marks p ≡ Some m)
      go true flew e = cc
      go false stayed e = (stayed, e)

  pub judged_orderly : HaveCopies v.scope.width entries → IsOrderly (record v { checked = checked; marks = marks; flight = flight; room = room })
  judged_orderly have = record {
    once = subst AreOnce (sym adds) (once-append v.checked (still_flying v.marks number entries) kept.once (rising_once v.marks number entries rising) (λ p h. marked p (still_is v.marks number entries p h).0));
    unchecked = λ p m there. ap (λ (l : List Entry). has_piece l p) adds ∙ list_any-append (λ (e : Entry). is_piece p e.piece) v.checked (still_flying v.marks number entries) ∙ ap (λ b. b || has_piece (still_flying v.marks number entries) p) (kept.unchecked p m (was p m there).1) ∙ not_made p (has_piece (still_flying v.marks number entries) p) refl (was p m there).0;
    waits = λ p. kept.waits p ∙ still_waits p (flies_in number (mark_of v.marks p)) refl;
    ordered = kept.ordered;
    named = kept.named;
    within = kept.within;
    scoped = λ p m there. kept.scoped p m (was p m there).1;
    flies = λ p c there. elsewhere p c (was p (Some c) there).0 (was p (Some c) there).1;
    rising = λ b h. kept.rising b (has-filter _ v.flight b (subst (λ (l : List Batch). Has l b) out h)).0;
    numbers = subst (λ (l : List Batch). RisesTo v.batches l) (sym out) (rises_filter v.batches _ v.flight kept.numbers);
    idle = λ rests. none_marked_at marks (λ q. judged_marks q ∙ ap (λ (l : List (Piece × Mark)). cond (flies_in number (mark_of l q)) None (mark_of l q)) (kept.idle rests));
    landing = enough;
    copies = λ e h. elim (from-append v.checked (still_flying v.marks number entries) e (subst (λ (l : List Entry). Has l e) adds h)) [ inl old ↦ kept.copies e old | inr new ↦ have e (has-filter _ entries e new).0 ];
    same_status = kept.same_status;
    stored = subst (λ (l : List Entry). v.stored ≤ length l) (sym adds) (let few : v.stored ≤ length v.checked = kept.stored in let both = length-append v.checked (still_flying v.marks number entries) in omega (arith, few, both));
  }
    where
      marked : (p : Piece) → flies_in number (mark_of v.marks p) ≡ true → has_piece v.checked p ≡ false
      marked p flew = go (mark_of v.marks p) refl flew
        where
          go : (m : Option Mark) → mark_of v.marks p ≡ m → flies_in number m ≡ true → has_piece v.checked p ≡ false
          go None is h = cc
          go (Some m) is h = kept.unchecked p m is

      not_made : (p : Piece) (b : Bool) → has_piece (still_flying v.marks number entries) p ≡ b → flies_in number (mark_of v.marks p) ≡ false → b ≡ false
      not_made p true h stayed = sym (still_is v.marks number entries p h).0 ∙ stayed
      not_made p false h stayed = refl

      still_waits : (p : Piece) (b : Bool) → flies_in number (mark_of v.marks p) ≡ b → is_waiting (mark_of v.marks p) ≡ is_waiting (mark_of marks p)
      still_waits p true flew = flying_waits (mark_of v.marks p) flew ∙ sym (ap is_waiting (judged_marks p ∙ ap (λ b. cond b None (mark_of v.marks p)) flew))
        where
          flying_waits : (m : Option Mark) → flies_in number m ≡ true → is_waiting m ≡ false
          flying_waits None h = cc
          flying_waits (Some None) h = cc
          flying_waits (Some (Some c)) h = refl
      still_waits p false stayed = sym (ap is_waiting (judged_marks p ∙ ap (λ b. cond b None (mark_of v.marks p)) stayed))

      elsewhere : (p : Piece) (c : ℕ) → flies_in number (mark_of v.marks p) ≡ false → mark_of v.marks p ≡ Some (Some c) → IsInBatch flight c p
      elsewhere p c stayed is =
          let f = kept.flies p c is in
          let other : (c == number) ≡ false = ap (λ m. flies_in number m) (sym is) ∙ stayed in
          record {
            batch = f.batch;
            here = subst (λ (l : List Batch). Has l f.batch) (sym out) (into-filter _ v.flight f.batch f.here (ap (λ k. not (k == number)) f.named ∙ ap not other));
            named = f.named;
            is_item = f.is_item;
          }

pub judged_step : (v now : ScanView) (number : ℕ) (entries checked : List Entry) (marks : List (Piece × Mark)) (flight : List Batch) (room : ℕ) → v ≡ now → checked ≡ v.checked ++ still_flying v.marks number entries → flight ≡ filter (λ b. not (b.number == number)) v.flight
    → ((q : Piece) → mark_of marks q ≡ cond (flies_in number (mark_of v.marks q)) None (mark_of v.marks q)) → Judged now number entries (record v { checked = checked; marks = marks; flight = flight; room = room })
judged_step v now number entries checked marks flight room same adds out cleared =
    subst (λ (o : ScanView). Judged o number entries (record v { checked = checked; marks = marks; flight = flight; room = room })) same (record { rest = rw (adds, out) refl; marks = cleared })
