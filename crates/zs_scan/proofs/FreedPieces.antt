-- Pieces are freed, one after another: none of them waits or flies then, and the scan is the datasets' own again.
use Rattle.std.proofs.Common.{◌≡◌, ℕ, ◌<◌, ◌+◌, ◌≤◌, ◌||◌, ◌++◌, Bool, true, false, not, cond, List, [], ◌∷◌, take, length, get_or, refl, sym, ◌∙◌, ap, subst, inl, inr, is_some}
use Rattle.std.specs.Prelude.{Option, Some, None}
use Rattle.std.specs.List.{list_any}
use Rattle.std.proofs.Math.Bool.{or-true}
use Rattle.std.proofs.Math.Nat.{le_refl}
use Rattle.std.proofs.lemmas.Bool.{true≢false}
use Rattle.std.proofs.lemmas.List.{map-append, take_all, take_more}
use Rattle.std.proofs.lemmas.List.Folds.{list_any-append}
use Rattle.zs_ids.specs.declared.block.Piece.{Piece}
use Rattle.zs_ids.specs.declared.block.Item.{Item}
use Rattle.zs_ids.specs.Graph.{Graph, Has, IsLive}
use Rattle.zs_ledger.specs.Kept.{has_piece}
use Rattle.zs_queue.specs.Lists.{has-filter}
use Rattle.zs_queue.specs.Waiting.{without}
use Rattle.zs_cover.proofs.Rests.{later_keeps as later_covered}
use Rattle.zs_scan.specs.View.{Mark, ScanView, is_same, mark_of, is_done, pieces_in, has_item}
use Rattle.zs_scan.specs.Kept.{IsOrderly}
use Rattle.zs_scan.specs.Changes.{KeepsFreed}
use Rattle.zs_scan.specs.Steps.{Freed, IsComplete}
use Rattle.zs_scan.proofs.Pieces.{same_is, same_itself}
use Rattle.zs_scan.proofs.Marking.{items_any}
use Rattle.zs_scan.proofs.Flights.{HaveMark, mark_next}

-- the pieces of these items were freed
pub record HaveFreed (old : ScanView) (items : List Item) (new : ScanView) : Type 0 where
  pub rest : new ≡ record old { waiting = without old.waiting (pieces_in items); marks = new.marks; room = new.room }
  pub marks : HaveMark old.marks new.marks None items

-- a list without no piece is the list
without_none : (es : List (Piece × Item)) → without es [] ≡ es
without_none [] = refl
without_none (e ∷ es) = ap (λ (l : List (Piece × Item)). e ∷ l) (without_none es)

-- a list without some pieces, and then without one more
without_last : (es : List (Piece × Item)) (ps : List Piece) (p : Piece) → without (without es ps) (p ∷ []) ≡ without es (ps ++ p ∷ [])
without_last [] ps p = refl
without_last (e ∷ es) ps p =
    at (without_last es ps p) (list_any (λ x. is_same x e.0) ps) (is_same p e.0) refl
    ∙ ap (λ b. cond (not b) (e ∷ without es (ps ++ p ∷ [])) (without es (ps ++ p ∷ []))) (sym (list_any-append (λ (x : Piece). is_same x e.0) ps (p ∷ [])))
  where
    at : without (without es ps) (p ∷ []) ≡ without es (ps ++ p ∷ []) → (gone last : Bool) → is_same p e.0 ≡ last
        → without (cond (not gone) (e ∷ without es ps) (without es ps)) (p ∷ []) ≡ cond (not (gone || (is_same p e.0 || false))) (e ∷ without es (ps ++ p ∷ [])) (without es (ps ++ p ∷ []))
    at rest true last is = rest
    at rest false true is = rw is rest
    at rest false false is = rw is (ap (λ (l : List (Piece × Item)). e ∷ l) rest)

-- no piece was freed
pub freed_none : (v : ScanView) → HaveFreed v [] v
freed_none v = record { rest = ap (λ (w : List (Piece × Item)). record v { waiting = w }) (sym (without_none v.waiting)); marks = λ q. refl }

-- one more was
freed_last : (old now new : ScanView) (items : List Item) (i : Item) → HaveFreed old items now → Freed now i.piece new → HaveFreed old (items ++ i ∷ []) new
freed_last old now new items i so_far step = record {
  rest =
      step.rest ∙ ap (λ (v : ScanView). record v { waiting = without v.waiting (i.piece ∷ []); marks = new.marks; room = new.room }) so_far.rest
      ∙ ap (λ (w : List (Piece × Item)). record old { waiting = w; marks = new.marks; room = new.room }) left;
  marks = mark_next old.marks now.marks new.marks None items i so_far.marks step.marks;
}
  where
    left : without (without old.waiting (pieces_in items)) (i.piece ∷ []) ≡ without old.waiting (pieces_in (items ++ i ∷ []))
    left = without_last old.waiting (pieces_in items) i.piece ∙ ap (λ (ps : List Piece). without old.waiting ps) (sym (map-append (λ (x : Item). x.piece) items (i ∷ [])))

-- the next of the items was
pub freed_next : (old now new : ScanView) (items : List Item) (i : ℕ) (d : Item) → i < length items → HaveFreed old (take i items) now → Freed now (get_or items i d).piece new → HaveFreed old (take (i + 1) items) new
freed_next old now new items i d below so_far step =
    subst (λ (l : List Item). HaveFreed old l new) (sym (take_more items i d below)) (freed_last old now new (take i items) (get_or items i d) so_far step)

-- all of them were
pub freed_all : (old new : ScanView) (items : List Item) (n : ℕ) → length items ≤ n → HaveFreed old (take n items) new → HaveFreed old items new
freed_all old new items n over so_far = subst (λ (l : List Item). HaveFreed old l new) (take_all n items over) so_far

-- a piece of the items is found among them
found : (items : List Item) (p : Piece) → Has (pieces_in items) p → has_item items p ≡ true
found [] p none = absurd none
found (i ∷ is) p (inl same) = rw (subst (λ (q : Piece). is_same i.piece q ≡ true) same (same_itself i.piece)) refl
found (i ∷ is) p (inr later) = rw (found is p later) (or-true (is_same i.piece p))

-- what is found among them is one of theirs
found_is : (items : List Item) (p : Piece) → has_item items p ≡ true → Has (pieces_in items) p
found_is [] p h = cc
found_is (i ∷ is) p h = at (λ later. found_is is p later) (is_same i.piece p) refl h
  where
    at : (has_item is p ≡ true → Has (pieces_in is) p) → (b : Bool) → is_same i.piece p ≡ b → (b || has_item is p) ≡ true → Has (pieces_in (i ∷ is)) p
    at rest true same _ = inl (same_is i.piece p same)
    at rest false _ later = inr (rest later)

module _ (v : ScanView) (items : List Item) (marks : List (Piece × Mark)) (room : ℕ) (kept : IsOrderly v) (gone : HaveMark v.marks marks None items) where
  abbrev after : ScanView
  after = record v { waiting = without v.waiting (pieces_in items); marks = marks; room = room }

  -- what was done and is live is done
  done_stays : (g : Graph) → ((p : Piece) → Has (pieces_in items) p → IsLive g p → ⊥) → (p : Piece) → IsLive g p → is_done v p ≡ true → is_done after p ≡ true
  done_stays g dead p live done = go (has_item items p) refl
    where
      go : (b : Bool) → has_item items p ≡ b → is_done after p ≡ true
      go true one = absurd (dead p (found_is items p one) live)
      go false apart = ap (λ (m : Option Mark). has_piece v.checked p || is_some m) (gone p ∙ ap (λ b. cond b None (mark_of v.marks p)) apart) ∙ done

  -- what waits is none of theirs
  none_waits : (e : Piece × Item) → Has (without v.waiting (pieces_in items)) e → Has (pieces_in items) e.1.piece → ⊥
  none_waits e h one =
      let was = has-filter (λ (x : Piece × Item). not (list_any (λ p. is_same p x.0) (pieces_in items))) v.waiting e h in
      let out : list_any (λ p. is_same p e.0) (pieces_in items) ≡ true = items_any items e.0 ∙ subst (λ (p : Piece). has_item items p ≡ true) (kept.named e was.0) (found items e.1.piece one) in
      true≢false (sym was.1 ∙ ap not out)

  -- what has a mark had it before
  was_marked : (p : Piece) (m : Mark) → mark_of marks p ≡ Some m → mark_of v.marks p ≡ Some m
  was_marked p m is = go (has_item items p) (sym (gone p) ∙ is)
    where
      go : (b : Bool) → cond b None (mark_of v.marks p) ≡ Some m → mark_of v.marks p ≡ Some m
      go true e = cc
      go false e = e

  -- and is none of theirs
  none_marked : (p : Piece) (m : Mark) → mark_of marks p ≡ Some m → Has (pieces_in items) p → ⊥
  none_marked p m is one =
      let none : mark_of marks p ≡ None = gone p ∙ ap (λ b. cond b None (mark_of v.marks p)) (found items p one) in
      true≢false (sym (ap is_some is) ∙ ap is_some none)

  after_is : KeepsFreed items v after
  after_is own g n h but = record {
    covered = later_covered own g n h h v.scope v.run (is_done v) (is_done after) but.covered (le_refl h) (λ p live done. done_stays g but.live.dead p live done);
    stored = but.stored;
    live = record {
      waiting = λ e i. elim (but.live.waiting e (has-filter _ v.waiting e i).0) [ inl one ↦ absurd (none_waits e i one) | inr block ↦ block ];
      flying = λ b i here item flies. elim (but.live.flying b i here item (was_marked i.piece (Some b.number) flies)) [ inl one ↦ absurd (none_marked i.piece (Some b.number) flies one) | inr block ↦ block ];
    };
    in_room = but.in_room;
  }

-- where the pieces that are not live any more were freed, the scan is the datasets' own
pub freed_all_keeps : (old new : ScanView) (items : List Item) → IsOrderly old → HaveFreed old items new → KeepsFreed items old new
freed_all_keeps old new items kept freed = subst (λ (o : ScanView). KeepsFreed items old o) (sym freed.rest) (after_is old items new.marks new.room kept freed.marks)

-- a scan that is complete stays so where pieces are freed
pub freed_complete : (old new : ScanView) (pieces : List Piece) → new ≡ record old { waiting = without old.waiting pieces; marks = new.marks; room = new.room } → IsComplete old → IsComplete new
freed_complete old new pieces is complete = subst IsComplete (sym is) (record {
  scans = complete.scans;
  goes_on = complete.goes_on;
  nowhere = complete.nowhere;
  walked = complete.walked;
  drained = ap (λ (l : List (Piece × Item)). without l pieces) complete.drained;
  landed = complete.landed;
})
