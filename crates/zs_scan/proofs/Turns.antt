-- A turn of the walk keeps a scan the datasets' own.
use Rattle.std.proofs.Common.{◌≡◌, ℕ, ◌<◌, ◌≤◌, ◌&&◌, ◌||◌, Bool, true, false, not, cond, List, [], ◌∷◌, map, take, filter, length, refl, sym, ◌∙◌, ap, subst, inl, inr, ◌⊎◌, arith, is_some, nat_le}
use Rattle.std.proofs.Math.Bool.{or-true}
use Rattle.std.specs.Prelude.{Option, Some, None, IsTrue}
use Rattle.std.specs.BTreeMap.{insert_entry}
use Rattle.std.specs.Ordering.{match_ordering}
use Rattle.std.specs.declared.cmp.Ordering.{Ordering}
use Rattle.std.specs.declared.cmp.Ordering.TheVariants.{Less, Equal, Greater}
use Rattle.zs_ids.specs.declared.key.Key.{Key}
use Rattle.zs_ids.specs.declared.block.Bp.{Bp}
use Rattle.zs_ids.specs.declared.block.Place.{Place}
use Rattle.zs_ids.specs.declared.block.Piece.{Piece}
use Rattle.zs_ids.specs.declared.block.Item.{Item}
use Rattle.zs_ids.specs.Graph.{Has, Graph, pieces_of, IsOfBlock}
use Rattle.zs_ids.specs.GraphValid.{Room, HasOnePlace}
use Rattle.zs_ledger.specs.Kept.{has_piece}
use Rattle.zs_phys.specs.declared.phys.Phys.{Phys}
use Rattle.zs_phys.specs.declared.step.Step.{Step}
use Rattle.zs_phys.specs.declared.step.Step.TheVariants as steps
use Rattle.zs_phys.specs.Scope.{in_scope}
use Rattle.zs_phys.specs.Turn.{Comes, advanced, put_by}
use Rattle.zs_phys.specs.Turn.Comes.{meets}
use Rattle.zs_cover.specs.Laws.{IsCovered}
use Rattle.zs_graph.proofs.Keys.{found_from}
use Rattle.zs_cover.proofs.Turns.{turn_keeps}
use Rattle.zs_ids.specs.Piece.{piece_cmp}
use Rattle.zs_queue.specs.Waiting.{with_item}
use Rattle.zs_walk.specs.Walking.{MayWalk}
use Rattle.zs_scan.specs.declared.batch.Turn.{Turn}
use Rattle.zs_scan.specs.View.{Mark, ScanView, is_same, mark_of, is_done, MarksAs}
use Rattle.zs_scan.specs.Walks.{item_of, item_put, first_place, HasPlace, PutIf, Walked}
use Rattle.zs_scan.specs.Covered.{IsScanOf}
use Rattle.zs_scan.proofs.Pieces.{same_itself}

-- a scan of the datasets may be walked on
pub may_walk : (room : Room) (g : Graph) (n h : ℕ) (v : ScanView) → IsScanOf room g n h v → MayWalk g v.scope v.run
may_walk room g n h v was = record { room = room; n = n; h = h; early = was.covered.early; valid = was.covered.valid; sound = was.covered.sound }

-- a block with one place has just the piece of its item
pub pieces_is : (bp : Bp) → bp.count ≡ 1 → 0 < length bp.places → pieces_of bp ≡ (item_of bp).piece ∷ []
pieces_is bp single some = ap (λ (k : ℕ). map at (take k bp.places)) single ∙ go bp.places some
  where
    at : Place → Piece
    at p = record { place = p; birth = bp.birth }

    go : (ps : List Place) → 0 < length ps → map at (take 1 ps) ≡ at (first_place ps) ∷ []
    go [] none = absurd (omega (arith, none))
    go (p ∷ ps) some = refl

-- a block that a turn meets has one place
one_place : (g : Graph) (v : ScanView) (k : Key) (bp : Bp) → HasOnePlace g → Comes g v.scope v.run (steps.At k bp) → bp.count ≡ 1
one_place g v k bp one (meets d from e walking here at found) = (one.each d here e (found_from d.entries from v.run.curmin e found).0).single

-- the pieces of an item that is put, if there is one
abbrev put_pieces : Option Item → List Piece
put_pieces None = []
put_pieces (Some item) = item.piece ∷ []

-- what a scan puts is what the turn puts
puts_are : (g : Graph) (v : ScanView) (step : Step) → HasOnePlace g → Comes g v.scope v.run step → HasPlace step → put_by v.scope (is_done v) v.run step ≡ put_pieces (item_put v step)
puts_are g v steps.Nothing one comes placed = refl
puts_are g v steps.Skip one comes placed = refl
puts_are g v (steps.Enter id least) one comes placed = refl
puts_are g v (steps.End id) one comes placed = refl
puts_are g v (steps.At k bp) one comes placed =
    let one : pieces_of bp ≡ (item_of bp).piece ∷ [] = pieces_is bp (one_place g v k bp one comes) placed in
    ap (λ (l : List Piece). cond (nat_le bp.birth v.run.curmax) (filter (λ (p : Piece). in_scope v.scope p && not (is_done v p)) l) []) one
    ∙ go (nat_le bp.birth v.run.curmax) (in_scope v.scope (item_of bp).piece && not (is_done v (item_of bp).piece))
  where
    go : (old wanted : Bool) → cond old (cond wanted ((item_of bp).piece ∷ []) []) [] ≡ put_pieces (cond (old && wanted) (Some (item_of bp)) None)
    go true true = refl
    go true false = refl
    go false true = refl
    go false false = refl

-- the item that a turn puts is of a block that a dataset has
put_live : (g : Graph) (v : ScanView) (step : Step) (item : Item) → HasOnePlace g → Comes g v.scope v.run step → HasPlace step → item_put v step ≡ Some item → IsOfBlock g item.piece item.sectors item.sum
put_live g v steps.Nothing item one comes placed puts = cc
put_live g v steps.Skip item one comes placed puts = cc
put_live g v (steps.Enter id least) item one comes placed puts = cc
put_live g v (steps.End id) item one comes placed puts = cc
put_live g v (steps.At k bp) item one comes placed puts = is_block comes
  where
    value : Option Item → Item
    value None = item_of bp
    value (Some i) = i

    same : (b : Bool) → cond b (Some (item_of bp)) None ≡ Some item → item_of bp ≡ item
    same true e = ap value e
    same false e = cc

    is_block : Comes g v.scope v.run (steps.At k bp) → IsOfBlock g item.piece item.sectors item.sum
    is_block (meets d from e walking here at found) = subst (λ (i : Item). IsOfBlock g i.piece i.sectors i.sum) (same _ puts) (record {
      holder = d;
      is_dataset = here;
      at = e;
      is_entry = (found_from d.entries from v.run.curmin e found).0;
      is_piece = subst (λ (l : List Piece). Has l (item_of bp).piece) (sym (pieces_is bp (one_place g v k bp one comes) placed)) (inl refl);
      size = refl;
      same_sum = refl;
    })

-- what waits after a put is the item that was put, or waited before
put_waits : (es : List (Piece × Item)) (k : Piece) (item : Item) (x : Piece × Item) → Has (insert_entry piece_cmp es k item) x → (x.1 ≡ item) ⊎ Has es x
put_waits [] k item x h = elim h [ inl is ↦ inl (sym (ap (λ (y : Piece × Item). y.1) is)) | inr none ↦ absurd none ]
put_waits (e ∷ es) k item x h = go (piece_cmp k e.0) (λ later. put_waits es k item x later) h
  where
    go : (o : Ordering) → (Has (insert_entry piece_cmp es k item) x → (x.1 ≡ item) ⊎ Has es x) → Has (match_ordering o ((k, item) ∷ e ∷ es) ((e.0, item) ∷ es) (e ∷ insert_entry piece_cmp es k item)) x → (x.1 ≡ item) ⊎ Has (e ∷ es) x
    go Less rest found = elim found [ inl is ↦ inl (sym (ap (λ (y : Piece × Item). y.1) is)) | inr later ↦ inr later ]
    go Equal rest found = elim found [ inl is ↦ inl (sym (ap (λ (y : Piece × Item). y.1) is)) | inr later ↦ inr (inr later) ]
    go Greater rest found = elim found [ inl is ↦ inr (inl is) | inr later ↦ elim (rest later) [ inl new ↦ inl new | inr old ↦ inr (inr old) ] ]

module _ (room : Room) (g : Graph) (n h : ℕ) (v : ScanView) (one : HasOnePlace g) (by : v.scope.max ≤ h) (was : IsScanOf room g n h v) (step : Step) (comes : Comes g v.scope v.run step) (placed : HasPlace step) where
  -- the state after the turn covers, where what was done stays done and what is put is done
  turned : (more : Piece → Bool) → ((p : Piece) → IsTrue (is_done v p) → IsTrue (more p)) → ((p : Piece) → Has (put_pieces (item_put v step)) p → IsTrue (more p)) → IsCovered room g n h v.scope (advanced g v.scope v.run step) more
  turned more stays puts =
      turn_keeps room g n h v.scope v.run (advanced g v.scope v.run step) (is_done v) more (put_by v.scope (is_done v) v.run step) was.covered by (record { step = step; comes = comes; becomes = refl; puts = refl }) (λ p live done. stays p done)
      (λ p has. puts p (subst (λ (l : List Piece). Has l p) (puts_are g v step one comes placed) has))

  -- nothing is put
  passed : item_put v step ≡ None → IsScanOf room g n h (record v { run = advanced g v.scope v.run step })
  passed none = record {
    covered = turned (is_done v) (λ p done. done) (λ p has. absurd (subst (λ (o : Option Item). Has (put_pieces o) p) none has));
    stored = was.stored;
    live = record { waiting = was.live.waiting; flying = was.live.flying };
    in_room = was.in_room;
  }

  -- an item is put
  put_keeps : (item : Item) (marks : List (Piece × Mark)) → item_put v step ≡ Some item → MarksAs v.marks marks item.piece (Some None) → IsScanOf room g n h (record v { run = advanced g v.scope v.run step; waiting = with_item v.waiting item; marks = marks })
  put_keeps item marks puts marked = record {
    covered = turned (λ p. has_piece v.checked p || is_some (mark_of marks p)) (λ p done. still p (is_same item.piece p) refl done) (λ p has. elim (subst (λ (o : Option Item). Has (put_pieces o) p) puts has) [ inl is ↦ subst (λ (q : Piece). IsTrue (has_piece v.checked q || is_some (mark_of marks q))) is itself | inr none ↦ absurd none ]);
    stored = was.stored;
    live = record {
      waiting = λ e has. elim (put_waits v.waiting item.piece item e has) [
        | inl new ↦ subst (λ (i : Item). IsOfBlock g i.piece i.sectors i.sum) (sym new) (put_live g v step item one comes placed puts)
        | inr old ↦ was.live.waiting e old
      ];
      flying = λ b i here has there. was.live.flying b i here has (flew i.piece b.number (is_same item.piece i.piece) (sym (marked i.piece) ∙ there));
    };
    in_room = was.in_room;
  }
    where
      -- what was done is done still
      still : (p : Piece) (x : Bool) → is_same item.piece p ≡ x → IsTrue (is_done v p) → IsTrue (has_piece v.checked p || is_some (mark_of marks p))
      still p true same done = rw (marked p, same) (or-true (has_piece v.checked p))
      still p false apart done = rw (marked p, apart) done

      -- the piece that was put is done
      itself : IsTrue (has_piece v.checked item.piece || is_some (mark_of marks item.piece))
      itself = rw (marked item.piece, same_itself item.piece) (or-true (has_piece v.checked item.piece))

      -- what flies flew before
      flew : (p : Piece) (b : ℕ) (x : Bool) → cond x (Some None) (mark_of v.marks p) ≡ Some (Some b) → mark_of v.marks p ≡ Some (Some b)
      flew p b true e = cc
      flew p b false e = e

-- what a turn leaves is the datasets' own still
pub walked_keeps : (room : Room) (g : Graph) (n h : ℕ) (old new : ScanView) (turn : Turn) → Walked g old turn new → HasOnePlace g → old.scope.max ≤ h → IsScanOf room g n h old → IsScanOf room g n h new
walked_keeps room g n h old new turn walked one by was = go (item_put old walked.step) refl walked.puts
  where
    go : (o : Option Item) → item_put old walked.step ≡ o → PutIf old o (record new { run = old.run }) → IsScanOf room g n h new
    go None is put =
        subst (λ (v : ScanView). IsScanOf room g n h v) (sym (ap (λ (v : ScanView). record v { run = new.run }) put ∙ ap (λ (s : Phys). record old { run = s }) walked.becomes)) (passed room g n h old one by was walked.step walked.comes walked.placed is)
    go (Some item) is put =
        subst (λ (v : ScanView). IsScanOf room g n h v) (sym (ap (λ (v : ScanView). record v { run = new.run }) put.rest ∙ ap (λ (s : Phys). record old { run = s; waiting = with_item old.waiting item; marks = new.marks }) walked.becomes))
        (put_keeps room g n h old one by was walked.step walked.comes walked.placed item new.marks is put.marks)
