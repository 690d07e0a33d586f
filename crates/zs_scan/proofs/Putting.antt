-- What a turn of the walk leaves of a scan is orderly again.
use Rattle.std.proofs.Common.{◌≡◌, ℕ, ◌<◌, ◌≤◌, ◌&&◌, ◌||◌, Bool, true, false, not, cond, List, [], ◌∷◌, filter, length, refl, sym, ◌∙◌, ap, subst, inl, inr, ◌⊎◌, arith, is_some}
use Rattle.std.specs.Prelude.{Option, Some, None, nat_le, IfSome}
use Rattle.std.specs.Map.{lookup}
use Rattle.std.specs.BTreeMap.{is_at, insert_entry}
use Rattle.std.specs.Ordering.{is_eq, match_ordering}
use Rattle.std.specs.declared.cmp.Ordering.{Ordering}
use Rattle.std.specs.declared.cmp.Ordering.TheVariants.{Less, Equal, Greater}
use Rattle.zs_ids.specs.declared.block.Piece.{Piece}
use Rattle.zs_ids.specs.declared.block.Item.{Item}
use Rattle.zs_ids.specs.Graph.{Graph}
use Rattle.zs_ledger.specs.Kept.{has_piece}
use Rattle.zs_phys.specs.declared.phys.Phys.{Phys}
use Rattle.zs_phys.specs.declared.phys.At.{At}
use Rattle.zs_phys.specs.declared.phys.At.TheVariants as ats
use Rattle.zs_phys.specs.declared.phys.Status.TheVariants.{Scanning}
use Rattle.zs_phys.specs.declared.scope.Scope.{Scope}
use Rattle.zs_phys.specs.declared.step.Step.{Step}
use Rattle.zs_phys.specs.declared.step.Step.TheVariants as steps
use Rattle.zs_phys.specs.Scope.{in_scope}
use Rattle.zs_phys.specs.Turn.{Comes, advanced, skipped}
use Rattle.zs_phys.specs.Turn.Comes.{meets}
use Rattle.zs_ids.specs.Piece.{piece_cmp}
use Rattle.zs_queue.specs.Waiting.{waits, with_item, without}
use Rattle.zs_queue.specs.Order.{equal_pieces}
use Rattle.zs_scan.specs.View.{Mark, ScanView, is_same, mark_of, is_waiting, is_flying, is_done, MarksAs}
use Rattle.zs_scan.specs.Kept.{IsOrderly}
use Rattle.zs_scan.specs.Walks.{item_of, item_put, IsWanted, Put, PutIf}
use Rattle.zs_scan.proofs.Pieces.{same_is, same_itself, same_both}
use Rattle.zs_scan.proofs.Orderly.{IsQueue}

-- a piece waits after a put where it is the piece that was put, or waited before
pub waits_put : (es : List (Piece × Item)) (k q : Piece) (item : Item) → waits (insert_entry piece_cmp es k item) q ≡ cond (is_same k q) true (waits es q)
waits_put [] k q item = ap (λ b. is_some (cond b (Some item) None)) (same_both q k) ∙ go (is_same k q)
  where
    go : (b : Bool) → is_some (cond b (Some item) None) ≡ cond b true false
    go true = refl
    go false = refl
waits_put (e ∷ es) k q item = at (waits_put es k q item) (piece_cmp k e.0) refl
  where
    here : (b : Bool) → (x : Item) (rest : Option Item) → is_some (cond b (Some x) rest) ≡ cond b true (is_some rest)
    here true x rest = refl
    here false x rest = refl

    swap : (a b : Bool) (y : Bool) → cond a true (cond b true y) ≡ cond b true (cond a true y)
    swap true true y = refl
    swap true false y = refl
    swap false true y = refl
    swap false false y = refl

    at : waits (insert_entry piece_cmp es k item) q ≡ cond (is_same k q) true (waits es q) → (o : Ordering) → piece_cmp k e.0 ≡ o → waits (match_ordering o ((k, item) ∷ e ∷ es) ((e.0, item) ∷ es) (e ∷ insert_entry piece_cmp es k item)) q ≡ cond (is_same k q) true (waits (e ∷ es) q)
    at rest Less is = here (is_same q k) item (lookup (is_at (piece_cmp q)) (e ∷ es)) ∙ ap (λ b. cond b true (waits (e ∷ es) q)) (same_both q k)
    at rest Equal is =
        let same : k ≡ e.0 = equal_pieces k e.0 is in
        here (is_same q e.0) item (lookup (is_at (piece_cmp q)) es) ∙ ap (λ b. cond b true (waits es q)) (ap (λ (x : Piece). is_same q x) (sym same) ∙ same_both q k)
        ∙ twice (is_same k q) (waits es q) ∙ sym (ap (λ y. cond (is_same k q) true y) (here (is_same q e.0) e.1 (lookup (is_at (piece_cmp q)) es) ∙ ap (λ b. cond b true (waits es q)) (ap (λ (x : Piece). is_same q x) (sym same) ∙ same_both q k)))
      where
        twice : (b y : Bool) → cond b true y ≡ cond b true (cond b true y)
        twice true y = refl
        twice false y = refl
    at rest Greater is =
        here (is_same q e.0) e.1 (lookup (is_at (piece_cmp q)) (insert_entry piece_cmp es k item)) ∙ ap (λ y. cond (is_same q e.0) true y) rest ∙ swap (is_same q e.0) (is_same k q) (waits es q)
        ∙ ap (λ y. cond (is_same k q) true y) (sym (here (is_same q e.0) e.1 (lookup (is_at (piece_cmp q)) es)))

-- a piece that does not wait takes nothing away
absent_is : (es : List (Piece × Item)) (p : Piece) → waits es p ≡ false → without es (p ∷ []) ≡ es
absent_is [] p absent = refl
absent_is (e ∷ es) p absent = at (λ out. absent_is es p out) (is_same p e.0) refl
  where
    at : (waits es p ≡ false → without es (p ∷ []) ≡ es) → (b : Bool) → is_same p e.0 ≡ b → cond (not (is_same p e.0 || false)) (e ∷ without es (p ∷ [])) (without es (p ∷ [])) ≡ e ∷ es
    at rest true same = let there : waits (e ∷ es) p ≡ true = ap (λ b. is_some (cond b (Some e.1) (lookup (is_at (piece_cmp p)) es))) same in let no_way : true ≡ false = sym there ∙ absent in cc
    at rest false apart = rw apart (ap (λ (l : List (Piece × Item)). e ∷ l) (rest (ap (λ b. is_some (cond b (Some e.1) (lookup (is_at (piece_cmp p)) es))) (sym apart) ∙ absent)))

-- a piece that was put is dropped again
pub dropped_again : (es : List (Piece × Item)) (p : Piece) (item : Item) → waits es p ≡ false → without (insert_entry piece_cmp es p item) (p ∷ []) ≡ es
dropped_again [] p item absent = ap (λ b. cond (not (b || false)) ((p, item) ∷ []) []) (same_itself p)
dropped_again (e ∷ es) p item absent = at (λ out. dropped_again es p item out) (piece_cmp p e.0) refl absent
  where
    at : (waits es p ≡ false → without (insert_entry piece_cmp es p item) (p ∷ []) ≡ es) → (o : Ordering) → piece_cmp p e.0 ≡ o → is_some (cond (is_eq (piece_cmp p e.0)) (Some e.1) (lookup (is_at (piece_cmp p)) es)) ≡ false → without (match_ordering o ((p, item) ∷ e ∷ es) ((e.0, item) ∷ es) (e ∷ insert_entry piece_cmp es p item)) (p ∷ []) ≡ e ∷ es
    at rest Less is out = ap (λ b. cond (not (b || false)) ((p, item) ∷ without (e ∷ es) (p ∷ [])) (without (e ∷ es) (p ∷ []))) (same_itself p) ∙ absent_is (e ∷ es) p absent
    at rest Equal is out = let there : is_some (cond (is_eq (piece_cmp p e.0)) (Some e.1) (lookup (is_at (piece_cmp p)) es)) ≡ true = ap (λ o. is_some (cond (is_eq o) (Some e.1) (lookup (is_at (piece_cmp p)) es))) is in let no_way : true ≡ false = sym there ∙ out in cc
    at rest Greater is out =
        ap (λ o. cond (not (is_eq o || false)) (e ∷ without (insert_entry piece_cmp es p item) (p ∷ [])) (without (insert_entry piece_cmp es p item) (p ∷ []))) is
        ∙ ap (λ (l : List (Piece × Item)). e ∷ l) (rest (ap (λ o. is_some (cond (is_eq o) (Some e.1) (lookup (is_at (piece_cmp p)) es))) (sym is) ∙ out))

-- a piece that is not done does not wait, and has no mark and no entry
pub not_done : (v : ScanView) (p : Piece) → is_done v p ≡ false → (has_piece v.checked p ≡ false) × (mark_of v.marks p ≡ None)
not_done v p h = go (has_piece v.checked p) (mark_of v.marks p) refl refl h
  where
    go : (a : Bool) (m : Option Mark) → has_piece v.checked p ≡ a → mark_of v.marks p ≡ m → (a || is_some m) ≡ false → (has_piece v.checked p ≡ false) × (mark_of v.marks p ≡ None)
    go true m c is out = cc
    go false None c is out = (c, is)
    go false (Some m) c is out = cc

pub not_waiting : (v : ScanView) (p : Piece) → IsOrderly v → is_done v p ≡ false → waits v.waiting p ≡ false
not_waiting v p kept h = kept.waits p ∙ ap is_waiting (not_done v p h).1

module _ (v : ScanView) (item : Item) (waiting : List (Piece × Item)) (limit : ℕ) (marks : List (Piece × Mark)) (kept : IsOrderly v) (queue : IsQueue waiting limit) (may : IsWanted v item)
    (is : waiting ≡ with_item v.waiting item) (marked : MarksAs v.marks marks item.piece (Some None)) (same_count : length (filter is_flying marks) ≡ length (filter is_flying v.marks)) where
  was : (p : Piece) (m : Mark) → mark_of marks p ≡ Some m → ((item.piece ≡ p) × (m ≡ None)) ⊎ (mark_of v.marks p ≡ Some m)
  was p m there = go (is_same item.piece p) refl (sym (marked p) ∙ there)
    where
      value : Mark → Option Mark → Mark
      value d None = d
      value d (Some z) = z

      go : (x : Bool) → is_same item.piece p ≡ x → cond x (Some None) (mark_of v.marks p) ≡ Some m → ((item.piece ≡ p) × (m ≡ None)) ⊎ (mark_of v.marks p ≡ Some m)
      go true same e = inl (same_is item.piece p same, sym (ap (value None) e))
      go false apart e = inr e

  pub put_orderly : IsOrderly (record v { waiting = waiting; limit = limit; marks = marks })
  put_orderly = record {
    once = kept.once;
    unchecked = λ p m there. elim (was p m there) [ inl new ↦ subst (λ (q : Piece). has_piece v.checked q ≡ false) new.0 (not_done v item.piece may.fresh).0 | inr old ↦ kept.unchecked p m old ];
    waits = λ p. ap (λ (l : List (Piece × Item)). waits l p) is ∙ waits_put v.waiting item.piece p item ∙ agree p (is_same item.piece p) refl;
    ordered = queue.ordered;
    named = queue.named;
    within = queue.within;
    scoped = λ p m there. elim (was p m there) [ inl new ↦ subst (λ (q : Piece). in_scope v.scope q ≡ true) new.0 may.wanted | inr old ↦ kept.scoped p m old ];
    flies = λ p b there. elim (was p (Some b) there) [ inl new ↦ (let no_way : Some b ≡ None = new.1 in cc) | inr old ↦ kept.flies p b old ];
    rising = kept.rising;
    numbers = kept.numbers;
    idle = λ rests. absurd (rests may.scans);
    landing = let low : length (filter is_flying v.marks) ≤ v.room = kept.landing in omega (arith, low, same_count);
    copies = kept.copies;
    same_status = kept.same_status;
    stored = kept.stored;
  }
    where
      agree : (p : Piece) (x : Bool) → is_same item.piece p ≡ x → cond (is_same item.piece p) true (waits v.waiting p) ≡ is_waiting (mark_of marks p)
      agree p true same = rw same (sym (ap is_waiting (marked p ∙ ap (λ y. cond y (Some None) (mark_of v.marks p)) same)))
      agree p false apart = rw apart (kept.waits p ∙ sym (ap is_waiting (marked p ∙ ap (λ y. cond y (Some None) (mark_of v.marks p)) apart)))

  pub put_step : (now : ScanView) → v ≡ now → limit ≡ v.limit → length v.waiting < v.limit → Put now item (record v { waiting = waiting; limit = limit; marks = marks })
  put_step now same keeps room = subst (λ (o : ScanView). Put o item (record v { waiting = waiting; limit = limit; marks = marks })) same (record { room = room; rest = rw (is, keeps) refl; marks = marked })

-- states with the same status
pub told_orderly : (v : ScanView) (run run' : Phys) → IsOrderly v → run.status ≡ v.run.status → run'.status ≡ v.kept.status → IsOrderly (record v { run = run; kept = run' })
told_orderly v run run' kept same same' = record {
  once = kept.once;
  unchecked = kept.unchecked;
  waits = kept.waits;
  ordered = kept.ordered;
  named = kept.named;
  within = kept.within;
  scoped = kept.scoped;
  flies = kept.flies;
  rising = kept.rising;
  numbers = kept.numbers;
  idle = λ rests. kept.idle (λ scans. rests (same ∙ scans));
  landing = kept.landing;
  copies = kept.copies;
  same_status = same' ∙ kept.same_status ∙ sym same;
  stored = kept.stored;
}

-- a state of the walk with the same status
pub run_orderly : (v : ScanView) (run : Phys) → IsOrderly v → run.status ≡ v.run.status → IsOrderly (record v { run = run })
run_orderly v run kept same = told_orderly v run v.kept kept same refl

-- a turn leaves the status
pub advanced_status : (g : Graph) (scope : Scope) (s : Phys) (step : Step) → (advanced g scope s step).status ≡ s.status
advanced_status g scope s steps.Nothing = refl
advanced_status g scope s steps.Skip = go s.at
  where
    go : (a : At) → (skipped a s).status ≡ s.status
    go ats.Nowhere = refl
    go ats.Destroyed = refl
    go (ats.Dataset id k) = refl
advanced_status g scope s (steps.Enter id least) = refl
advanced_status g scope s (steps.At k bp) = refl
advanced_status g scope s (steps.End id) = refl

-- an item that a turn puts is wanted and not done, and a scan runs
pub put_is : (g : Graph) (v : ScanView) (step : Step) (item : Item) → Comes g v.scope v.run step → item_put v step ≡ Some item → IsWanted v item
put_is g v steps.Nothing item comes puts = cc
put_is g v steps.Skip item comes puts = cc
put_is g v (steps.Enter id least) item comes puts = cc
put_is g v (steps.End id) item comes puts = cc
put_is g v (steps.At k bp) item comes puts = (let t = tests _ refl puts in record { scans = scans comes; wanted = t.0; fresh = t.1 })
  where
    scans : Comes g v.scope v.run (steps.At k bp) → v.run.status ≡ Scanning
    scans (meets d key e walking here at found) = walking.scans

    both : (a b : Bool) → (a && b) ≡ true → (a ≡ true) × (b ≡ true)
    both true b h = (refl, h)
    both false b h = cc

    is_not : (a : Bool) → not a ≡ true → a ≡ false
    is_not true h = cc
    is_not false h = refl

    value : Option Item → Item
    value None = item_of bp
    value (Some i) = i

    tests : (b : Bool) → (nat_le bp.birth v.run.curmax && (in_scope v.scope (item_of bp).piece && not (is_done v (item_of bp).piece))) ≡ b → cond b (Some (item_of bp)) None ≡ Some item → (in_scope v.scope item.piece ≡ true) × (is_done v item.piece ≡ false)
    tests true is e =
        let same : item_of bp ≡ item = ap value e in
        let first = both _ _ is in
        let rest = both _ _ first.1 in
        (subst (λ (i : Item). in_scope v.scope i.piece ≡ true) same rest.0, subst (λ (i : Item). is_done v i.piece ≡ false) same (is_not _ rest.1))
    tests false is e = cc

-- a put leaves scope and state
pub same_walk : (old new : ScanView) (item : Option Item) → PutIf old item new → (new.scope ≡ old.scope) × (new.run ≡ old.run)
same_walk old new None put = (ap (λ (v : ScanView). v.scope) put, ap (λ (v : ScanView). v.run) put)
same_walk old new (Some item) put = (ap (λ (v : ScanView). v.scope) put.rest, ap (λ (v : ScanView). v.run) put.rest)

-- what a turn puts may be put
pub wanted_if : (g : Graph) (v : ScanView) (step : Step) (o : Option Item) → o ≡ item_put v step → Comes g v.scope v.run step → IfSome o (IsWanted v)
wanted_if g v step None is comes = tt
wanted_if g v step (Some item) is comes = put_is g v step item comes (sym is)

-- a put that was undone leaves all as it was
pub undone : (v now : ScanView) (waiting : List (Piece × Item)) (limit : ℕ) (marks : List (Piece × Mark)) → v ≡ now → waiting ≡ v.waiting → limit ≡ v.limit → marks ≡ v.marks → record v { waiting = waiting; limit = limit; marks = marks } ≡ now
undone v now waiting limit marks same is keeps stays = rw (is, keeps, stays) same

pub undone_orderly : (v : ScanView) (waiting : List (Piece × Item)) (limit : ℕ) (marks : List (Piece × Mark)) → IsOrderly v → waiting ≡ v.waiting → limit ≡ v.limit → marks ≡ v.marks → IsOrderly (record v { waiting = waiting; limit = limit; marks = marks })
undone_orderly v waiting limit marks kept is keeps stays = rw (is, keeps, stays) kept
