-- The small graphs are valid, so that a scan may walk over them.
use Rattle.std.proofs.Common.{◌≡◌, ◌≢◌, ◌<◌, ◌≤◌, ◌+◌, ◌++◌, ℕ, true, false, List, [], ◌∷◌, refl, sym, ap, subst, ◌∙◌, arith}
use Rattle.std.specs.Prelude.{Some, length}
use Rattle.std.specs.List.Sorted.{IsStrictlySortedBy}
use Rattle.std.proofs.lemmas.Bool.{true≢false}
use Rattle.zs_ids.specs.declared.key.Key.{Key}
use Rattle.zs_ids.specs.declared.block.Bp.{Bp}
use Rattle.zs_ids.specs.declared.block.Piece.{Piece}
use Rattle.zs_ids.specs.Key.{root_key, dnode_key, record_key, parent_of}
use Rattle.zs_ids.specs.Graph.{Has, Dataset, Graph, pieces_of}
use Rattle.zs_ids.specs.GraphValid.{origin, HasForm, IsBlock, HasBlock, HasBlocks, Overlap, AreApart, LiesIn, IsWithin, Valid}
use Rattle.zs_ids.specs.GraphValid.IsBlock.{root as root_block, dnodes as dnode_block, leaf as record_block}
use Rattle.zs_ids.specs.declared.dataset.DsId.{DsId}
use Rattle.zs_graph.specs.View.{GraphView}
use Rattle.zs_graph.specs.Made.{IsFsMade}
use Rattle.zs_phys.specs.declared.scope.Scope.{Scope}
use Rattle.zs_phys.specs.declared.phys.Phys.{Phys}
use Rattle.zs_phys.specs.Handlers.{handled, Event as events}
use Rattle.zs_cover.specs.Laws.{IsCovered, MayStart, started}
use Rattle.zs_graph.proofs.Origin.{is_origin, nothing_held, origin_is_valid}
use Rattle.zs_graph.proofs.Lists.{has-left, has-right, some_is, some≢none}
use Rattle.zs_cover.proofs.Starts.{start_keeps}
use Rattle.zs_cover.proofs.Rests.{later_keeps}
use Rattle.zs_cover.proofs.Clones.{fs_keeps, clone_keeps}
use Rattle.zs_cover.proofs.Applies.{apply_keeps}
use Rattle.zs_cover.proofs.Snapshots.{snapshot_keeps}
use Rattle.zs_walk.specs.Walking.{MayWalk}
use Rattle.zs_dataset_tests.specs.Examples.{block, one_record, head_id, snapshot_id, name, clone_id, clone_name, head_with, snapshot_with, one_head, head_and_snapshot, head_and_clone, room, scrub_up_to}
use mathlib.Core.Logic.{inl, inr}

-- a block has its form, its birth, and one piece, which lies in the room
form_of : (sector sectors level : ℕ) → HasForm (block sector sectors level) sectors level
unfolding block
form_of sector sectors level = record { size = refl; height = refl; some = omega arith; few = omega arith; apart = (λ q none. absurd none, tt) }

born : (sector sectors level : ℕ) → (block sector sectors level).birth ≡ 3
unfolding block
born sector sectors level = refl

sector_of : (sector sectors level : ℕ) (p : Piece) → Has (pieces_of (block sector sectors level)) p → p.place.sector ≡ sector
unfolding block
sector_of sector sectors level p (inl e) = ap (λ (x : Piece). x.place.sector) (sym e)
sector_of sector sectors level p (inr none) = absurd none

lies : (sector sectors level : ℕ) → 296 ≤ sector → sector + sectors ≤ 512 → (p : Piece) → Has (pieces_of (block sector sectors level)) p → LiesIn room p.place (block sector sectors level).sectors
unfolding block
lies sector sectors level from to p (inl e) =
    subst (λ (x : Piece). LiesIn room x.place sectors) e (record { mirror = omega arith; from = from; to = to })
lies sector sectors level from to p (inr none) = absurd none

few_pieces : length (pieces_of (block 296 8 1) ++ (pieces_of (block 304 8 0) ++ pieces_of (block 312 1 0))) ≤ 64
unfolding block
few_pieces = omega arith

-- two blocks one behind the other do not meet
disjoint : (s m k t n l : ℕ) → s + m ≤ t → Overlap (block s m k) (block t n l) → ⊥
disjoint s m k t n l le o =
    let a : (o.first).place.sector ≡ s = sector_of s m k o.first o.is_first in
    let b : (o.second).place.sector ≡ t = sector_of t n l o.second o.is_second in
    let is : (block s m k).sectors ≡ m = (form_of s m k).size in
    let meet : (o.second).place.sector < (o.first).place.sector + (block s m k).sectors = o.behind in
    absurd (omega (arith, a, b, is, meet, le))

disjoint_back : (s m k t n l : ℕ) → s + m ≤ t → Overlap (block t n l) (block s m k) → ⊥
disjoint_back s m k t n l le o =
    let a : (o.first).place.sector ≡ t = sector_of t n l o.first o.is_first in
    let b : (o.second).place.sector ≡ s = sector_of s m k o.second o.is_second in
    let is : (block s m k).sectors ≡ m = (form_of s m k).size in
    let meet : (o.first).place.sector < (o.second).place.sector + (block s m k).sectors = o.before in
    absurd (omega (arith, a, b, is, meet, le))

-- what holds of the three entries holds of each
each : (P : Key × Bp → Type 0) → P (root_key, block 296 8 1) → P (dnode_key 1, block 304 8 0) → P (record_key 1 0, block 312 1 0) → (e : Key × Bp) → Has one_record e → P e
each P a b c e (inl is) = subst P is a
each P a b c e (inr (inl is)) = subst P is b
each P a b c e (inr (inr (inl is))) = subst P is c
each P a b c e (inr (inr (inr none))) = absurd none

-- the origin alone is valid
origin_valid : Valid room (origin ∷ []) 1
origin_valid = record {
  graph = origin_is_valid;
  within = record {
    places = λ d i e h p is. absurd (nothing_held d e i h);
    few = record { all = []; few = omega arith; each = λ p live. absurd (nothing_held live.holder live.holds.entry live.is_dataset live.holds.is_entry) };
  };
}

may_start : (max h : ℕ) → max ≤ h → MayStart h (scrub_up_to max)
may_start max h le = record { runs = λ e. cc; ends = omega (arith, le); logs = λ other log h. elim h [ inl is ↦ sym is | inr later ↦ elim later [ inl is ↦ sym is | inr none ↦ absurd none ] ] }

-- a filesystem is made in 2
empty_head : IsCovered room (one_head []) 2 2 (scrub_up_to 1) (started 0) (λ p. true)
empty_head =
    fs_keeps room (origin ∷ []) 1 2 (scrub_up_to 1) (started 0) (λ p. true) (λ p. true) head_id name (start_keeps room (origin ∷ []) 1 2 (scrub_up_to 1) 0 (λ p. true) (omega arith) origin_valid (may_start 1 2 (omega arith))) (record {
      here = inl refl;
      is_snapshot = refl;
      free = λ d h is. absurd (true≢false (sym is ∙ ap (λ (x : Dataset). x.head) (sym (is_origin d h))));
      fresh = λ d h. let c : 0 ≡ d.id.0 = ap (λ (x : Dataset). x.id.0) (is_origin d h) in omega (arith, c);
      room = omega arith;
    }) (λ p live is. is)

-- a graph of datasets, to which it was added, is so
pub empty_head_made : (old new : GraphView) (id : DsId) → old ≡ record { sets = origin ∷ []; next = 1 } → IsFsMade old name id new → new.sets ≡ one_head []
empty_head_made old new id is made = rw (made.now, same_id, is) refl
  where
    same_id : id ≡ head_id
    same_id = ap (λ (n : ℕ). record head_id { 0 = n }) (made.added.number ∙ ap (λ (v : GraphView). v.next) is)

-- its record is written in 3
three_blocks : HasBlocks (head_with origin.id one_record) 3
unfolding IsStrictlySortedBy
three_blocks = record {
  in_order = ((refl, (refl, tt)), ((refl, tt), (tt, tt)));
  births = λ e h. each (λ x. x.1.birth ≤ 3) (let b : (block 296 8 1).birth ≡ 3 = born 296 8 1 in omega (arith, b)) (let b : (block 304 8 0).birth ≡ 3 = born 304 8 0 in omega (arith, b)) (let b : (block 312 1 0).birth ≡ 3 = born 312 1 0 in omega (arith, b)) e h;
  levels = λ object. 1;
  at_most_four = λ object. omega arith;
  size = λ object. 1;
  is_size = λ object. inl refl;
  blocks = λ e h. each (λ x. IsBlock 1 1 x) (root_block refl (form_of 296 8 1)) (dnode_block 0 (omega arith) refl (form_of 304 8 0)) (record_block (omega arith) (record { from_one = omega arith; to_last = omega arith; rank = refl; first_leaf = refl; below_end = omega arith; depth = refl }) (form_of 312 1 0)) e h;
  parents = λ e h. each (λ x. (k : Key) → parent_of x.0 1 ≡ Some k → HasBlock (head_with origin.id one_record) k x.1.birth) (λ k is. absurd (some≢none k (sym is))) (λ k is. record { entry = (root_key, block 296 8 1); is_entry = inl refl; is_key = some_is root_key k is; later = (let a : (block 296 8 1).birth ≡ 3 = born 296 8 1 in let b : (block 304 8 0).birth ≡ 3 = born 304 8 0 in omega (arith, a, b)) }) (λ k is. record { entry = (dnode_key 1, block 304 8 0); is_entry = inr (inl refl); is_key = some_is (dnode_key 1) k is; later = (let a : (block 304 8 0).birth ≡ 3 = born 304 8 0 in let b : (block 312 1 0).birth ≡ 3 = born 312 1 0 in omega (arith, a, b)) }) e h;
}

the_head : (d : Dataset) (e : Key × Bp) → Has (one_head one_record) d → Has d.entries e → (d.id ≡ head_id) × Has one_record e
the_head d e (inl is) h = absurd (subst (λ (x : Dataset). Has x.entries e) (sym is) h)
the_head d e (inr (inl is)) h = (ap (λ (x : Dataset). x.id) (sym is), subst (λ (x : Dataset). Has x.entries e) (sym is) h)
the_head d e (inr (inr none)) h = absurd none

one_key : (e f : Key × Bp) → Has one_record e → Has one_record f → Overlap e.1 f.1 → e.0 ≡ f.0
one_key e f i j =
    each (λ x. Overlap x.1 f.1 → x.0 ≡ f.0) (each (λ y. Overlap (block 296 8 1) y.1 → root_key ≡ y.0) (λ o. refl) (λ o. absurd (disjoint 296 8 1 304 8 0 (omega arith) o)) (λ o. absurd (disjoint 296 8 1 312 1 0 (omega arith) o)) f j) (each (λ y. Overlap (block 304 8 0) y.1 → dnode_key 1 ≡ y.0) (λ o. absurd (disjoint_back 296 8 1 304 8 0 (omega arith) o)) (λ o. refl) (λ o. absurd (disjoint 304 8 0 312 1 0 (omega arith) o)) f j) (each (λ y. Overlap (block 312 1 0) y.1 → record_key 1 0 ≡ y.0) (λ o. absurd (disjoint_back 296 8 1 312 1 0 (omega arith) o)) (λ o. absurd (disjoint_back 304 8 0 312 1 0 (omega arith) o)) (λ o. refl) f j) e i

head_apart : AreApart (one_head one_record)
head_apart c d e f hc hd o =
    let x = the_head c e hc.here hc.holds in
    let y = the_head d f hd.here hd.holds in
    (x.0 ∙ sym y.0, one_key e f x.1 y.1 o)

head_within : IsWithin room (one_head one_record)
head_within = record {
  places = λ d i e h p is. each (λ x. Has (pieces_of x.1) p → LiesIn room p.place x.1.sectors) (lies 296 8 1 (omega arith) (omega arith) p) (lies 304 8 0 (omega arith) (omega arith) p) (lies 312 1 0 (omega arith) (omega arith) p) e (the_head d e i h).1 is;
  few = record {
    all = pieces_of (block 296 8 1) ++ (pieces_of (block 304 8 0) ++ pieces_of (block 312 1 0));
    few = few_pieces;
    each = λ p live. each (λ x. Has (pieces_of x.1) p → Has (pieces_of (block 296 8 1) ++ (pieces_of (block 304 8 0) ++ pieces_of (block 312 1 0))) p) (λ i. has-left (pieces_of (block 296 8 1)) (pieces_of (block 304 8 0) ++ pieces_of (block 312 1 0)) p i) (λ i. has-right (pieces_of (block 296 8 1)) (pieces_of (block 304 8 0) ++ pieces_of (block 312 1 0)) p (has-left (pieces_of (block 304 8 0)) (pieces_of (block 312 1 0)) p i)) (λ i. has-right (pieces_of (block 296 8 1)) (pieces_of (block 304 8 0) ++ pieces_of (block 312 1 0)) p (has-right (pieces_of (block 304 8 0)) (pieces_of (block 312 1 0)) p i)) live.holds.entry (the_head live.holder live.holds.entry live.is_dataset live.holds.is_entry).1 live.holds.is_piece;
  };
}

full_head : IsCovered room (one_head one_record) 3 3 (scrub_up_to 1) (started 0) (λ p. true)
unfolding IsStrictlySortedBy
full_head =
    apply_keeps room (one_head []) 2 3 (scrub_up_to 1) (started 0) (λ p. true) (λ p. true) (head_with origin.id []) one_record (later_keeps room (one_head []) 2 2 3 (scrub_up_to 1) (started 0) (λ p. true) (λ p. true) empty_head (omega arith) (λ p live is. is)) (record {
      put = record {
        here = inr (inl refl);
        is_head = refl;
        later = omega arith;
        older = λ e h. absurd h;
        born = λ e h. each (λ x. x.1.birth ≡ 3) (born 296 8 1) (born 304 8 0) (born 312 1 0) e h;
        in_order = ((refl, (refl, tt)), ((refl, tt), (tt, tt)));
        blocks = three_blocks;
        apart = head_apart;
      };
      within = head_within;
    }) (λ p live is. is)

-- a scrub of what is born before 4 may begin
walk_of : (g : Graph) (n h max : ℕ) → n ≤ h → max ≤ h → Valid room g n → MayWalk g (scrub_up_to max) (started 0)
walk_of g n h max early le valid =
    let c = start_keeps room g n h (scrub_up_to max) 0 (λ p. true) early valid (may_start max h le) in
    record { room = room; n = n; h = h; early = early; valid = valid; sound = c.sound }

pub empty_head_walks : (g : Graph) (scope : Scope) (s : Phys) → g ≡ one_head [] → scope ≡ scrub_up_to 4 → s ≡ started 0 → MayWalk g scope s
empty_head_walks g scope s is scope_is s_is =
    rw (is, scope_is, s_is) (walk_of (one_head []) 2 4 4 (omega arith) (omega arith) empty_head.valid)

pub head_walks : (entries : List (Key × Bp)) (scope : Scope) (s : Phys) → entries ≡ one_record → scope ≡ scrub_up_to 4 → s ≡ started 0 → MayWalk (one_head entries) scope s
head_walks entries scope s is scope_is s_is =
    rw (is, scope_is, s_is) (walk_of (one_head one_record) 3 4 4 (omega arith) (omega arith) full_head.valid)

-- a snapshot is taken in 4, and a scrub of what is born before 6 begins
snapshot_label : (d : Dataset) → Has (one_head one_record) d → d.head ≡ false → d.owner ≡ name → d.label ≢ name
snapshot_label d (inl is) off owner label =
    let n : 0 ≡ 1 = ap (λ (x : Dataset). x.label.len) is ∙ ap (λ x. x.len) label in omega (arith, n)
snapshot_label d (inr (inl is)) off owner label = absurd (true≢false (ap (λ (x : Dataset). x.head) is ∙ off))
snapshot_label d (inr (inr none)) off owner label = absurd none

below_two : (d : Dataset) → Has (one_head one_record) d → d.id.0 < 2
below_two d (inl is) = let c : 0 ≡ d.id.0 = ap (λ (x : Dataset). x.id.0) is in omega (arith, c)
below_two d (inr (inl is)) = let c : 1 ≡ d.id.0 = ap (λ (x : Dataset). x.id.0) is in omega (arith, c)
below_two d (inr (inr none)) = absurd none

with_snapshot_covered : IsCovered room (head_and_snapshot one_record one_record) 4 4 (scrub_up_to 1) (handled (events.snapshot_taken head_id snapshot_id) (started 0)) (λ p. true)
with_snapshot_covered =
    snapshot_keeps room (one_head one_record) 3 4 (scrub_up_to 1) (started 0) (handled (events.snapshot_taken head_id snapshot_id) (started 0)) (λ p. true) (λ p. true) (head_with origin.id one_record) snapshot_id name (later_keeps room (one_head one_record) 3 3 4 (scrub_up_to 1) (started 0) (λ p. true) (λ p. true) full_head (omega arith) (λ p live is. is)) (record {
      here = inr (inl refl);
      is_head = refl;
      free = snapshot_label;
      other_txg = λ e. let n : 1 ≡ 4 = e in omega (arith, n);
      fresh = below_two;
      room = omega arith;
    }) refl (λ p live is. is)

pub snapshot_walks : (head snapshot : List (Key × Bp)) (scope : Scope) (s : Phys) → head ≡ one_record → snapshot ≡ one_record → scope ≡ scrub_up_to 6 → s ≡ started 0 → MayWalk (head_and_snapshot head snapshot) scope s
snapshot_walks head snapshot scope s is also scope_is s_is =
    rw (is, also, scope_is, s_is) (walk_of (head_and_snapshot one_record one_record) 4 6 6 (omega arith) (omega arith) with_snapshot_covered.valid)

-- a clone is made of the snapshot in 5, and a scrub of what is born before 6 begins
below_three : (d : Dataset) → Has (head_and_snapshot one_record one_record) d → d.id.0 < 3
below_three d (inl is) = let c : 0 ≡ d.id.0 = ap (λ (x : Dataset). x.id.0) is in omega (arith, c)
below_three d (inr (inl is)) = let c : 1 ≡ d.id.0 = ap (λ (x : Dataset). x.id.0) is in omega (arith, c)
below_three d (inr (inr (inl is))) = let c : 2 ≡ d.id.0 = ap (λ (x : Dataset). x.id.0) is in omega (arith, c)
below_three d (inr (inr (inr none))) = absurd none

clone_is_free : (d : Dataset) → Has (head_and_snapshot one_record one_record) d → d.head ≡ true → d.owner ≢ clone_name
clone_is_free d (inl is) head owner = let n : 0 ≡ 2 = ap (λ (x : Dataset). x.owner.len) is ∙ ap (λ x. x.len) owner in omega (arith, n)
clone_is_free d (inr (inl is)) head owner =
    let n : 1 ≡ 2 = ap (λ (x : Dataset). x.owner.len) is ∙ ap (λ x. x.len) owner in omega (arith, n)
clone_is_free d (inr (inr (inl is))) head owner =
    let n : 1 ≡ 2 = ap (λ (x : Dataset). x.owner.len) is ∙ ap (λ x. x.len) owner in omega (arith, n)
clone_is_free d (inr (inr (inr none))) head owner = absurd none

with_clone_covered : IsCovered room (head_and_clone one_record one_record one_record) 5 5 (scrub_up_to 1) (handled (events.snapshot_taken head_id snapshot_id) (started 0)) (λ p. true)
with_clone_covered =
    clone_keeps room (head_and_snapshot one_record one_record) 4 5 (scrub_up_to 1) (handled (events.snapshot_taken head_id snapshot_id) (started 0)) (λ p. true) (λ p. true) (snapshot_with one_record) clone_id clone_name (later_keeps room (head_and_snapshot one_record one_record) 4 4 5 (scrub_up_to 1) (handled (events.snapshot_taken head_id snapshot_id) (started 0)) (λ p. true) (λ p. true) with_snapshot_covered (omega arith) (λ p live is. is)) (record {
      here = inr (inr (inl refl));
      is_snapshot = refl;
      free = clone_is_free;
      fresh = below_three;
      room = omega arith;
    }) (λ p live is. is)

pub clone_walks : (head snapshot clone : List (Key × Bp)) (scope : Scope) (s : Phys) → head ≡ one_record → snapshot ≡ one_record → clone ≡ one_record → scope ≡ scrub_up_to 6 → s ≡ started 0 → MayWalk (head_and_clone head snapshot clone) scope s
clone_walks head snapshot clone scope s is also clone_is scope_is s_is =
    rw (is, also, clone_is, scope_is, s_is) (walk_of (head_and_clone one_record one_record one_record) 5 6 6 (omega arith) (omega arith) with_clone_covered.valid)
