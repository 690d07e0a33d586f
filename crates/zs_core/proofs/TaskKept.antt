-- What stays true where a task that is not refused runs.
use Rattle.std.proofs.Common.{◌≡◌, ◌≤◌, ◌∙◌, ℕ, Bool, true, false, List, [], ◌∷◌, Option, refl, sym, ap, subst, arith, filter, map, not}
use Rattle.std.specs.Prelude.{Some, Result, Ok, Err, is_err, OnOk, OnErr, ◌||◌, if◌then◌else◌}
use Rattle.std.specs.List.Sorted.{IsStrictlySortedBy}
use Rattle.std.proofs.Math.Bool.{or-true}
use Rattle.std.proofs.lemmas.Bool.{true≢false}
use Rattle.std.proofs.lemmas.List.Kept.{IsStrictlySortedBy-filter}
use Rattle.zs_ids.specs.declared.block.Item.{Item}
use Rattle.zs_ids.specs.declared.block.Piece.{Piece}
use Rattle.zs_ids.specs.declared.dataset.DsId.{DsId}
use Rattle.zs_ids.specs.declared.dataset.Name.{Name}
use Rattle.zs_ids.specs.Piece.{piece_cmp}
use Rattle.zs_ids.specs.Graph.{Has, Dataset, Graph, IsLive}
use Rattle.zs_ids.specs.GraphTree.{is_id, stands_on}
use Rattle.zs_ids.specs.GraphValid.{Room}
use Rattle.zs_ids.specs.GraphChange.{AreBlocksKept, AreFreed, MayClone, MayDestroy, MaySnapshot, MaySwap, cloned, destroyed, head_on, holding, moved_onto, off, snapshot_of, swapped, with_snapshot, without}
use Rattle.zs_graph.specs.Made.{IsUpTo}
use Rattle.zs_graph.proofs.Kept.{Holds, live_before, same_or_moved}
use Rattle.zs_graph.proofs.Lists.{from-append, from-filter, from-map, has-filter}
use Rattle.zs_graph.proofs.Seen.{filter-mapped}
use Rattle.zs_graph.proofs.OnePlaces.{clone_holds, destroyed_holds, snapshot_holds, swapped_holds}
use Rattle.zs_walk.specs.Walking.{runs}
use Rattle.zs_scan.specs.View.{ScanView, has_item, is_same, pieces_in}
use Rattle.zs_scan.proofs.Pieces.{same_is, same_itself}
use Rattle.zs_scan.specs.Changes.{CloneLaw, KeepsAtDestroy, KeepsAtSnapshot, KeepsAtSwap, KeepsFreed}
use Rattle.zs_scan.specs.Covered.{IsScanOf, Keeps}
use Rattle.zs_scan.specs.Steps.{after_start, scrub_started, stopped, with_paused}
use Rattle.zs_machine.specs.Born.{AreBornItems}
use Rattle.zs_core.specs.Running.{KeepsRest, RunsOn}
use Rattle.zs_core.proofs.Carried.{carried}
use Rattle.zs_core.proofs.RunsOn.{rest_at_run, rest_both, runs_kept, runs_none, up_to_held}
use mathlib.Core.Logic.{inl, inr}

-- a clone is made, or a filesystem
pub clone_kept : CloneLaw → (t : ℕ) (old new : Graph) (v : ScanView) (items : List Item) (snap : Dataset) (id : DsId) (name : Name) → MayClone old snap id name → AreBlocksKept old new
    → new ≡ cloned old snap id name → RunsOn t old v items new v items
clone_kept law t old new v items snap id name may kept is =
    subst (λ (g : Graph). RunsOn t old v items g v items) (sym is)
    (runs_kept t old (cloned old snap id name) v v items (clone_holds old snap id name may.here) same created (λ room scan. law room old t t v snap id name scan may same) refl)
  where
    same : AreBlocksKept old (cloned old snap id name)
    same = subst (λ (g : Graph). AreBlocksKept old g) is kept

    created : (d : Dataset) → Has (cloned old snap id name) d → IsUpTo old t → d.creation ≤ t
    created d h up = elim (from-append old (head_on snap id name ∷ []) d h) [
      | inl was ↦ up.creations d was
      | inr now ↦ elim now [ inl is ↦ subst (λ (x : Dataset). x.creation ≤ t) is (omega arith) | inr none ↦ absurd none ]
    ]

moved_creation : (b : Bool) (parent : Option DsId) (d : Dataset) → (if b then record d { parent = parent } else d).creation ≡ d.creation
moved_creation b parent d = sym (sym (same_or_moved b parent d).creation)

-- a snapshot is taken
pub snapshot_kept : (t : ℕ) (old new : Graph) (v w : ScanView) (items : List Item) (head : DsId) (of : Dataset) (id : DsId) (label : Name) → of.id ≡ head → MaySnapshot old of id label t
    → AreBlocksKept old new → new ≡ with_snapshot old of id label t → KeepsAtSnapshot head id v w → w ≡ record v { run = w.run; kept = w.kept } → RunsOn t old v items new w items
snapshot_kept t old new v w items head of id label named may kept is keeps rest =
    subst (λ (g : Graph). RunsOn t old v items g w items) (sym is)
    (runs_kept t old (with_snapshot old of id label t) v w items (snapshot_holds old of id label t may.here) same created (λ room scan. keeps room old t t of label named may same scan) rest)
  where
    same : AreBlocksKept old (with_snapshot old of id label t)
    same = subst (λ (g : Graph). AreBlocksKept old g) is kept

    created : (d : Dataset) → Has (with_snapshot old of id label t) d → IsUpTo old t → d.creation ≤ t
    created d h up = elim (from-append (map (moved_onto of.id (Some id)) old) (snapshot_of of id label t ∷ []) d h) [
      | inl was ↦ (let x = from-map (moved_onto of.id (Some id)) old d was in subst (λ (y : Dataset). y.creation ≤ t) x.2 (subst (λ (n : ℕ). n ≤ t) (sym (moved_creation (is_id (x.0).id of.id) (Some id) x.0)) (up.creations x.0 x.1)))
      | inr now ↦ elim now [ inl is ↦ subst (λ (x : Dataset). x.creation ≤ t) is (omega arith) | inr none ↦ absurd none ]
    ]

held_creation : (b : Bool) (d e : Dataset) → e.creation ≡ d.creation → (x : Dataset) → x ≡ (if b then record d { entries = e.entries } else d) → x.creation ≡ d.creation
held_creation true d e same x is = ap (λ (y : Dataset). y.creation) is
held_creation false d e same x is = ap (λ (y : Dataset). y.creation) is

-- two heads are swapped
pub swap_kept : (t : ℕ) (old new : Graph) (v w : ScanView) (items : List Item) (a b : DsId) (x y : Dataset) → x.id ≡ a → y.id ≡ b → MaySwap old x y → AreBlocksKept old new → new ≡ swapped old x y
    → KeepsAtSwap a b v w → w ≡ record v { run = w.run; kept = w.kept } → RunsOn t old v items new w items
swap_kept t old new v w items a b x y is_a is_b may kept is keeps rest =
    subst (λ (g : Graph). RunsOn t old v items g w items) (sym is)
    (runs_kept t old (swapped old x y) v w items (swapped_holds old x y may.first may.second) same created (λ room scan. keeps room old t t x y is_a is_b may same scan) rest)
  where
    same : AreBlocksKept old (swapped old x y)
    same = subst (λ (g : Graph). AreBlocksKept old g) is kept

    creation_of : (d : Dataset) → (holding x.id y.entries (holding y.id x.entries d)).creation ≡ d.creation
    creation_of d = by (is_id (holding y.id x.entries d).id x.id) (is_id d.id y.id) refl refl
      where
        by : (p q : Bool) → is_id (holding y.id x.entries d).id x.id ≡ p → is_id d.id y.id ≡ q → (holding x.id y.entries (holding y.id x.entries d)).creation ≡ d.creation
        by true true e f = rw (e, f) refl
        by true false e f = rw (e, f) refl
        by false true e f = rw (e, f) refl
        by false false e f = rw (e, f) refl

    created : (d : Dataset) → Has (swapped old x y) d → IsUpTo old t → d.creation ≤ t
    created d h up =
        let z = from-map (λ (d : Dataset). holding x.id y.entries (holding y.id x.entries d)) old d h in
        subst (λ (n : ℕ). n ≤ t) (sym (creation_of z.0) ∙ ap (λ (e : Dataset). e.creation) z.2) (up.creations z.0 z.1)

-- the test on items finds an item of the piece, and each item
item_found : (items : List Item) (p : Piece) → has_item items p ≡ true → (i : Item) × Has items i × (i.piece ≡ p)
item_found [] p is = absurd (true≢false (sym is))
item_found (x ∷ xs) p is = go (is_same x.piece p) refl is (λ h. item_found xs p h)
  where
    go : (b : Bool) → is_same x.piece p ≡ b → (b || has_item xs p) ≡ true → (has_item xs p ≡ true → (i : Item) × Has xs i × (i.piece ≡ p)) → (i : Item) × Has (x ∷ xs) i × (i.piece ≡ p)
    go true same h rest = (x, inl refl, same_is x.piece p same)
    go false apart h rest = let f = rest h in (f.0, inr f.1, f.2)

item_there : (items : List Item) (i : Item) → Has items i → has_item items i.piece ≡ true
item_there [] i h = absurd h
item_there (x ∷ xs) i (inl is) = ap (λ b. b || has_item xs i.piece) (subst (λ (y : Item). is_same x.piece y.piece ≡ true) is (same_itself x.piece))
item_there (x ∷ xs) i (inr h) = ap (λ b. is_same x.piece i.piece || b) (item_there xs i h) ∙ or-true (is_same x.piece i.piece)

-- the pieces of the items that are not freed
left_pieces : (items freed : List Item) → pieces_in (filter (λ i. not (has_item freed i.piece)) items) ≡ filter (λ p. not (has_item freed p)) (pieces_in items)
left_pieces items freed = sym (filter-mapped (λ (i : Item). i.piece) (λ p. not (has_item freed p)) items)

-- the items that are not freed are those of what is born and lives after a dataset was destroyed
born_left : (t : ℕ) (old new : Graph) (items freed : List Item) → Holds old new → AreFreed old new freed → AreBornItems old t items → AreBornItems new t (filter (λ i. not (has_item freed i.piece)) items)
born_left t old new items freed holds are b = record {
  in_order = subst (λ (l : List Piece). IsStrictlySortedBy piece_cmp l) (sym (left_pieces items freed)) (IsStrictlySortedBy-filter piece_cmp (λ p. not (has_item freed p)) (pieces_in items) b.in_order);
  each = λ i h.
      let from = from-filter (λ (x : Item). not (has_item freed x.piece)) items i h in
      elim (are.rest i.piece i.sectors i.sum (b.each i from.0)) [
        | inl gone ↦ (let f = from-map (λ (x : Item). x.piece) freed i.piece gone in absurd (true≢false (sym from.1 ∙ ap not (subst (λ (p : Piece). has_item freed p ≡ true) f.2 (item_there freed f.0 f.1)))))
        | inr stays ↦ stays
      ];
  births = λ i h. b.births i (from-filter (λ (x : Item). not (has_item freed x.piece)) items i h).0;
  all = λ p live birth.
      let f = item_found items p (b.all p (live_before old new holds p live) birth) in
      subst (λ (q : Piece). has_item (filter (λ i. not (has_item freed i.piece)) items) q ≡ true) f.2
      (item_there (filter (λ i. not (has_item freed i.piece)) items) f.0 (has-filter (λ (x : Item). not (has_item freed x.piece)) items f.0 f.1 (ap not (spared f.0 (subst (λ (q : Piece). IsLive new q) (sym f.2) live)))));
}
  where
    spared : (i : Item) → IsLive new i.piece → has_item freed i.piece ≡ false
    spared i live = go (has_item freed i.piece) refl
      where
        go : (b : Bool) → has_item freed i.piece ≡ b → b ≡ false
        go false is = refl
        go true is = let f = item_found freed i.piece is in absurd (are.is_gone f.0 f.1 (subst (λ (q : Piece). IsLive new q) (sym f.2) live))

-- a dataset is destroyed
pub destroy_kept : (t : ℕ) (old new : Graph) (v moved w : ScanView) (items left : List Item) (gone : Dataset) (id : DsId) (next : Option DsId) (freed : List Item) → gone.id ≡ id
    → MayDestroy old gone next → AreFreed old new freed → new ≡ destroyed old gone → KeepsAtDestroy id next v moved → moved ≡ record v { run = moved.run; kept = moved.kept } → KeepsFreed freed moved w
    → KeepsRest moved w → left ≡ filter (λ i. not (has_item freed i.piece)) items → RunsOn t old v items new w left
destroy_kept t old new v moved w items left gone id next freed named may are is at_destroy rest at_freed others left_is =
    subst (λ (g : Graph). RunsOn t old v items g w left) (sym is) (record {
      kept = λ start n a. carried old (destroyed old gone) t start n holds a;
      up_to = up_to_held old (destroyed old gone) t holds created;
      scanned = λ room scan. at_freed room (destroyed old gone) t t (at_destroy room old t t gone freed named may same scan);
      born = λ b. subst (λ (l : List Item). AreBornItems (destroyed old gone) t l) (sym left_is) (born_left t old (destroyed old gone) items freed holds same b);
      fewer = λ i h. (from-filter (λ i. not (has_item freed i.piece)) items i (subst (λ (l : List Item). Has l i) left_is h)).0;
      rest = rest_both v moved w (rest_at_run v moved rest) others;
    })
  where
    same : AreFreed old (destroyed old gone) freed
    same = subst (λ (g : Graph). AreFreed old g freed) is are

    holds : Holds old (destroyed old gone)
    holds = destroyed_holds old gone

    created : (d : Dataset) → Has (destroyed old gone) d → IsUpTo old t → d.creation ≤ t
    created d h up =
        let x = from-map (off gone) (without gone.id old) d h in
        subst (λ (y : Dataset). y.creation ≤ t) x.2 (subst (λ (n : ℕ). n ≤ t) (sym (moved_creation (stands_on gone.id (x.0).parent) gone.parent x.0)) (up.creations x.0 (from-filter _ old x.0 x.1).0))

-- a scrub that starts or is resumed keeps them too
start_rest : (t : ℕ) (v w : ScanView) (b : Bool) → runs v.run.status ≡ b → w ≡ record (after_start t 0 v) { room = w.room } → KeepsRest v w
start_rest t v w true is started = started_rest v w (rw is at started)
  where
    started_rest : (v w : ScanView) → w ≡ record (with_paused false v) { room = w.room } → KeepsRest v w
    started_rest v w same = record { limit = ap (λ (x : ScanView). x.limit) same; every = ap (λ (x : ScanView). x.every) same; width = ap (λ (x : ScanView). x.scope.width) same; flight = ap (λ (x : ScanView). x.flight) same }
start_rest t v w false is started = started_rest v w (rw is at started)
  where
    started_rest : (v w : ScanView) → w ≡ record (scrub_started t 0 v) { room = w.room } → KeepsRest v w
    started_rest v w same = record { limit = ap (λ (x : ScanView). x.limit) same; every = ap (λ (x : ScanView). x.every) same; width = ap (λ (x : ScanView). x.scope.width) same; flight = ap (λ (x : ScanView). x.flight) same }

-- what a result says where it is no fault
pub at_none : {A E : Type 0} (r : Result A E) (P : Type 0) → is_err r ≡ false → OnOk r P → P
at_none (Ok x) P is h = h
at_none (Err e) P is h = absurd (true≢false is)

-- a scrub starts, or a paused one is resumed
pub scrub_kept : {A E : Type 0} (t : ℕ) (g : Graph) (v w : ScanView) (items : List Item) (r : Result A E) → is_err r ≡ false
    → OnOk r ((room : Room) (g : Graph) (n h : ℕ) → t ≤ h → IsScanOf room g n h v → IsScanOf room g n h w) → OnOk r (w ≡ record (after_start t 0 v) { room = w.room }) → RunsOn t g v items g w items
scrub_kept t g v w items r no_fault keeps started = record {
  kept = λ start next a. a;
  up_to = λ up. up;
  scanned = λ room scan. at_none r _ no_fault keeps room g t t (omega arith) scan;
  born = λ b. b;
  fewer = λ i h. h;
  rest = start_rest t v w (runs v.run.status) refl (at_none r _ no_fault started);
}

-- a call of a task keeps them too, where it is done and where it is refused
pub told_kept : {A E : Type 0} (t : ℕ) (g : Graph) (v w : ScanView) (items : List Item) (r : Result A E) → OnOk r (Keeps v w) → OnOk r (KeepsRest v w) → OnErr r (w ≡ v) → RunsOn t g v items g w items
told_kept t g v w items (Ok x) keeps rest err = record { kept = λ start next a. a; up_to = λ up. up; scanned = λ room scan. keeps room g t t scan; born = λ b. b; fewer = λ i h. h; rest = rest }
told_kept t g v w items (Err e) keeps rest err = subst (λ (x : ScanView). RunsOn t g v items g x items) (sym err) (runs_none t g v items)

-- what no call of a task changes
pub paused_rest : {A E : Type 0} (b : Bool) (v w : ScanView) (r : Result A E) → OnOk r (w ≡ with_paused b v) → OnOk r (KeepsRest v w)
paused_rest b v w (Ok x) is = record { limit = ap (λ (x : ScanView). x.limit) is; every = ap (λ (x : ScanView). x.every) is; width = ap (λ (x : ScanView). x.scope.width) is; flight = ap (λ (x : ScanView). x.flight) is }
paused_rest b v w (Err e) is = tt

pub stopped_rest : {A E : Type 0} (v w : ScanView) (r : Result A E) → OnOk r (w ≡ stopped v) → OnOk r (KeepsRest v w)
stopped_rest v w (Ok x) is = record { limit = ap (λ (x : ScanView). x.limit) is; every = ap (λ (x : ScanView). x.every) is; width = ap (λ (x : ScanView). x.scope.width) is; flight = ap (λ (x : ScanView). x.flight) is }
stopped_rest v w (Err e) is = tt
