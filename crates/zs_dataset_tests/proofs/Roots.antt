-- Roots may be put over the roots of a head, at a sector behind all others, and datasets that hold roots go on to hold roots.
use Rattle.std.proofs.Common.{◌≡◌, ◌≢◌, ◌⊎◌, ◌<◌, ◌≤◌, ◌+◌, ℕ, Bool, true, false, cond, List, [], ◌∷◌, Option, refl, sym, ap, subst, ◌∙◌, arith}
use Rattle.std.specs.Prelude.{map, Some, None, if◌then◌else◌}
use Rattle.std.specs.Ordering.{match_ordering}
use Rattle.std.specs.declared.cmp.Ordering.{Ordering}
use Rattle.std.specs.declared.cmp.Ordering.TheVariants.{Less, Equal}
use Rattle.std.specs.List.Sorted.{IsStrictlySortedBy}
use Rattle.std.proofs.lemmas.Bool.{true≢false}
use Rattle.zs_ids.specs.declared.key.Key.{Key}
use Rattle.zs_ids.specs.declared.block.Bp.{Bp}
use Rattle.zs_ids.specs.declared.dataset.DsId.{DsId}
use Rattle.zs_ids.specs.declared.dataset.Name.{Name}
use Rattle.zs_ids.specs.Key.{key_cmp, root_key, parent_of}
use Rattle.zs_ids.specs.Blocks.{replaced, entries_with, IsInKeyOrder}
use Rattle.zs_ids.specs.Graph.{Has, Dataset, Graph, pieces_of}
use Rattle.zs_ids.specs.GraphTree.{is_id, created, dataset_at, start_of, IsHome}
use Rattle.zs_ids.specs.GraphValid.{origin, HasBlocks, IsBlock, AreApart, Overlap, IsValid}
use Rattle.zs_ids.specs.GraphValid.IsBlock.{root}
use Rattle.zs_ids.specs.GraphChange.{applied, holding, with_fs, with_snapshot, snapshot_of, moved_onto, MayPut}
use Rattle.zs_graph.specs.View.{GraphView, IsGraph}
use Rattle.zs_graph.specs.Made.{IsFsMade, IsSnapshotTaken, IsUpTo, IsApplied, MayPutAt}
use Rattle.zs_graph.specs.declared.freed.Freed.{Freed}
use Rattle.zs_dataset_tests.specs.Roots.{HoldRoots, IsRootAt}
use Rattle.zs_graph.proofs.Lists.{from-map, from-append, from-find, some≢none}
use Rattle.zs_graph.proofs.Graphs.{cases_id, is_id-same, is_id-other, start_is}
use Rattle.zs_graph.proofs.Births.{last_in_head}
use Rattle.zs_graph.proofs.KeyCases.{key_self}
use Rattle.zs_graph.proofs.Kept.{same_or_moved}
use Rattle.zs_graph.proofs.OnePlaces.{one_apart}
use mathlib.Core.Logic.{inl, inr}

abbrev root_only : Bp → List (Key × Bp)
root_only bp = (root_key, bp) ∷ []

-- a root that is put over a root, or where there is none, is all that there is
root_put : (es : List (Key × Bp)) (bp : Bp) → IsInKeyOrder es → ((e : Key × Bp) → Has es e → e.0 ≡ root_key) → entries_with es (root_only bp) ≡ root_only bp
unfolding IsStrictlySortedBy
root_put [] bp order keys = refl
root_put (e ∷ []) bp order keys =
    let key : e.0 ≡ root_key = keys e (inl refl) in
    ap (λ (o : Ordering). match_ordering o ((root_key, bp) ∷ e ∷ []) ((e.0, bp) ∷ []) (e ∷ replaced [] root_key bp)) (ap (λ (k : Key). key_cmp root_key k) key ∙ key_self root_key) ∙ ap (λ (k : Key). let x : Key × Bp = (k, bp) in x ∷ []) key
root_put (e ∷ f ∷ es) bp order keys =
    let first : e.0 ≡ root_key = keys e (inl refl) in
    let second : f.0 ≡ root_key = keys f (inr (inl refl)) in
    let tied : key_cmp e.0 f.0 ≡ Equal = ap (λ (k : Key). key_cmp k f.0) first ∙ ap (λ (k : Key). key_cmp root_key k) second ∙ key_self root_key in
    absurd (less≢equal (sym order.0.0 ∙ tied))
  where
    less≢equal : Less ≡ Equal → ⊥
    less≢equal e = cc

-- where the datasets keep their ids and creations, they start where they started
start_kept : (f : Dataset → Dataset) → ((d : Dataset) → (f d).id ≡ d.id) → ((d : Dataset) → (f d).creation ≡ d.creation) → (g : Graph) (parent : Option DsId) → start_of (map f g) parent ≡ start_of g parent
start_kept f ids creations g None = refl
start_kept f ids creations g (Some id) = go g
  where
    go : (h : Graph) → created (dataset_at (map f h) id) ≡ created (dataset_at h id)
    go [] = refl
    go (d ∷ ds) =
        ap (λ (x : DsId). created (cond (is_id x id) (Some (f d)) (dataset_at (map f ds) id))) (ids d) ∙ at (is_id d.id id) (go ds)
      where
        at : (b : Bool) → created (dataset_at (map f ds) id) ≡ created (dataset_at ds id) → created (cond b (Some (f d)) (dataset_at (map f ds) id)) ≡ created (cond b (Some d) (dataset_at ds id))
        at true rest = creations d
        at false rest = rest

module _ (g : Graph) (n : ℕ) (valid : IsValid g n) (sector t : ℕ) (roots : HoldRoots g sector t) (bp : Bp) (at : IsRootAt bp sector t) (head : Dataset) (here : Has g head) (is_head : head.head ≡ true) where
  abbrev put : Dataset → Dataset
  put d = holding head.id (entries_with head.entries (root_only bp)) d

  is_root : entries_with head.entries (root_only bp) ≡ root_only bp
  is_root = root_put head.entries bp (valid.holds head here).in_order (λ e h. roots.keys head e here h)

  put_same : (d : Dataset) → ((put d).id ≡ d.id) × ((put d).creation ≡ d.creation) × ((put d).parent ≡ d.parent)
  put_same d = go (is_id d.id head.id)
    where
      go : (b : Bool) → let x : Dataset = if b then record d { entries = entries_with head.entries (root_only bp) } else d in (x.id ≡ d.id) × (x.creation ≡ d.creation) × (x.parent ≡ d.parent)
      go true = (refl, refl, refl)
      go false = (refl, refl, refl)

  later : start_of g head.parent < t
  later = elim (valid.tree.stands head here) [
    | inl o ↦ absurd (true≢false (sym is_head ∙ ap (λ (d : Dataset). d.head) o))
    | inr s ↦ subst (λ (k : ℕ). k < t) (sym (start_is g valid.tree.in_order s.below head.parent s.here s.is_parent)) (roots.creations s.below s.here)
  ]

  blocks : HasBlocks (record head { entries = root_only bp }) t
  unfolding IsStrictlySortedBy
  blocks = record {
    in_order = (tt, tt);
    births = λ e h. elim h [ inl is ↦ (let born : bp.birth ≡ e.1.birth = ap (λ (x : Key × Bp). x.1.birth) is in let last = last_in_head (record head { entries = root_only bp }) t is_head in let same : bp.birth ≡ t = at.birth in omega (arith, born, last, same)) | inr none ↦ absurd none ];
    levels = λ _. 1;
    at_most_four = λ _. omega arith;
    size = λ _. 1;
    is_size = λ _. inl refl;
    blocks = λ e h. elim h [ inl is ↦ subst (λ (x : Key × Bp). IsBlock 1 1 x) is (root refl (record { size = at.sectors; height = at.level; some = (let c : bp.count ≡ 1 = at.count in omega (arith, c)); few = (let c : bp.count ≡ 1 = at.count in omega (arith, c)); apart = one_apart bp.sectors bp.count bp.places at.count })) | inr none ↦ absurd none ];
    parents = λ e h k is. elim h [ inl same ↦ absurd (some≢none k (sym (subst (λ (x : Key × Bp). parent_of x.0 1 ≡ Some k) (sym same) is))) | inr none ↦ absurd none ];
  }

  -- what is at home then is the root that was put, in the head, or was at home in the same dataset
  was_home : (c : Dataset) (e : Key × Bp) → IsHome (applied g head (root_only bp)) c e → (((root_key, bp) ≡ e) × (c.id ≡ head.id)) ⊎ ((x : Dataset) × IsHome g x e × (x.id ≡ c.id))
  was_home c e home = let r = from-map put g c home.here in by r.0 r.1 r.2 (cases_id (r.0).id head.id)
    where
      by : (x : Dataset) → Has g x → put x ≡ c → (x.id ≡ head.id) ⊎ (x.id ≢ head.id) → (((root_key, bp) ≡ e) × (c.id ≡ head.id)) ⊎ ((x : Dataset) × IsHome g x e × (x.id ≡ c.id))
      by x i is (inl same) =
          let with_root : put x ≡ record x { entries = entries_with head.entries (root_only bp) } = ap (λ (b : Bool). if b then record x { entries = entries_with head.entries (root_only bp) } else x) (is_id-same x.id head.id same) in
          let held : Has (entries_with head.entries (root_only bp)) e = subst (λ (d : Dataset). Has d.entries e) (sym is ∙ with_root) home.holds in
          elim (subst (λ (l : List (Key × Bp)). Has l e) is_root held) [ inl new ↦ inl (new, ap (λ (d : Dataset). d.id) (sym is) ∙ (put_same x).0 ∙ same) | inr none ↦ absurd none ]
      by x i is (inr other) =
          let stays : put x ≡ x = ap (λ (b : Bool). if b then record x { entries = entries_with head.entries (root_only bp) } else x) (is_id-other x.id head.id other) in
          let one : c ≡ x = sym is ∙ stays in
          let start : start_of (applied g head (root_only bp)) c.parent ≡ start_of g x.parent = start_kept put (λ d. (put_same d).0) (λ d. (put_same d).1) g c.parent ∙ ap (λ (d : Dataset). start_of g d.parent) one in
          inr (x, record { here = i; holds = subst (λ (d : Dataset). Has d.entries e) one home.holds; born = subst (λ (k : ℕ). k < e.1.birth) start home.born }, ap (λ (d : Dataset). d.id) (sym one))

  -- the root that is put lies behind all others
  far : (y : Dataset) (f : Key × Bp) → Has g y → Has y.entries f → Overlap bp f.1 → ⊥
  far y f i h meet =
      let first : meet.first.place.sector ≡ sector = at.place meet.first meet.is_first in
      let second : meet.second.place.sector + f.1.sectors ≤ sector = roots.places y f meet.second i h meet.is_second in
      let before : meet.first.place.sector < meet.second.place.sector + f.1.sectors = meet.before in
      omega (arith, first, second, before)

  back : (y : Dataset) (f : Key × Bp) → Has g y → Has y.entries f → Overlap f.1 bp → ⊥
  back y f i h meet =
      let second : meet.second.place.sector ≡ sector = at.place meet.second meet.is_second in
      let first : meet.first.place.sector + f.1.sectors ≤ sector = roots.places y f meet.first i h meet.is_first in
      let behind : meet.second.place.sector < meet.first.place.sector + f.1.sectors = meet.behind in
      omega (arith, first, second, behind)

  apart : AreApart (applied g head (root_only bp))
  apart c d e f hc hd meet = elim (was_home c e hc) [
    | inl new ↦ elim (was_home d f hd) [
      | inl also ↦ (new.1 ∙ sym also.1, ap (λ (x : Key × Bp). x.0) (sym new.0 ∙ also.0))
      | inr old ↦ absurd (far old.0 f old.1.here old.1.holds (subst (λ (x : Key × Bp). Overlap x.1 f.1) (sym new.0) meet))
    ]
    | inr old ↦ elim (was_home d f hd) [
      | inl new ↦ absurd (back old.0 e old.1.here old.1.holds (subst (λ (x : Key × Bp). Overlap e.1 x.1) (sym new.0) meet))
      | inr also ↦ let r = valid.apart old.0 also.0 e f old.1 also.1 meet in (sym old.2 ∙ r.0 ∙ also.2, r.1)
    ]
  ]

  may_put : MayPut g head (root_only bp) t
  unfolding IsStrictlySortedBy
  may_put = record {
    here = here;
    is_head = is_head;
    later = later;
    older = λ e h. roots.births head e here h;
    born = λ e h. elim h [ inl is ↦ ap (λ (x : Key × Bp). x.1.birth) (sym is) ∙ at.birth | inr none ↦ absurd none ];
    in_order = (tt, tt);
    blocks = subst (λ (es : List (Key × Bp)). HasBlocks (record head { entries = es }) t) (sym is_root) blocks;
    apart = apart;
  }

  -- all hold roots still
  roots_put : HoldRoots (applied g head (root_only bp)) (sector + 8) (t + 1)
  roots_put = record {
    keys = λ d e i h. elim (held d e i h) [ inl new ↦ ap (λ (x : Key × Bp). x.0) (sym new) | inr old ↦ roots.keys old.0 e old.1 old.2 ];
    births = λ d e i h. elim (held d e i h) [ inl new ↦ (let b : bp.birth ≡ e.1.birth = ap (λ (x : Key × Bp). x.1.birth) new in let same : bp.birth ≡ t = at.birth in omega (arith, b, same)) | inr old ↦ (let b : e.1.birth < t = roots.births old.0 e old.1 old.2 in omega (arith, b)) ];
    places = λ d e p i h is. elim (held d e i h) [ inl new ↦ (let s : p.place.sector ≡ sector = at.place p (subst (λ (x : Key × Bp). Has (pieces_of x.1) p) (sym new) is) in let b : bp.sectors ≡ e.1.sectors = ap (λ (x : Key × Bp). x.1.sectors) new in let eight : bp.sectors ≡ 8 = at.sectors in omega (arith, s, b, eight)) | inr old ↦ (let low : p.place.sector + e.1.sectors ≤ sector = roots.places old.0 e p old.1 old.2 is in omega (arith, low)) ];
    creations = λ d i. let r = from-map put g d i in let c : (r.0).creation < t = roots.creations r.0 r.1 in let same : d.creation ≡ (r.0).creation = ap (λ (x : Dataset). x.creation) (sym r.2) ∙ (put_same r.0).1 in omega (arith, c, same);
  }
    where
      held : (d : Dataset) (e : Key × Bp) → Has (applied g head (root_only bp)) d → Has d.entries e → ((root_key, bp) ≡ e) ⊎ ((x : Dataset) × Has g x × Has x.entries e)
      held d e i h = let r = from-map put g d i in by (is_id (r.0).id head.id) r.0 r.1 (subst (λ (x : Dataset). Has x.entries e) (sym r.2) h)
        where
          by : (b : Bool) (x : Dataset) → Has g x → Has (if b then record x { entries = entries_with head.entries (root_only bp) } else x).entries e → ((root_key, bp) ≡ e) ⊎ ((x : Dataset) × Has g x × Has x.entries e)
          by true x i h = elim (subst (λ (l : List (Key × Bp)). Has l e) is_root h) [ inl new ↦ inl new | inr none ↦ absurd none ]
          by false x i h = inr (x, i, h)

-- as a call puts it
pub root_allowed : (v : GraphView) (facts : IsGraph v) (head : DsId) (sector t : ℕ) → HoldRoots v.sets sector t → (bp : Bp) → IsRootAt bp sector t → MayPutAt v.sets head (root_only bp) t
root_allowed v facts head sector t roots bp at d is on =
    may_put v.sets facts.last facts.valid sector t roots bp at d (from-find (λ (x : Dataset). is_id x.id head) v.sets d is).0 on

pub root_made : (v new : GraphView) (facts : IsGraph v) (head : DsId) (sector t : ℕ) → HoldRoots v.sets sector t → (bp : Bp) → IsRootAt bp sector t → (freed : Freed) → IsApplied v head (root_only bp) t freed new → HoldRoots new.sets (sector + 8) (t + 1)
root_made v new facts head sector t roots bp at freed made =
    subst (λ (w : GraphView). HoldRoots w.sets (sector + 8) (t + 1)) (sym made.now) (roots_put v.sets facts.last facts.valid sector t roots bp at made.to made.may.here made.may.is_head)

-- a snapshot of such a head may be taken
pub roots_up_to : (g : Graph) (sector t : ℕ) → HoldRoots g sector (t + 1) → IsUpTo g t
roots_up_to g sector t roots = record {
  births = λ d e i h. let b : e.1.birth < t + 1 = roots.births d e i h in omega (arith, b);
  creations = λ d i. let c : d.creation < t + 1 = roots.creations d i in omega (arith, c);
}

pub roots_taken : (v new : GraphView) (head : DsId) (label : Name) (id : DsId) (sector t : ℕ) → HoldRoots v.sets sector (t + 1) → IsSnapshotTaken v head label t id new → HoldRoots new.sets sector (t + 1)
roots_taken v new head label id sector t roots made = subst (λ (g : Graph). HoldRoots g sector (t + 1)) (sym made.now) (record {
  keys = λ d e i h. let r = held d i in roots.keys r.0 e r.1 (subst (λ (l : List (Key × Bp)). Has l e) r.2 h);
  births = λ d e i h. let r = held d i in roots.births r.0 e r.1 (subst (λ (l : List (Key × Bp)). Has l e) r.2 h);
  places = λ d e p i h is. let r = held d i in roots.places r.0 e p r.1 (subst (λ (l : List (Key × Bp)). Has l e) r.2 h) is;
  creations = creations;
})
  where
    held : (d : Dataset) → Has (with_snapshot v.sets made.of id label t) d → (x : Dataset) × Has v.sets x × (d.entries ≡ x.entries)
    held d i = elim (from-append (map (moved_onto made.of.id (Some id)) v.sets) (snapshot_of made.of id label t ∷ []) d i) [
      | inl old ↦ let r = from-map (moved_onto made.of.id (Some id)) v.sets d old in (r.0, r.1, ap (λ (x : Dataset). x.entries) (sym r.2) ∙ (same_or_moved (is_id (r.0).id made.of.id) (Some id) r.0).entries)
      | inr new ↦ elim new [ inl is ↦ (made.of, made.may.here, ap (λ (x : Dataset). x.entries) (sym is)) | inr none ↦ absurd none ]
    ]

    creations : (d : Dataset) → Has (with_snapshot v.sets made.of id label t) d → d.creation < t + 1
    creations d i = elim (from-append (map (moved_onto made.of.id (Some id)) v.sets) (snapshot_of made.of id label t ∷ []) d i) [
      | inl old ↦ let r = from-map (moved_onto made.of.id (Some id)) v.sets d old in let same : d.creation ≡ (r.0).creation = ap (λ (x : Dataset). x.creation) (sym r.2) ∙ (same_or_moved (is_id (r.0).id made.of.id) (Some id) r.0).creation in let c : (r.0).creation < t + 1 = roots.creations r.0 r.1 in omega (arith, same, c)
      | inr new ↦ elim new [ inl is ↦ (let same : t ≡ d.creation = ap (λ (x : Dataset). x.creation) is in omega (arith, same)) | inr none ↦ absurd none ]
    ]

-- a filesystem on the origin alone
pub roots_begin : (old new : GraphView) (id : DsId) (name : Name) → old ≡ record { sets = origin ∷ []; next = 1 } → IsFsMade old name id new → HoldRoots new.sets 8 2
roots_begin old new id name e made = subst (λ (g : Graph). HoldRoots g 8 2) (sym (made.now ∙ ap (λ (v : GraphView). with_fs v.sets id name) e)) (record {
  keys = λ d f i h. absurd (none d f i h);
  births = λ d f i h. absurd (none d f i h);
  places = λ d f p i h is. absurd (none d f i h);
  creations = created_early;
})
  where
    none : (d : Dataset) (f : Key × Bp) → Has (with_fs (origin ∷ []) id name) d → Has d.entries f → ⊥
    none d f (inl is) h = subst (λ (x : Dataset). Has x.entries f) (sym is) h
    none d f (inr (inl is)) h = subst (λ (x : Dataset). Has x.entries f) (sym is) h
    none d f (inr (inr no_more)) h = absurd no_more

    created_early : (d : Dataset) → Has (with_fs (origin ∷ []) id name) d → d.creation < 2
    created_early d (inl is) = let c : 1 ≡ d.creation = ap (λ (x : Dataset). x.creation) is in omega (arith, c)
    created_early d (inr (inl is)) = let c : 0 ≡ d.creation = ap (λ (x : Dataset). x.creation) is in omega (arith, c)
    created_early d (inr (inr no_more)) = absurd no_more
