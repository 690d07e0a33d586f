-- The graph with a new snapshot: its datasets, its tree and its validity.
use Rattle.std.proofs.Common.{◌≡◌, ◌≢◌, ◌<◌, ◌≤◌, ◌+◌, ℕ, Bool, false, [], ◌∷◌, length, refl, sym, ap, subst, ◌∙◌, arith, length-append}
use Rattle.std.specs.Prelude.{map, Some, if◌then◌else◌}
use Rattle.std.proofs.lemmas.Bool.{true≢false, cases_order}
use Rattle.zs_ids.specs.declared.key.Key.{Key}
use Rattle.zs_ids.specs.declared.block.Bp.{Bp}
use Rattle.zs_ids.specs.declared.dataset.DsId.{DsId}
use Rattle.zs_ids.specs.declared.dataset.Name.{Name}
use Rattle.zs_ids.specs.declared.dataset.TheConstants.Name.{EMPTY}
use Rattle.zs_ids.specs.Graph.{Has, Dataset, Graph}
use Rattle.zs_ids.specs.GraphTree.{is_id, IsHome, start_of}
use Rattle.zs_ids.specs.GraphValid.{origin, IsTree, StandsOnSnapshot, last_birth, HasBlocks, Shares, IsValid}
use Rattle.zs_ids.specs.GraphChange.{MaySnapshot, with_snapshot, snapshot_of, moved_onto}
use Rattle.zs_graph.proofs.Places.{instead, instead-is, instead-other}
use Rattle.zs_graph.proofs.Lists.{has-left, has-right, from-append, has-map, from-map, some_is, some≢none}
use Rattle.zs_graph.proofs.Graphs.{is_id-same, is_id-other, cases_id, one_dataset, start_is, in_order-map, in_order-push, length-mapped}
use Rattle.zs_graph.proofs.Births.{last_in_head}
use Rattle.zs_graph.proofs.Kept.{IsSame, same_or_moved, last_same, blocks_kept, shares_kept, shares_all, Holds, WasHome, apart_kept}
use mathlib.Core.Logic.{inl, inr}

module _ (g : Graph) (n h : ℕ) (early : n ≤ h) (valid : IsValid g n) (head : Dataset) (id : DsId) (label : Name) (may : MaySnapshot g head id label h) where
  -- the snapshot, and the head on it
  abbrev pub snap : Dataset
  snap = snapshot_of head id label h

  abbrev pub above_snap : Dataset
  above_snap = record head { parent = Some id }

  abbrev pub new : Graph
  new = with_snapshot g head id label h

  abbrev put : Dataset → Dataset
  put d = moved_onto head.id (Some id) d

  put_same : (d : Dataset) → IsSame (put d) d
  put_same d = same_or_moved (is_id d.id head.id) (Some id) d

  -- no dataset had the new id
  pub not_new : (d : Dataset) → Has g d → d.id ≢ id
  not_new d i e = let l : d.id.0 < id.0 = may.fresh d i in let s : d.id.0 ≡ id.0 = ap (λ (x : DsId). x.0) e in absurd (omega (arith, l, s))

  pub has_snap : Has new snap
  has_snap = has-right (map put g) (snap ∷ []) snap (inl refl)

  put_head : put head ≡ above_snap
  put_head = ap (λ (t : Bool). if t then record head { parent = Some id } else head) (is_id-same head.id head.id refl)

  pub has_above : Has new above_snap
  has_above = has-left (map put g) (snap ∷ []) above_snap (subst (λ (d : Dataset). Has (map put g) d) put_head (has-map put g head may.here))

  put_other : (d : Dataset) → d.id ≢ head.id → put d ≡ d
  put_other d ne = ap (λ (t : Bool). if t then record d { parent = Some id } else d) (is_id-other d.id head.id ne)

  pub has_other : (d : Dataset) → Has g d → d.id ≢ head.id → Has new d
  has_other d i ne = has-left (map put g) (snap ∷ []) d (subst (λ (x : Dataset). Has (map put g) x) (put_other d ne) (has-map put g d i))

  -- a snapshot of the old graph is none of the head
  pub not_head : (d : Dataset) → Has g d → d.head ≡ false → d.id ≢ head.id
  not_head d i snapshot e =
      let s : d ≡ head = one_dataset g (valid.tree).in_order d head i may.here e in
      true≢false (sym may.is_head ∙ sym (ap (λ (x : Dataset). x.head) s) ∙ snapshot)

  -- a dataset of the new graph: the snapshot, the head on it, or another one
  pub data Now (x : Dataset) : Type 0 where
    is_snap : snap ≡ x → Now x
    is_above : above_snap ≡ x → Now x
    is_other : Has g x → x.id ≢ head.id → Now x

  pub now : (x : Dataset) → Has new x → Now x
  now x i = elim (from-append (map put g) (snap ∷ []) x i) [
    | inl l ↦ let f = from-map put g x l in elim (cases_id (f.0).id head.id) [
      | inl e ↦ is_above (sym put_head ∙ ap put (sym (one_dataset g (valid.tree).in_order f.0 head f.1 may.here e)) ∙ f.2)
      | inr ne ↦ let is : f.0 ≡ x = sym (put_other f.0 ne) ∙ f.2 in is_other (subst (λ (d : Dataset). Has g d) is f.1) (subst (λ (d : Dataset). d.id ≢ head.id) is ne)
    ]
    | inr r ↦ elim r [ inl e ↦ is_snap e | inr none ↦ absurd none ]
  ]

  -- what each dataset holds now one held before
  pub holds : Holds g new
  holds x i = elim (now x i) [
    | is_snap e ↦ (head, may.here, ap (λ (d : Dataset). d.entries) (sym e))
    | is_above e ↦ (head, may.here, ap (λ (d : Dataset). d.entries) (sym e))
    | is_other j ne ↦ (x, j, refl)
  ]

  -- a parent in the old graph is one in the new one
  stands_other : (d : Dataset) → StandsOnSnapshot g d → StandsOnSnapshot new d
  stands_other d s = record { below = s.below; here = has_other s.below s.here (not_head s.below s.here s.is_snapshot); is_parent = s.is_parent; is_snapshot = s.is_snapshot; rises = s.rises }

  -- the head stands on a snapshot
  pub head_stands : StandsOnSnapshot g head
  head_stands = elim ((valid.tree).stands head may.here) [
    | inl e ↦ absurd (true≢false (sym may.is_head ∙ ap (λ (d : Dataset). d.head) e))
    | inr s ↦ s
  ]

  -- which was created before
  pub parent_older : head_stands.below.creation < h
  parent_older =
      let s = head_stands in
      let start : start_of g head.parent ≡ s.below.creation = start_is g (valid.tree).in_order s.below head.parent s.here s.is_parent in
      let old : s.below.creation ≤ n = (valid.tree).created s.below s.here in
      elim (cases_order s.below.creation h) [
        | inl e ↦ absurd (may.other_txg (start ∙ e))
        | inr o ↦ elim o [ inl l ↦ l | inr more ↦ absurd (omega (arith, more, old, early)) ]
      ]

  stands_snap : StandsOnSnapshot new snap
  stands_snap = let s = head_stands in record { below = s.below; here = has_other s.below s.here (not_head s.below s.here s.is_snapshot); is_parent = s.is_parent; is_snapshot = s.is_snapshot; rises = λ e. parent_older }

  pub tree : IsTree new h
  tree = record {
    root = has_other origin (valid.tree).root (not_head origin (valid.tree).root refl);
    stands = λ x i. elim (now x i) [
      | is_snap e ↦ inr (subst (λ (d : Dataset). StandsOnSnapshot new d) e stands_snap)
      | is_above e ↦ inr (subst (λ (d : Dataset). StandsOnSnapshot new d) e (record { below = snap; here = has_snap; is_parent = refl; is_snapshot = refl; rises = λ off. absurd (true≢false (sym may.is_head ∙ off)) }))
      | is_other j ne ↦ elim ((valid.tree).stands x j) [ inl o ↦ inl o | inr s ↦ inr (stands_other x s) ]
    ];
    in_order = in_order-push (map put g) snap (in_order-map put (λ d. (put_same d).id) g (valid.tree).in_order) (λ x i. let f = from-map put g x i in subst (λ (d : Dataset). d.id.0 < id.0) f.2 (subst (λ (y : DsId). y.0 < id.0) (sym (put_same f.0).id) (may.fresh f.0 f.1)));
    few = let l : length new ≡ length (map put g) + 1 = length-append (map put g) (snap ∷ []) in let k : length (map put g) ≡ length g = length-mapped put g in let room : length g < 255 = may.room in omega (arith, l, k, room);
    names = λ a b i j hd ow la. elim (now a i) [
      | is_snap ea ↦ elim (now b j) [
        | is_snap eb ↦ ap (λ (d : Dataset). d.id) (sym ea ∙ eb)
        | is_above eb ↦ absurd (heads_differ a b ea eb hd)
        | is_other k ne ↦ absurd (may.free b k (sym hd ∙ ap (λ (d : Dataset). d.head) (sym ea)) (sym ow ∙ ap (λ (d : Dataset). d.owner) (sym ea)) (sym la ∙ ap (λ (d : Dataset). d.label) (sym ea)))
      ]
      | is_above ea ↦ elim (now b j) [
        | is_snap eb ↦ absurd (heads_differ b a eb ea (sym hd))
        | is_above eb ↦ ap (λ (d : Dataset). d.id) (sym ea ∙ eb)
        | is_other k ne ↦ ap (λ (d : Dataset). d.id) (sym ea) ∙ (valid.tree).names head b may.here k (ap (λ (d : Dataset). d.head) ea ∙ hd) (ap (λ (d : Dataset). d.owner) ea ∙ ow) (ap (λ (d : Dataset). d.label) ea ∙ la)
      ]
      | is_other l ne ↦ elim (now b j) [
        | is_snap eb ↦ absurd (may.free a l (hd ∙ ap (λ (d : Dataset). d.head) (sym eb)) (ow ∙ ap (λ (d : Dataset). d.owner) (sym eb)) (la ∙ ap (λ (d : Dataset). d.label) (sym eb)))
        | is_above eb ↦ (valid.tree).names a head l may.here (hd ∙ ap (λ (d : Dataset). d.head) (sym eb)) (ow ∙ ap (λ (d : Dataset). d.owner) (sym eb)) (la ∙ ap (λ (d : Dataset). d.label) (sym eb)) ∙ ap (λ (d : Dataset). d.id) eb
        | is_other k ne2 ↦ (valid.tree).names a b l k hd ow la
      ]
    ];
    created = λ x i. elim (now x i) [
      | is_snap e ↦ subst (λ (d : Dataset). d.creation ≤ h) e (omega arith)
      | is_above e ↦ subst (λ (d : Dataset). d.creation ≤ h) e (let c : head.creation ≤ n = (valid.tree).created head may.here in omega (arith, c, early))
      | is_other j ne ↦ let c : x.creation ≤ n = (valid.tree).created x j in omega (arith, c, early)
    ];
    heads = λ x i hd. elim (now x i) [
      | is_snap e ↦ absurd (true≢false (sym hd ∙ ap (λ (d : Dataset). d.head) (sym e)))
      | is_above e ↦ subst (λ (d : Dataset). (d.creation ≡ 0) × (d.label ≡ EMPTY)) e ((valid.tree).heads head may.here may.is_head)
      | is_other j ne ↦ (valid.tree).heads x j hd
    ];
  }
    where
      heads_differ : (a b : Dataset) → snap ≡ a → above_snap ≡ b → a.head ≡ b.head → ⊥
      heads_differ a b ea eb hd = true≢false (sym may.is_head ∙ ap (λ (d : Dataset). d.head) eb ∙ sym hd ∙ ap (λ (d : Dataset). d.head) (sym ea))

  -- the new graph's datasets hold blocks in order, and share what they shared
  holds_blocks : (x : Dataset) → Has new x → HasBlocks x h
  holds_blocks x i = elim (now x i) [
    | is_snap e ↦ subst (λ (d : Dataset). HasBlocks d h) e (blocks_kept snap head n h refl (let l : last_birth head n ≡ n = last_in_head head n may.is_head in omega (arith, l, early)) (valid.holds head may.here))
    | is_above e ↦ subst (λ (d : Dataset). HasBlocks d h) e (blocks_kept above_snap head n h refl (last_same above_snap head n h refl refl early) (valid.holds head may.here))
    | is_other j ne ↦ blocks_kept x x n h refl (last_same x x n h refl refl early) (valid.holds x j)
  ]

  -- what stood on a dataset of the old graph is not the new snapshot's
  pub not_on_new : (d : Dataset) → Has g d → d.parent ≡ Some id → ⊥
  not_on_new d i e = elim ((valid.tree).stands d i) [
    | inl o ↦ some≢none id (sym e ∙ ap (λ (x : Dataset). x.parent) o)
    | inr s ↦ not_new s.below s.here (some_is s.below.id id (sym s.is_parent ∙ e))
  ]

  -- the parents in the new graph
  shares : (d p : Dataset) → Has new d → Has new p → d.parent ≡ Some p.id → Shares d p
  shares d p i j e = elim (now d i) [
    | is_snap ed ↦ elim (now p j) [
      | is_snap ep ↦ absurd (not_on_new head may.here (ap (λ (x : Dataset). x.parent) ed ∙ e ∙ ap (λ (x : Dataset). Some x.id) (sym ep)))
      | is_above ep ↦ absurd (not_head (head_stands.below) (head_stands.here) (head_stands.is_snapshot) (some_is (head_stands.below.id) head.id (sym (head_stands.is_parent) ∙ ap (λ (x : Dataset). x.parent) ed ∙ e ∙ ap (λ (x : Dataset). Some x.id) (sym ep))))
      | is_other k ne ↦ shares_kept d p head p (ap (λ (x : Dataset). x.entries) (sym ed)) refl refl (valid.shares head p may.here k (ap (λ (x : Dataset). x.parent) ed ∙ e))
    ]
    | is_above ed ↦ elim (now p j) [
      | is_snap ep ↦ shares_all d p (ap (λ (x : Dataset). x.entries) (sym ed) ∙ ap (λ (x : Dataset). x.entries) ep)
      | is_above ep ↦ absurd (not_new head may.here (sym (some_is id head.id (ap (λ (x : Dataset). x.parent) ed ∙ e ∙ ap (λ (x : Dataset). Some x.id) (sym ep)))))
      | is_other k ne ↦ absurd (not_new p k (sym (some_is id p.id (ap (λ (x : Dataset). x.parent) ed ∙ e))))
    ]
    | is_other l ne ↦ elim (now p j) [
      | is_snap ep ↦ absurd (not_on_new d l (e ∙ ap (λ (x : Dataset). Some x.id) (sym ep)))
      | is_above ep ↦ absurd (not_on_head d l (e ∙ ap (λ (x : Dataset). Some x.id) (sym ep)))
      | is_other k ne2 ↦ valid.shares d p l k e
    ]
  ]
    where
      not_on_head : (x : Dataset) → Has g x → x.parent ≡ Some head.id → ⊥
      not_on_head x hx ex = elim ((valid.tree).stands x hx) [
        | inl o ↦ some≢none head.id (sym ex ∙ ap (λ (y : Dataset). y.parent) o)
        | inr s ↦ not_head s.below s.here s.is_snapshot (some_is s.below.id head.id (sym s.is_parent ∙ ex))
      ]

  -- an old dataset starts where it started
  start_other : (x : Dataset) → Has g x → StandsOnSnapshot g x → start_of new x.parent ≡ start_of g x.parent
  start_other x i s =
      start_is new (tree.in_order) s.below x.parent (has_other s.below s.here (not_head s.below s.here s.is_snapshot)) s.is_parent ∙ sym (start_is g (valid.tree).in_order s.below x.parent s.here s.is_parent)

  -- what is at home now was at home before: the snapshot has what the head had
  pub was_home : (x : Dataset) (e : Key × Bp) → IsHome new x e → WasHome g (instead head.id id) x e
  was_home x e home = elim (now x home.here) [
    | is_snap ex ↦ record { holder = head; home = record { here = may.here; holds = subst (λ (d : Dataset). Has d.entries e) (sym ex) home.holds; born = subst (λ (k : ℕ). k < e.1.birth) (start_other head may.here head_stands) (subst (λ (d : Dataset). start_of new d.parent < e.1.birth) (sym ex) home.born) }; placed = ap (λ (d : Dataset). d.id) (sym ex) ∙ sym (instead-is head.id id head.id refl) }
    | is_above ex ↦ absurd (too_old (subst (λ (d : Dataset). Has d.entries e) (sym ex) home.holds) (subst (λ (d : Dataset). start_of new d.parent < e.1.birth) (sym ex) home.born))
    | is_other j ne ↦ elim ((valid.tree).stands x j) [
      | inl o ↦ absurd (subst (λ (d : Dataset). Has d.entries e) o home.holds)
      | inr s ↦ record { holder = x; home = record { here = j; holds = home.holds; born = subst (λ (k : ℕ). k < e.1.birth) (start_other x j s) home.born }; placed = sym (instead-other head.id id x.id ne) }
    ]
  ]
    where
      too_old : Has head.entries e → start_of new (Some id) < e.1.birth → ⊥
      too_old i born =
          let start : start_of new (Some id) ≡ h = start_is new (tree.in_order) snap (Some id) has_snap refl in
          let low : e.1.birth ≤ last_birth head n = (valid.holds head may.here).births e i in
          let last : last_birth head n ≡ n = last_in_head head n may.is_head in
          absurd (omega (arith, start, low, last, early, born))

  pub new_valid : IsValid new h
  new_valid = record { tree = tree; holds = holds_blocks; shares = shares; apart = apart_kept g new (instead head.id id) was_home valid.apart }
