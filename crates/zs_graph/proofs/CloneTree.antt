-- The graph with a head that is made on a snapshot: its datasets, its tree and its validity.
use Rattle.std.proofs.Common.{◌≡◌, ◌≢◌, ◌⊎◌, ◌<◌, ◌≤◌, ◌+◌, ℕ, [], ◌∷◌, length, refl, sym, ap, subst, ◌∙◌, arith, length-append}
use Rattle.std.specs.Prelude.{Some}
use Rattle.std.proofs.lemmas.Bool.{true≢false}
use Rattle.zs_ids.specs.declared.key.Key.{Key}
use Rattle.zs_ids.specs.declared.block.Bp.{Bp}
use Rattle.zs_ids.specs.declared.dataset.DsId.{DsId}
use Rattle.zs_ids.specs.declared.dataset.Name.{Name}
use Rattle.zs_ids.specs.declared.dataset.TheConstants.Name.{EMPTY}
use Rattle.zs_ids.specs.Graph.{Has, Dataset, Graph}
use Rattle.zs_ids.specs.GraphTree.{IsHome, IsParent, Above, start_of}
use Rattle.zs_ids.specs.GraphTree.Above.{direct, up}
use Rattle.zs_ids.specs.GraphValid.{origin, IsTree, StandsOnSnapshot, last_birth, HasBlocks, Shares, IsValid}
use Rattle.zs_ids.specs.GraphChange.{MayClone, cloned, head_on}
use Rattle.zs_graph.proofs.Lists.{has-left, has-right, from-append, some_is, some≢none}
use Rattle.zs_graph.proofs.Graphs.{one_dataset, start_is, in_order-push}
use Rattle.zs_graph.proofs.Births.{last_in_snapshot}
use Rattle.zs_graph.proofs.Kept.{last_same, blocks_kept, shares_all, Holds, WasHome, apart_kept}
use mathlib.Core.Logic.{inl, inr}

module _ (g : Graph) (n h : ℕ) (early : n ≤ h) (valid : IsValid g n) (snap : Dataset) (id : DsId) (name : Name) (may : MayClone g snap id name) where
  abbrev pub made : Dataset
  made = head_on snap id name

  abbrev pub new : Graph
  new = cloned g snap id name

  pub has_made : Has new made
  has_made = has-right g (made ∷ []) made (inl refl)

  pub has_old : (d : Dataset) → Has g d → Has new d
  has_old d i = has-left g (made ∷ []) d i

  pub from_new : (d : Dataset) → Has new d → Has g d ⊎ (made ≡ d)
  from_new d i = elim (from-append g (made ∷ []) d i) [
    | inl l ↦ inl l
    | inr r ↦ elim r [ inl e ↦ inr e | inr none ↦ absurd none ]
  ]

  pub not_new : (d : Dataset) → Has g d → d.id ≢ id
  not_new d i e = let l : d.id.0 < id.0 = may.fresh d i in let s : d.id.0 ≡ id.0 = ap (λ (x : DsId). x.0) e in absurd (omega (arith, l, s))

  pub holds : Holds g new
  holds x i = elim (from_new x i) [
    | inl j ↦ (x, j, refl)
    | inr e ↦ (snap, may.here, ap (λ (d : Dataset). d.entries) (sym e))
  ]

  stands_old : (d : Dataset) → StandsOnSnapshot g d → StandsOnSnapshot new d
  stands_old d s = record { below = s.below; here = has_old s.below s.here; is_parent = s.is_parent; is_snapshot = s.is_snapshot; rises = s.rises }

  pub tree : IsTree new h
  tree = record {
    root = has_old origin (valid.tree).root;
    stands = λ x i. elim (from_new x i) [
      | inl j ↦ elim ((valid.tree).stands x j) [ inl o ↦ inl o | inr s ↦ inr (stands_old x s) ]
      | inr e ↦ inr (subst (λ (d : Dataset). StandsOnSnapshot new d) e (record { below = snap; here = has_old snap may.here; is_parent = refl; is_snapshot = may.is_snapshot; rises = λ off. absurd (true≢false off) }))
    ];
    in_order = in_order-push g made (valid.tree).in_order may.fresh;
    few = let l : length new ≡ length g + 1 = length-append g (made ∷ []) in let room : length g < 255 = may.room in omega (arith, l, room);
    names = λ a b i j hd ow la. elim (from_new a i) [
      | inl k ↦ elim (from_new b j) [
        | inl l ↦ (valid.tree).names a b k l hd ow la
        | inr eb ↦ absurd (may.free a k (hd ∙ ap (λ (d : Dataset). d.head) (sym eb)) (ow ∙ ap (λ (d : Dataset). d.owner) (sym eb)))
      ]
      | inr ea ↦ elim (from_new b j) [
        | inl l ↦ absurd (may.free b l (sym hd ∙ ap (λ (d : Dataset). d.head) (sym ea)) (sym ow ∙ ap (λ (d : Dataset). d.owner) (sym ea)))
        | inr eb ↦ ap (λ (d : Dataset). d.id) (sym ea ∙ eb)
      ]
    ];
    created = λ x i. elim (from_new x i) [
      | inl j ↦ let c : x.creation ≤ n = (valid.tree).created x j in omega (arith, c, early)
      | inr e ↦ subst (λ (d : Dataset). d.creation ≤ h) e (omega arith)
    ];
    heads = λ x i hd. elim (from_new x i) [
      | inl j ↦ (valid.tree).heads x j hd
      | inr e ↦ subst (λ (d : Dataset). (d.creation ≡ 0) × (d.label ≡ EMPTY)) e (refl, refl)
    ];
  }

  made_blocks : HasBlocks made h
  made_blocks =
      let last : last_birth snap n ≡ snap.creation = last_in_snapshot snap n may.is_snapshot in
      let old : snap.creation ≤ n = (valid.tree).created snap may.here in
      blocks_kept made snap n h refl (omega (arith, last, old, early)) (valid.holds snap may.here)

  pub not_on_new : (d : Dataset) → Has g d → d.parent ≡ Some id → ⊥
  not_on_new d i e = elim ((valid.tree).stands d i) [
    | inl o ↦ some≢none id (sym e ∙ ap (λ (x : Dataset). x.parent) o)
    | inr s ↦ not_new s.below s.here (some_is s.below.id id (sym s.is_parent ∙ e))
  ]

  shares : (d p : Dataset) → Has new d → Has new p → d.parent ≡ Some p.id → Shares d p
  shares d p i j e = elim (from_new d i) [
    | inl k ↦ elim (from_new p j) [
      | inl l ↦ valid.shares d p k l e
      | inr ep ↦ absurd (not_on_new d k (e ∙ ap (λ (x : Dataset). Some x.id) (sym ep)))
    ]
    | inr ed ↦ elim (from_new p j) [
      | inl l ↦ shares_all d p (ap (λ (x : Dataset). x.entries) (sym ed) ∙ ap (λ (x : Dataset). x.entries) (one_dataset g (valid.tree).in_order snap p may.here l (some_is snap.id p.id (ap (λ (x : Dataset). x.parent) ed ∙ e))))
      | inr ep ↦ absurd (not_new snap may.here (some_is snap.id id (ap (λ (x : Dataset). x.parent) ed ∙ e ∙ ap (λ (x : Dataset). Some x.id) (sym ep))))
    ]
  ]

  -- nothing is at home in the new head, and all else where it was
  pub was_home : (x : Dataset) (e : Key × Bp) → IsHome new x e → WasHome g (λ (y : DsId). y) x e
  was_home x e home = elim (from_new x home.here) [
    | inl j ↦ elim ((valid.tree).stands x j) [
      | inl o ↦ absurd (subst (λ (d : Dataset). Has d.entries e) o home.holds)
      | inr s ↦ record { holder = x; home = record { here = j; holds = home.holds; born = subst (λ (k : ℕ). k < e.1.birth) (start_is new tree.in_order s.below x.parent (has_old s.below s.here) s.is_parent ∙ sym (start_is g (valid.tree).in_order s.below x.parent s.here s.is_parent)) home.born }; placed = refl }
    ]
    | inr ex ↦ absurd (too_old (subst (λ (d : Dataset). Has d.entries e) (sym ex) home.holds) (subst (λ (d : Dataset). start_of new d.parent < e.1.birth) (sym ex) home.born))
  ]
    where
      too_old : Has snap.entries e → start_of new (Some snap.id) < e.1.birth → ⊥
      too_old i born =
          let start : start_of new (Some snap.id) ≡ snap.creation = start_is new tree.in_order snap (Some snap.id) (has_old snap may.here) refl in
          let low : e.1.birth ≤ last_birth snap n = (valid.holds snap may.here).births e i in
          let last : last_birth snap n ≡ snap.creation = last_in_snapshot snap n may.is_snapshot in
          absurd (omega (arith, start, low, last, born))

  pub new_valid : IsValid new h
  new_valid = record {
    tree = tree;
    holds = λ x i. elim (from_new x i) [
      | inl j ↦ blocks_kept x x n h refl (last_same x x n h refl refl early) (valid.holds x j)
      | inr e ↦ subst (λ (d : Dataset). HasBlocks d h) e made_blocks
    ];
    shares = shares;
    apart = apart_kept g new (λ (y : DsId). y) was_home valid.apart;
  }

  pub parent_stays : (a c : DsId) → IsParent g a c → IsParent new a c
  parent_stays a c p = record { child = p.child; here = has_old p.child p.here; named = p.named; stands = p.stands }

  -- above an old dataset stands what stood above it
  pub above_was : (a c : DsId) → c ≢ id → Above new a c → Above g a c
  above_was a _ old (direct c p) = elim (from_new p.child p.here) [
    | inl j ↦ direct c (record { child = p.child; here = j; named = p.named; stands = p.stands })
    | inr e ↦ absurd (old (sym p.named ∙ ap (λ (d : Dataset). d.id) (sym e)))
  ]
  above_was a _ old (up c m p above) = elim (from_new p.child p.here) [
    | inl j ↦ up c m (record { child = p.child; here = j; named = p.named; stands = p.stands }) (above_was a m (λ is. not_on_new p.child j (p.stands ∙ ap Some is)) above)
    | inr e ↦ absurd (old (sym p.named ∙ ap (λ (d : Dataset). d.id) (sym e)))
  ]
