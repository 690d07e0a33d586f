-- The graph with two heads swapped: its datasets, its tree and its validity.
use Rattle.std.proofs.Common.{◌≡◌, ◌≢◌, ◌<◌, ◌≤◌, ℕ, Bool, true, false, List, length, refl, sym, ap, subst, ◌∙◌, arith}
use Rattle.std.specs.Prelude.{map, Some, if◌then◌else◌}
use Rattle.std.proofs.lemmas.Bool.{true≢false}
use Rattle.zs_ids.specs.declared.key.Key.{Key}
use Rattle.zs_ids.specs.declared.block.Bp.{Bp}
use Rattle.zs_ids.specs.declared.dataset.DsId.{DsId}
use Rattle.zs_ids.specs.Graph.{Has, Dataset, Graph}
use Rattle.zs_ids.specs.GraphTree.{is_id, IsHome, IsParent, start_of}
use Rattle.zs_ids.specs.GraphValid.{origin, IsTree, StandsOnSnapshot, last_birth, HasBlocks, Shares, IsValid}
use Rattle.zs_ids.specs.GraphChange.{MaySwap, swapped, holding}
use Rattle.zs_graph.proofs.Places.{exchanged, exchanged-first, exchanged-second, exchanged-other}
use Rattle.zs_graph.proofs.Lists.{has-map, from-map, some_is, some≢none}
use Rattle.zs_graph.proofs.Graphs.{is_id-same, is_id-other, cases_id, one_dataset, start_is, parent_is, in_order-map, length-mapped}
use Rattle.zs_graph.proofs.Births.{last_in_head}
use Rattle.zs_graph.proofs.Kept.{last_same, blocks_kept, shares_kept, Holds, WasHome, apart_kept}
use Rattle.zs_graph.proofs.ApplyTree.{Was}
use mathlib.Core.Logic.{inl, inr}

module _ (g : Graph) (n h : ℕ) (early : n ≤ h) (valid : IsValid g n) (a b : Dataset) (may : MaySwap g a b) where
  abbrev pub new : Graph
  new = swapped g a b

  abbrev pub first : Dataset
  first = record a { entries = b.entries }

  abbrev pub second : Dataset
  second = record b { entries = a.entries }

  abbrev put : Dataset → Dataset
  put d = holding a.id b.entries (holding b.id a.entries d)

  put_first : put a ≡ first
  put_first =
      ap (λ (t : Bool). holding a.id b.entries (if t then record a { entries = a.entries } else a)) (is_id-other a.id b.id may.two) ∙ ap (λ (t : Bool). if t then record a { entries = b.entries } else a) (is_id-same a.id a.id refl)

  put_second : put b ≡ second
  put_second =
      ap (λ (t : Bool). holding a.id b.entries (if t then record b { entries = a.entries } else b)) (is_id-same b.id b.id refl) ∙ ap (λ (t : Bool). if t then record b { entries = b.entries } else record b { entries = a.entries }) (is_id-other b.id a.id (λ e. may.two (sym e)))

  put_other : (d : Dataset) → d.id ≢ a.id → d.id ≢ b.id → put d ≡ d
  put_other d na nb =
      ap (λ (t : Bool). holding a.id b.entries (if t then record d { entries = a.entries } else d)) (is_id-other d.id b.id nb) ∙ ap (λ (t : Bool). if t then record d { entries = b.entries } else d) (is_id-other d.id a.id na)

  pub has_first : Has new first
  has_first = subst (λ (d : Dataset). Has (map put g) d) put_first (has-map put g a may.first)

  pub has_second : Has new second
  has_second = subst (λ (d : Dataset). Has (map put g) d) put_second (has-map put g b may.second)

  pub has_other : (d : Dataset) → Has g d → d.id ≢ a.id → d.id ≢ b.id → Has new d
  has_other d i na nb = subst (λ (x : Dataset). Has (map put g) x) (put_other d na nb) (has-map put g d i)

  -- a snapshot is none of the two heads
  pub not_first : (d : Dataset) → Has g d → d.head ≡ false → d.id ≢ a.id
  not_first d i snapshot e =
      let s : d ≡ a = one_dataset g (valid.tree).in_order d a i may.first e in
      true≢false (sym may.first_head ∙ sym (ap (λ (x : Dataset). x.head) s) ∙ snapshot)

  pub not_second : (d : Dataset) → Has g d → d.head ≡ false → d.id ≢ b.id
  not_second d i snapshot e =
      let s : d ≡ b = one_dataset g (valid.tree).in_order d b i may.second e in
      true≢false (sym may.second_head ∙ sym (ap (λ (x : Dataset). x.head) s) ∙ snapshot)

  has_snapshot : (d : Dataset) → Has g d → d.head ≡ false → Has new d
  has_snapshot d i snapshot = has_other d i (not_first d i snapshot) (not_second d i snapshot)

  -- a dataset of the new graph: one of the two heads, or another one
  pub data Now (x : Dataset) : Type 0 where
    is_first : first ≡ x → Now x
    is_second : second ≡ x → Now x
    is_other : Has g x → x.id ≢ a.id → x.id ≢ b.id → Now x

  pub now : (x : Dataset) → Has new x → Now x
  now x i = let f = from-map put g x i in elim (cases_id (f.0).id a.id) [
    | inl e ↦ is_first (sym put_first ∙ ap put (sym (one_dataset g (valid.tree).in_order f.0 a f.1 may.first e)) ∙ f.2)
    | inr na ↦ elim (cases_id (f.0).id b.id) [
      | inl e ↦ is_second (sym put_second ∙ ap put (sym (one_dataset g (valid.tree).in_order f.0 b f.1 may.second e)) ∙ f.2)
      | inr nb ↦ let is : f.0 ≡ x = sym (put_other f.0 na nb) ∙ f.2 in is_other (subst (λ (d : Dataset). Has g d) is f.1) (subst (λ (d : Dataset). d.id ≢ a.id) is na) (subst (λ (d : Dataset). d.id ≢ b.id) is nb)
    ]
  ]

  pub was : (x : Dataset) → Has new x → Was g x
  was x i = elim (now x i) [
    | is_first e ↦ record { old = a; here = may.first; id = ap (λ (d : Dataset). d.id) (sym e); head = ap (λ (d : Dataset). d.head) (sym e); owner = ap (λ (d : Dataset). d.owner) (sym e); label = ap (λ (d : Dataset). d.label) (sym e); parent = ap (λ (d : Dataset). d.parent) (sym e); creation = ap (λ (d : Dataset). d.creation) (sym e) }
    | is_second e ↦ record { old = b; here = may.second; id = ap (λ (d : Dataset). d.id) (sym e); head = ap (λ (d : Dataset). d.head) (sym e); owner = ap (λ (d : Dataset). d.owner) (sym e); label = ap (λ (d : Dataset). d.label) (sym e); parent = ap (λ (d : Dataset). d.parent) (sym e); creation = ap (λ (d : Dataset). d.creation) (sym e) }
    | is_other j na nb ↦ record { old = x; here = j; id = refl; head = refl; owner = refl; label = refl; parent = refl; creation = refl }
  ]

  pub holds : Holds g new
  holds x i = elim (now x i) [
    | is_first e ↦ (b, may.second, ap (λ (d : Dataset). d.entries) (sym e))
    | is_second e ↦ (a, may.first, ap (λ (d : Dataset). d.entries) (sym e))
    | is_other j na nb ↦ (x, j, refl)
  ]

  stands_new : (x old : Dataset) → x.head ≡ old.head → x.parent ≡ old.parent → x.creation ≡ old.creation → StandsOnSnapshot g old → StandsOnSnapshot new x
  stands_new x old head_is parent_is creation_is s = record {
    below = s.below;
    here = has_snapshot s.below s.here s.is_snapshot;
    is_parent = parent_is ∙ s.is_parent;
    is_snapshot = s.is_snapshot;
    rises = λ off. subst (λ (k : ℕ). s.below.creation < k) (sym creation_is) (s.rises (sym head_is ∙ off));
  }

  head_stands : (d : Dataset) → Has g d → d.head ≡ true → StandsOnSnapshot g d
  head_stands d i is = elim ((valid.tree).stands d i) [
    | inl e ↦ absurd (true≢false (sym is ∙ ap (λ (x : Dataset). x.head) e))
    | inr s ↦ s
  ]

  pub tree : IsTree new h
  tree = record {
    root = has_snapshot origin (valid.tree).root refl;
    stands = λ x i. elim (now x i) [
      | is_first e ↦ inr (subst (λ (d : Dataset). StandsOnSnapshot new d) e (stands_new first a refl refl refl (head_stands a may.first may.first_head)))
      | is_second e ↦ inr (subst (λ (d : Dataset). StandsOnSnapshot new d) e (stands_new second b refl refl refl (head_stands b may.second may.second_head)))
      | is_other j na nb ↦ elim ((valid.tree).stands x j) [ inl o ↦ inl o | inr s ↦ inr (stands_new x x refl refl refl s) ]
    ];
    in_order = in_order-map put (λ d. put_id d) g (valid.tree).in_order;
    few = let l : length (map put g) ≡ length g = length-mapped put g in let k : length g ≤ 255 = (valid.tree).few in omega (arith, l, k);
    names = λ c d i j hd ow la. let v = was c i in let w = was d j in v.id ∙ (valid.tree).names v.old w.old v.here w.here (sym v.head ∙ hd ∙ w.head) (sym v.owner ∙ ow ∙ w.owner) (sym v.label ∙ la ∙ w.label) ∙ sym w.id;
    created = λ x i. let w = was x i in let c : (w.old).creation ≤ n = (valid.tree).created w.old w.here in let e : x.creation ≡ (w.old).creation = w.creation in omega (arith, c, e, early);
    heads = λ x i hd. let w = was x i in let r = (valid.tree).heads w.old w.here (sym w.head ∙ hd) in (w.creation ∙ r.0, w.label ∙ r.1);
  }
    where
      keeps_id : (t : Bool) (l : List (Key × Bp)) (d : Dataset) → (if t then record d { entries = l } else d).id ≡ d.id
      keeps_id true l d = refl
      keeps_id false l d = refl

      put_id : (d : Dataset) → (put d).id ≡ d.id
      put_id d = keeps_id (is_id (holding b.id a.entries d).id a.id) b.entries (holding b.id a.entries d) ∙ keeps_id (is_id d.id b.id) a.entries d

  -- a head that holds what another head held has its blocks in order
  of_head : (x y : Dataset) → x.entries ≡ y.entries → x.head ≡ true → y.head ≡ true → HasBlocks y n → HasBlocks x h
  of_head x y is hx hy blocks =
      let l : last_birth y n ≡ n = last_in_head y n hy in
      let m : last_birth x h ≡ h = last_in_head x h hx in
      blocks_kept x y n h is (omega (arith, l, m, early)) blocks

  holds_blocks : (x : Dataset) → Has new x → HasBlocks x h
  holds_blocks x i = elim (now x i) [
    | is_first e ↦ subst (λ (d : Dataset). HasBlocks d h) e (of_head first b refl may.first_head may.second_head (valid.holds b may.second))
    | is_second e ↦ subst (λ (d : Dataset). HasBlocks d h) e (of_head second a refl may.second_head may.first_head (valid.holds a may.first))
    | is_other j na nb ↦ blocks_kept x x n h refl (last_same x x n h refl refl early) (valid.holds x j)
  ]

  -- a parent is a snapshot, and so none of the two
  on_snapshot : (x p : Dataset) → Has g x → Has g p → x.parent ≡ Some p.id → p.head ≡ false
  on_snapshot x p i j e = elim ((valid.tree).stands x i) [
    | inl o ↦ absurd (some≢none p.id (sym e ∙ ap (λ (y : Dataset). y.parent) o))
    | inr s ↦ subst (λ (y : Dataset). y.head ≡ false) (one_dataset g (valid.tree).in_order s.below p s.here j (some_is s.below.id p.id (sym s.is_parent ∙ e))) s.is_snapshot
  ]

  shares : (d p : Dataset) → Has new d → Has new p → d.parent ≡ Some p.id → Shares d p
  shares d p i j e =
      let v = was d i in
      let w = was p j in
      let snapshot : (w.old).head ≡ false = on_snapshot v.old w.old v.here w.here (sym v.parent ∙ e ∙ ap Some w.id) in
      elim (now p j) [
        | is_first ep ↦ absurd (true≢false (sym may.first_head ∙ ap (λ (x : Dataset). x.head) ep ∙ w.head ∙ snapshot))
        | is_second ep ↦ absurd (true≢false (sym may.second_head ∙ ap (λ (x : Dataset). x.head) ep ∙ w.head ∙ snapshot))
        | is_other k na nb ↦ elim (now d i) [
          | is_first ed ↦ shares_kept d p b p (ap (λ (x : Dataset). x.entries) (sym ed)) refl refl (valid.shares b p may.second k (sym may.siblings ∙ ap (λ (x : Dataset). x.parent) ed ∙ e))
          | is_second ed ↦ shares_kept d p a p (ap (λ (x : Dataset). x.entries) (sym ed)) refl refl (valid.shares a p may.first k (may.siblings ∙ ap (λ (x : Dataset). x.parent) ed ∙ e))
          | is_other l na2 nb2 ↦ valid.shares d p l k e
        ]
      ]

  start_other : (x old : Dataset) → Has g old → x.parent ≡ old.parent → StandsOnSnapshot g old → start_of new x.parent ≡ start_of g old.parent
  start_other x old i e s =
      start_is new (tree.in_order) s.below x.parent (has_snapshot s.below s.here s.is_snapshot) (e ∙ s.is_parent) ∙ sym (start_is g (valid.tree).in_order s.below old.parent s.here s.is_parent)

  -- what is at home now was at home before: in one head what was in the other
  pub was_home : (x : Dataset) (e : Key × Bp) → IsHome new x e → WasHome g (exchanged a.id b.id) x e
  was_home x e home = elim (now x home.here) [
    | is_first ex ↦ record { holder = b; home = record { here = may.second; holds = subst (λ (d : Dataset). Has d.entries e) (sym ex) home.holds; born = subst (λ (k : ℕ). k < e.1.birth) (start_other x b may.second (ap (λ (d : Dataset). d.parent) (sym ex) ∙ may.siblings) (head_stands b may.second may.second_head)) home.born }; placed = ap (λ (d : Dataset). d.id) (sym ex) ∙ sym (exchanged-second a.id b.id b.id (λ z. may.two (sym z)) refl) }
    | is_second ex ↦ record { holder = a; home = record { here = may.first; holds = subst (λ (d : Dataset). Has d.entries e) (sym ex) home.holds; born = subst (λ (k : ℕ). k < e.1.birth) (start_other x a may.first (ap (λ (d : Dataset). d.parent) (sym ex) ∙ sym may.siblings) (head_stands a may.first may.first_head)) home.born }; placed = ap (λ (d : Dataset). d.id) (sym ex) ∙ sym (exchanged-first a.id b.id a.id refl) }
    | is_other j na nb ↦ elim ((valid.tree).stands x j) [
      | inl o ↦ absurd (subst (λ (d : Dataset). Has d.entries e) o home.holds)
      | inr s ↦ record { holder = x; home = record { here = j; holds = home.holds; born = subst (λ (k : ℕ). k < e.1.birth) (start_other x x j refl s) home.born }; placed = sym (exchanged-other a.id b.id x.id na nb) }
    ]
  ]

  pub new_valid : IsValid new h
  new_valid = record { tree = tree; holds = holds_blocks; shares = shares; apart = apart_kept g new (exchanged a.id b.id) was_home valid.apart }

  -- parents are the same in both graphs
  pub parent_stays : (p c : DsId) → IsParent g p c → IsParent new p c
  parent_stays p c q = elim (cases_id (q.child).id a.id) [
    | inl e ↦ record { child = first; here = has_first; named = sym e ∙ q.named; stands = ap (λ (d : Dataset). d.parent) (sym (one_dataset g (valid.tree).in_order q.child a q.here may.first e)) ∙ q.stands }
    | inr na ↦ elim (cases_id (q.child).id b.id) [
      | inl e ↦ record { child = second; here = has_second; named = sym e ∙ q.named; stands = ap (λ (d : Dataset). d.parent) (sym (one_dataset g (valid.tree).in_order q.child b q.here may.second e)) ∙ q.stands }
      | inr nb ↦ record { child = q.child; here = has_other q.child q.here na nb; named = q.named; stands = q.stands }
    ]
  ]

  pub parent_was : (p c : DsId) → IsParent new p c → IsParent g p c
  parent_was p c q = let w = was q.child q.here in record { child = w.old; here = w.here; named = sym w.id ∙ q.named; stands = sym w.parent ∙ q.stands }
