-- The graph without a destroyed dataset: its datasets, its tree and its validity.
use Rattle.std.proofs.Common.{◌≡◌, ◌≢◌, ◌<◌, ◌≤◌, ℕ, Bool, true, false, not, cond, List, [], ◌∷◌, length, refl, sym, ap, subst, ◌∙◌, arith}
use Rattle.std.specs.Prelude.{map, filter, Some, if◌then◌else◌}
use Rattle.std.proofs.lemmas.Bool.{true≢false, cases_Bool, cases_lt, not_from_false, not-true, false_from_ne_true}
use Rattle.zs_ids.specs.declared.key.Key.{Key}
use Rattle.zs_ids.specs.declared.block.Bp.{Bp}
use Rattle.zs_ids.specs.declared.dataset.DsId.{DsId}
use Rattle.zs_ids.specs.declared.dataset.TheConstants.DsId.{ORIGIN}
use Rattle.zs_ids.specs.Graph.{Has, Dataset, Graph}
use Rattle.zs_ids.specs.GraphTree.{is_id, IsHome, IsParent, Above, start_of, stands_on}
use Rattle.zs_ids.specs.GraphTree.Above.{direct, up}
use Rattle.zs_ids.specs.GraphValid.{origin, IsTree, StandsOnSnapshot, HasBlocks, Shares, IsValid}
use Rattle.zs_ids.specs.GraphChange.{destroyed, without, off}
use Rattle.zs_graph.proofs.Places.{instead, instead-is, instead-other}
use Rattle.zs_graph.proofs.Lists.{has-map, from-map, has-filter, from-filter, some_is, some≢none}
use Rattle.zs_graph.proofs.Graphs.{is_id-same, is_id-other, cases_id, one_dataset, start_is, stands_on-is, stands_on-from, in_order-map, in_order-filter, acyclic, above-above, length-mapped}
use Rattle.zs_graph.proofs.Kept.{IsSame, same_or_moved, last_same, blocks_kept, shares_kept, Holds, WasHome, apart_kept}
use mathlib.Core.Logic.{inl, inr}

length-filter : (test : Dataset → Bool) (g : Graph) → length (filter test g) ≤ length g
length-filter test [] = omega arith
length-filter test (d ∷ ds) = go (test d) (length-filter test ds)
  where
    go : (b : Bool) → length (filter test ds) ≤ length ds → length (cond b (d ∷ filter test ds) (filter test ds)) ≤ length (d ∷ ds)
    go true le = omega (arith, le)
    go false le = omega (arith, le)

-- what a dataset shares with its parent, and that with its own
shares_through : (x m p : Dataset) → Shares x m → Shares m p → p.creation ≤ m.creation → Shares x p
shares_through x m p xm mp le = record {
  keys = λ e i. let b = mp.keys e i in let c = xm.keys b.entry b.is_entry in record { entry = c.entry; is_entry = c.is_entry; is_key = c.is_key ∙ b.is_key; later = omega arith };
  shared = λ e i old. mp.shared e (xm.shared e i (omega (arith, old, le))) old;
}

-- the child of a dataset that is to be destroyed: `child`, where it has one
module _ (g : Graph) (n h : ℕ) (early : n ≤ h) (valid : IsValid g n) (gone : Dataset) (here : Has g gone) (not_origin : gone.id ≢ ORIGIN) (child : DsId) (only : (c : DsId) → IsParent g gone.id c → c ≡ child) where
  abbrev pub new : Graph
  new = destroyed g gone

  abbrev pub put : Dataset → Dataset
  put d = off gone d

  pub put_same : (d : Dataset) → IsSame (put d) d
  put_same d = same_or_moved (stands_on gone.id d.parent) gone.parent d

  -- what stood on it stands on its parent now
  put_child : (d : Dataset) → d.parent ≡ Some gone.id → (put d).parent ≡ gone.parent
  put_child d e = ap (λ (t : Bool). (if t then record d { parent = gone.parent } else d).parent) (stands_on-from gone.id d.parent e)

  put_other : (d : Dataset) → (d.parent ≡ Some gone.id → ⊥) → put d ≡ d
  put_other d ne =
      let is : stands_on gone.id d.parent ≡ false = false_from_ne_true (stands_on gone.id d.parent) (λ t. ne (stands_on-is gone.id d.parent t)) in
      ap (λ (t : Bool). if t then record d { parent = gone.parent } else d) is

  pub has_new : (d : Dataset) → Has g d → d.id ≢ gone.id → Has new (put d)
  has_new d i ne =
      has-map put (without gone.id g) d (has-filter (λ (x : Dataset). not (is_id x.id gone.id)) g d i (not_from_false (is_id d.id gone.id) (is_id-other d.id gone.id ne)))

  -- a dataset of the new graph comes from one that is not destroyed
  pub record Was (x : Dataset) : Type 0 where
    pub old : Dataset
    pub there : Has g old
    pub stays : old.id ≢ gone.id
    pub is : put old ≡ x

  pub was : (x : Dataset) → Has new x → Was x
  was x i =
      let f = from-map put (without gone.id g) x i in
      let t = from-filter (λ (y : Dataset). not (is_id y.id gone.id)) g f.0 f.1 in
      record { old = f.0; there = t.0; stays = λ e. true≢false (sym (is_id-same (f.0).id gone.id e) ∙ not-true (is_id (f.0).id gone.id) t.1); is = f.2 }

  pub was_same : (x : Dataset) (w : Was x) → IsSame x w.old
  was_same x w = subst (λ (y : Dataset). IsSame y w.old) w.is (put_same w.old)

  pub holds : Holds g new
  holds x i = let w = was x i in (w.old, w.there, (was_same x w).entries)

  -- where the destroyed dataset stood
  pub gone_stands : StandsOnSnapshot g gone
  gone_stands = elim ((valid.tree).stands gone here) [ inl e ↦ absurd (not_origin (ap (λ (d : Dataset). d.id) e)) | inr s ↦ s ]

  gone_parent : IsParent g gone_stands.below.id gone.id
  gone_parent = record { child = gone; here = here; named = refl; stands = gone_stands.is_parent }

  below_stays : gone_stands.below.id ≢ gone.id
  below_stays e = acyclic g n valid.tree gone.id (subst (λ (x : DsId). Above g x gone.id) e (direct gone.id gone_parent))

  -- with something on it, it is a snapshot
  pub gone_snapshot : (d : Dataset) → Has g d → d.parent ≡ Some gone.id → gone.head ≡ false
  gone_snapshot d i e = elim ((valid.tree).stands d i) [
    | inl o ↦ absurd (some≢none gone.id (sym e ∙ ap (λ (x : Dataset). x.parent) o))
    | inr s ↦ subst (λ (x : Dataset). x.head ≡ false) (one_dataset g (valid.tree).in_order s.below gone s.here here (some_is s.below.id gone.id (sym s.is_parent ∙ e))) s.is_snapshot
  ]

  -- and older than that where that is a snapshot
  pub gone_older : (d : Dataset) → Has g d → d.parent ≡ Some gone.id → d.head ≡ false → gone.creation < d.creation
  gone_older d i e off_head = elim ((valid.tree).stands d i) [
    | inl o ↦ absurd (some≢none gone.id (sym e ∙ ap (λ (x : Dataset). x.parent) o))
    | inr s ↦ subst (λ (x : Dataset). x.creation < d.creation) (one_dataset g (valid.tree).in_order s.below gone s.here here (some_is s.below.id gone.id (sym s.is_parent ∙ e))) (s.rises off_head)
  ]

  -- a dataset stands on the destroyed one, or on another one
  data Stood (d : Dataset) : Type 0 where
    on_gone : d.parent ≡ Some gone.id → Stood d
    on_other : (d.parent ≡ Some gone.id → ⊥) → Stood d

  stood : (d : Dataset) → Stood d
  stood d = elim (cases_Bool (stands_on gone.id d.parent)) [
    | inl t ↦ on_gone (stands_on-is gone.id d.parent t)
    | inr f ↦ on_other (λ e. true≢false (sym (stands_on-from gone.id d.parent e) ∙ f))
  ]

  stands_new : (d : Dataset) → Has g d → d.id ≢ gone.id → StandsOnSnapshot g d → StandsOnSnapshot new (put d)
  stands_new d i stays s = elim (stood d) [
    | on_gone e ↦ let b = gone_stands in record {
      below = put b.below;
      here = has_new b.below b.here below_stays;
      is_parent = put_child d e ∙ b.is_parent ∙ ap Some (sym (put_same b.below).id);
      is_snapshot = (put_same b.below).head ∙ b.is_snapshot;
      rises = λ off_head. let is_snap : d.head ≡ false = sym (put_same d).head ∙ off_head in let less : gone.creation < d.creation = gone_older d i e is_snap in let low : b.below.creation < gone.creation = b.rises (gone_snapshot d i e) in let c : (put d).creation ≡ d.creation = (put_same d).creation in let k : (put b.below).creation ≡ b.below.creation = (put_same b.below).creation in omega (arith, less, low, c, k);
    }
    | on_other ne ↦ record {
      below = put s.below;
      here = has_new s.below s.here (λ e. ne (s.is_parent ∙ ap Some e));
      is_parent = ap (λ (x : Dataset). x.parent) (put_other d ne) ∙ s.is_parent ∙ ap Some (sym (put_same s.below).id);
      is_snapshot = (put_same s.below).head ∙ s.is_snapshot;
      rises = λ off_head. let less : s.below.creation < d.creation = s.rises (sym (put_same d).head ∙ off_head) in let c : (put d).creation ≡ d.creation = (put_same d).creation in let k : (put s.below).creation ≡ s.below.creation = (put_same s.below).creation in omega (arith, less, c, k);
    }
  ]

  pub tree : IsTree new h
  tree = record {
    root = has_new origin (valid.tree).root (λ e. not_origin (sym e));
    stands = λ x i. let w = was x i in elim ((valid.tree).stands w.old w.there) [
      | inl o ↦ inl (sym w.is ∙ ap put o)
      | inr s ↦ inr (subst (λ (y : Dataset). StandsOnSnapshot new y) w.is (stands_new w.old w.there w.stays s))
    ];
    in_order = in_order-map put (λ d. (put_same d).id) (without gone.id g) (in_order-filter (λ (d : Dataset). not (is_id d.id gone.id)) g (valid.tree).in_order);
    few = let l : length (map put (without gone.id g)) ≡ length (without gone.id g) = length-mapped put (without gone.id g) in let m : length (without gone.id g) ≤ length g = length-filter (λ (d : Dataset). not (is_id d.id gone.id)) g in let k : length g ≤ 255 = (valid.tree).few in omega (arith, l, m, k);
    names = λ a b i j hd ow la. let v = was a i in let w = was b j in let x = was_same a v in let y = was_same b w in x.id ∙ (valid.tree).names v.old w.old v.there w.there (sym x.head ∙ hd ∙ y.head) (sym x.owner ∙ ow ∙ y.owner) (sym x.label ∙ la ∙ y.label) ∙ sym y.id;
    created = λ x i. let w = was x i in let c : (w.old).creation ≤ n = (valid.tree).created w.old w.there in let e : x.creation ≡ (w.old).creation = (was_same x w).creation in omega (arith, c, e, early);
    heads = λ x i hd. let w = was x i in let y = was_same x w in let r = (valid.tree).heads w.old w.there (sym y.head ∙ hd) in (y.creation ∙ r.0, y.label ∙ r.1);
  }

  holds_blocks : (x : Dataset) → Has new x → HasBlocks x h
  holds_blocks x i =
      let w = was x i in
      let y = was_same x w in
      blocks_kept x w.old n h y.entries (last_same x w.old n h y.head y.creation early) (valid.holds w.old w.there)

  shares : (d p : Dataset) → Has new d → Has new p → d.parent ≡ Some p.id → Shares d p
  shares d p i j e =
      let v = was d i in
      let w = was p j in
      let x = was_same d v in
      let y = was_same p w in
      shares_kept d p v.old w.old x.entries y.entries y.creation (elim (stood v.old) [
        | on_gone on ↦
            let parent : gone.parent ≡ Some (w.old).id = sym (put_child v.old on) ∙ ap (λ (z : Dataset). z.parent) v.is ∙ e ∙ ap Some y.id in
            let b = gone_stands in
            let same : b.below ≡ w.old = one_dataset g (valid.tree).in_order b.below w.old b.here w.there (some_is b.below.id (w.old).id (sym b.is_parent ∙ parent)) in
            let older : b.below.creation < gone.creation = b.rises (gone_snapshot v.old v.there on) in
            let le : (w.old).creation ≤ gone.creation = (let c : b.below.creation ≡ (w.old).creation = ap (λ (z : Dataset). z.creation) same in omega (arith, c, older)) in
            shares_through v.old gone w.old (valid.shares v.old gone v.there here on) (valid.shares gone w.old here w.there parent) le
        | on_other ne ↦ valid.shares v.old w.old v.there w.there (ap (λ (z : Dataset). z.parent) (sym (put_other v.old ne)) ∙ ap (λ (z : Dataset). z.parent) v.is ∙ e ∙ ap Some y.id)
      ])

  -- the start of a dataset that stood on another one stays
  start_other : (d : Dataset) → Has g d → (d.parent ≡ Some gone.id → ⊥) → StandsOnSnapshot g d → start_of new (put d).parent ≡ start_of g d.parent
  start_other d i ne s =
      start_is new tree.in_order (put s.below) (put d).parent (has_new s.below s.here (λ e. ne (s.is_parent ∙ ap Some e))) (ap (λ (x : Dataset). x.parent) (put_other d ne) ∙ s.is_parent ∙ ap Some (sym (put_same s.below).id)) ∙ (put_same s.below).creation ∙ sym (start_is g (valid.tree).in_order s.below d.parent s.here s.is_parent)

  -- that of what stood on the destroyed dataset is where that one started
  start_child : (d : Dataset) → d.parent ≡ Some gone.id → start_of new (put d).parent ≡ start_of g gone.parent
  start_child d e =
      let b = gone_stands in
      start_is new tree.in_order (put b.below) (put d).parent (has_new b.below b.here below_stays) (put_child d e ∙ b.is_parent ∙ ap Some (sym (put_same b.below).id)) ∙ (put_same b.below).creation ∙ sym (start_is g (valid.tree).in_order b.below gone.parent b.here b.is_parent)

  -- what is at home now was at home before, in the same dataset or in the destroyed one, whose child this is
  pub was_home : (x : Dataset) (e : Key × Bp) → IsHome new x e → WasHome g (instead gone.id child) x e
  was_home x e home =
      let w = was x home.here in
      let y = was_same x w in
      let entry : Has (w.old).entries e = subst (λ (l : List (Key × Bp)). Has l e) y.entries home.holds in
      let start : start_of new (put w.old).parent < e.1.birth = subst (λ (z : Dataset). start_of new z.parent < e.1.birth) (sym w.is) home.born in
      let own : x.id ≡ instead gone.id child (w.old).id = y.id ∙ sym (instead-other gone.id child (w.old).id w.stays) in
      elim (stood w.old) [
        | on_gone on ↦
            let begins : start_of g (w.old).parent ≡ gone.creation = start_is g (valid.tree).in_order gone (w.old).parent here on in
            elim (cases_lt gone.creation e.1.birth) [
              | inl later ↦ record { holder = w.old; home = record { here = w.there; holds = entry; born = subst (λ (k : ℕ). k < e.1.birth) (sym begins) later }; placed = own }
              | inr old ↦ record { holder = gone; home = record { here = here; holds = (valid.shares w.old gone w.there here on).shared e entry old; born = subst (λ (k : ℕ). k < e.1.birth) (start_child w.old on) start }; placed = y.id ∙ only (w.old).id (record { child = w.old; here = w.there; named = refl; stands = on }) ∙ sym (instead-is gone.id child gone.id refl) }
            ]
        | on_other ne ↦ elim ((valid.tree).stands w.old w.there) [
          | inl o ↦ absurd (subst (λ (d : Dataset). Has d.entries e) o entry)
          | inr s ↦ record { holder = w.old; home = record { here = w.there; holds = entry; born = subst (λ (k : ℕ). k < e.1.birth) (start_other w.old w.there ne s) start }; placed = own }
        ]
      ]

  pub new_valid : IsValid new h
  new_valid = record { tree = tree; holds = holds_blocks; shares = shares; apart = apart_kept g new (instead gone.id child) was_home valid.apart }

  -- a parent in the new graph was an ancestor
  parent_was : (a c : DsId) → IsParent new a c → Above g a c
  parent_was a c p =
      let w = was p.child p.here in
      let y = was_same p.child w in
      let name : (w.old).id ≡ c = sym y.id ∙ p.named in
      elim (stood w.old) [
        | on_gone on ↦ up c gone.id (record { child = w.old; here = w.there; named = name; stands = on }) (direct gone.id (record { child = gone; here = here; named = refl; stands = sym (put_child w.old on) ∙ ap (λ (z : Dataset). z.parent) w.is ∙ p.stands }))
        | on_other ne ↦ direct c (record { child = w.old; here = w.there; named = name; stands = ap (λ (z : Dataset). z.parent) (sym (put_other w.old ne)) ∙ ap (λ (z : Dataset). z.parent) w.is ∙ p.stands })
      ]

  pub above_was : (a c : DsId) → Above new a c → Above g a c
  above_was a _ (direct c p) = parent_was a c p
  above_was a _ (up c m p above) = above-above g a m c (above_was a m above) (parent_was m c p)

  -- a parent that is not destroyed stays one
  parent_stays : (a c : DsId) → a ≢ gone.id → c ≢ gone.id → IsParent g a c → IsParent new a c
  parent_stays a c na nc p =
      let ne : (p.child).parent ≡ Some gone.id → ⊥ = λ e. na (some_is a gone.id (sym p.stands ∙ e)) in
      record { child = put p.child; here = has_new p.child p.here (λ e. nc (sym p.named ∙ e)); named = (put_same p.child).id ∙ p.named; stands = ap (λ (z : Dataset). z.parent) (put_other p.child ne) ∙ p.stands }

  -- the parent of the destroyed dataset becomes that of its child
  parent_taken : (a z : DsId) → IsParent g a gone.id → IsParent g gone.id z → IsParent new a z
  parent_taken a z p q =
      let same : p.child ≡ gone = one_dataset g (valid.tree).in_order p.child gone p.here here p.named in
      record { child = put q.child; here = has_new q.child q.here (λ e. acyclic g n valid.tree gone.id (subst (λ (x : DsId). Above g gone.id x) (sym q.named ∙ e) (direct z q))); named = (put_same q.child).id ∙ q.named; stands = put_child q.child q.stands ∙ ap (λ (z : Dataset). z.parent) (sym same) ∙ p.stands }

  -- an ancestor that is not destroyed stays one
  pub above_stays : (a c : DsId) → a ≢ gone.id → Above g a c → (c ≢ gone.id → Above new a c) × ((z : DsId) → c ≡ gone.id → IsParent g gone.id z → Above new a z)
  above_stays a _ na (direct c p) =
      (λ nc. direct c (parent_stays a c na nc p), λ z e q. direct z (parent_taken a z (subst (λ (x : DsId). IsParent g a x) e p) q))
  above_stays a _ na (up c m p above) =
      let r = above_stays a m na above in
      (λ nc. elim (cases_id m gone.id) [ inl e ↦ r.1 c e (subst (λ (x : DsId). IsParent g x c) e p) | inr nm ↦ up c m (parent_stays m c nm nc p) (r.0 nm) ], λ z e q. let taken : IsParent g m gone.id = subst (λ (x : DsId). IsParent g m x) e p in up z m (parent_taken m z taken q) (r.0 (λ is. acyclic g n valid.tree gone.id (subst (λ (x : DsId). Above g x gone.id) is (direct gone.id taken)))))
