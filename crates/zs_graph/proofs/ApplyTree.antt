-- The graph with blocks applied to a head: its datasets and its validity.
use Rattle.std.proofs.Common.{◌≡◌, ◌≢◌, ◌⊎◌, ◌<◌, ◌≤◌, ℕ, Bool, true, false, List, [], ◌∷◌, length, refl, sym, ap, subst, ◌∙◌, arith}
use Rattle.std.specs.Prelude.{map, Some, if◌then◌else◌}
use Rattle.std.specs.Ordering.{match_ordering}
use Rattle.std.specs.declared.cmp.Ordering.{Ordering}
use Rattle.std.specs.declared.cmp.Ordering.TheVariants.{Less, Equal, Greater}
use Rattle.std.proofs.lemmas.Bool.{true≢false}
use Rattle.zs_ids.specs.declared.key.Key.{Key}
use Rattle.zs_ids.specs.declared.block.Bp.{Bp}
use Rattle.zs_ids.specs.declared.dataset.DsId.{DsId}
use Rattle.zs_ids.specs.Key.{key_cmp}
use Rattle.zs_ids.specs.Blocks.{replaced, entries_with}
use Rattle.zs_ids.specs.Graph.{Has, Dataset, Graph}
use Rattle.zs_ids.specs.GraphTree.{is_id, IsHome, IsParent, start_of}
use Rattle.zs_ids.specs.GraphValid.{origin, IsTree, StandsOnSnapshot, HasBlocks, Shares, IsValid}
use Rattle.zs_ids.specs.GraphChange.{MayPut, applied, holding}
use Rattle.zs_graph.proofs.Lists.{has-map, from-map, some_is, some≢none}
use Rattle.zs_graph.proofs.Graphs.{is_id-same, is_id-other, cases_id, one_dataset, start_is, in_order-map, length-mapped}
use Rattle.zs_graph.proofs.Keys.{key_equal}
use Rattle.zs_graph.proofs.Kept.{last_same, blocks_kept}
use mathlib.Core.Logic.{inl, inr}

-- what entries have after a pointer was put in: it, or what they had
from-replaced : (es : List (Key × Bp)) (k : Key) (bp : Bp) (e : Key × Bp) → Has (replaced es k bp) e → ((k, bp) ≡ e) ⊎ Has es e
from-replaced [] k bp e (inl is) = inl is
from-replaced [] k bp e (inr none) = absurd none
from-replaced (x ∷ xs) k bp e h = go (key_cmp k x.0) refl h (λ r. from-replaced xs k bp e r)
  where
    go : (o : Ordering) → key_cmp k x.0 ≡ o → Has (match_ordering o ((k, bp) ∷ x ∷ xs) ((x.0, bp) ∷ xs) (x ∷ replaced xs k bp)) e → (Has (replaced xs k bp) e → ((k, bp) ≡ e) ⊎ Has xs e) → ((k, bp) ≡ e) ⊎ Has (x ∷ xs) e
    go Less is (inl new) rest = inl new
    go Less is (inr old) rest = inr old
    go Equal is (inl new) rest = inl (ap (λ (y : Key). let z : Key × Bp = (y, bp) in z) (key_equal k x.0 is) ∙ new)
    go Equal is (inr old) rest = inr (inr old)
    go Greater is (inl first) rest = inr (inl first)
    go Greater is (inr more) rest = elim (rest more) [ inl new ↦ inl new | inr old ↦ inr (inr old) ]

-- the keys stay
key_stays : (es : List (Key × Bp)) (k : Key) (bp : Bp) (e : Key × Bp) → Has es e → (f : Key × Bp) × Has (replaced es k bp) f × (f.0 ≡ e.0)
key_stays [] k bp e h = absurd h
key_stays (x ∷ xs) k bp e h = go (key_cmp k x.0) h (λ r. key_stays xs k bp e r)
  where
    go : (o : Ordering) → Has (x ∷ xs) e → (Has xs e → (f : Key × Bp) × Has (replaced xs k bp) f × (f.0 ≡ e.0)) → (f : Key × Bp) × Has (match_ordering o ((k, bp) ∷ x ∷ xs) ((x.0, bp) ∷ xs) (x ∷ replaced xs k bp)) f × (f.0 ≡ e.0)
    go Less i rest = (e, inr i, refl)
    go Equal (inl first) rest = ((x.0, bp), inl refl, ap (λ (y : Key × Bp). y.0) first)
    go Equal (inr i) rest = (e, inr i, refl)
    go Greater (inl first) rest = (x, inl refl, ap (λ (y : Key × Bp). y.0) first)
    go Greater (inr i) rest = let r = rest i in (r.0, inr r.1, r.2)

-- what entries have after changes: one of the changes, or what they had
pub from-with : (es cs : List (Key × Bp)) (e : Key × Bp) → Has (entries_with es cs) e → Has cs e ⊎ Has es e
from-with es [] e h = inr h
from-with es (c ∷ cs) e h = elim (from-with (replaced es c.0 c.1) cs e h) [
  | inl i ↦ inl (inr i)
  | inr r ↦ elim (from-replaced es c.0 c.1 e r) [ inl is ↦ inl (inl is) | inr old ↦ inr old ]
]

keys_stay : (es cs : List (Key × Bp)) (e : Key × Bp) → Has es e → (f : Key × Bp) × Has (entries_with es cs) f × (f.0 ≡ e.0)
keys_stay es [] e h = (e, h, refl)
keys_stay es (c ∷ cs) e h =
    let r = key_stays es c.0 c.1 e h in
    let s = keys_stay (replaced es c.0 c.1) cs r.0 r.1 in
    (s.0, s.1, s.2 ∙ r.2)

-- what a dataset of the new graph was: the same but for what it holds
pub record Was (g : Graph) (x : Dataset) : Type 0 where
  pub old : Dataset
  pub here : Has g old
  pub id : x.id ≡ old.id
  pub head : x.head ≡ old.head
  pub owner : x.owner ≡ old.owner
  pub label : x.label ≡ old.label
  pub parent : x.parent ≡ old.parent
  pub creation : x.creation ≡ old.creation

-- blocks of the transaction group t, in a graph that is valid up to n, and afterwards up to h
module _ (g : Graph) (n t h : ℕ) (early : n ≤ h) (late : t ≤ h) (valid : IsValid g n) (head : Dataset) (changes : List (Key × Bp)) (may : MayPut g head changes t) where
  abbrev pub new : Graph
  new = applied g head changes

  -- the head with the blocks
  abbrev pub head_with : Dataset
  head_with = record head { entries = entries_with head.entries changes }

  abbrev put : Dataset → Dataset
  put d = holding head.id (entries_with head.entries changes) d

  put_head : put head ≡ head_with
  put_head = ap (λ (t : Bool). if t then record head { entries = entries_with head.entries changes } else head) (is_id-same head.id head.id refl)

  put_other : (d : Dataset) → d.id ≢ head.id → put d ≡ d
  put_other d ne = ap (λ (t : Bool). if t then record d { entries = entries_with head.entries changes } else d) (is_id-other d.id head.id ne)

  pub has_head : Has new head_with
  has_head = subst (λ (d : Dataset). Has (map put g) d) put_head (has-map put g head may.here)

  pub has_other : (d : Dataset) → Has g d → d.id ≢ head.id → Has new d
  has_other d i ne = subst (λ (x : Dataset). Has (map put g) x) (put_other d ne) (has-map put g d i)

  not_head : (d : Dataset) → Has g d → d.head ≡ false → d.id ≢ head.id
  not_head d i snapshot e =
      let s : d ≡ head = one_dataset g (valid.tree).in_order d head i may.here e in
      true≢false (sym may.is_head ∙ sym (ap (λ (x : Dataset). x.head) s) ∙ snapshot)

  -- a dataset of the new graph: the head with the blocks, or another one
  pub data Now (x : Dataset) : Type 0 where
    is_head : head_with ≡ x → Now x
    is_other : Has g x → x.id ≢ head.id → Now x

  pub now : (x : Dataset) → Has new x → Now x
  now x i = let f = from-map put g x i in elim (cases_id (f.0).id head.id) [
    | inl e ↦ is_head (sym put_head ∙ ap put (sym (one_dataset g (valid.tree).in_order f.0 head f.1 may.here e)) ∙ f.2)
    | inr ne ↦ let is : f.0 ≡ x = sym (put_other f.0 ne) ∙ f.2 in is_other (subst (λ (d : Dataset). Has g d) is f.1) (subst (λ (d : Dataset). d.id ≢ head.id) is ne)
  ]

  pub was : (x : Dataset) → Has new x → Was g x
  was x i = elim (now x i) [
    | is_head e ↦ record { old = head; here = may.here; id = ap (λ (d : Dataset). d.id) (sym e); head = ap (λ (d : Dataset). d.head) (sym e); owner = ap (λ (d : Dataset). d.owner) (sym e); label = ap (λ (d : Dataset). d.label) (sym e); parent = ap (λ (d : Dataset). d.parent) (sym e); creation = ap (λ (d : Dataset). d.creation) (sym e) }
    | is_other j ne ↦ record { old = x; here = j; id = refl; head = refl; owner = refl; label = refl; parent = refl; creation = refl }
  ]

  stands_new : (x old : Dataset) → x.head ≡ old.head → x.parent ≡ old.parent → x.creation ≡ old.creation → StandsOnSnapshot g old → StandsOnSnapshot new x
  stands_new x old head_is parent_is creation_is s = record {
    below = s.below;
    here = has_other s.below s.here (not_head s.below s.here s.is_snapshot);
    is_parent = parent_is ∙ s.is_parent;
    is_snapshot = s.is_snapshot;
    rises = λ off. subst (λ (k : ℕ). s.below.creation < k) (sym creation_is) (s.rises (sym head_is ∙ off));
  }

  pub head_stands : StandsOnSnapshot g head
  head_stands = elim ((valid.tree).stands head may.here) [
    | inl e ↦ absurd (true≢false (sym may.is_head ∙ ap (λ (d : Dataset). d.head) e))
    | inr s ↦ s
  ]

  pub tree : IsTree new h
  tree = record {
    root = has_other origin (valid.tree).root (not_head origin (valid.tree).root refl);
    stands = λ x i. elim (now x i) [
      | is_head e ↦ inr (stands_new x head (ap (λ (d : Dataset). d.head) (sym e)) (ap (λ (d : Dataset). d.parent) (sym e)) (ap (λ (d : Dataset). d.creation) (sym e)) head_stands)
      | is_other j ne ↦ elim ((valid.tree).stands x j) [ inl o ↦ inl o | inr s ↦ inr (stands_new x x refl refl refl s) ]
    ];
    in_order = in_order-map put (λ d. put_id d) g (valid.tree).in_order;
    few = let l : length (map put g) ≡ length g = length-mapped put g in let k : length g ≤ 255 = (valid.tree).few in omega (arith, l, k);
    names = λ a b i j hd ow la. let v = was a i in let w = was b j in v.id ∙ (valid.tree).names v.old w.old v.here w.here (sym v.head ∙ hd ∙ w.head) (sym v.owner ∙ ow ∙ w.owner) (sym v.label ∙ la ∙ w.label) ∙ sym w.id;
    created = λ x i. let w = was x i in let c : (w.old).creation ≤ n = (valid.tree).created w.old w.here in let e : x.creation ≡ (w.old).creation = w.creation in omega (arith, c, e, early);
    heads = λ x i hd. let w = was x i in let r = (valid.tree).heads w.old w.here (sym w.head ∙ hd) in (w.creation ∙ r.0, w.label ∙ r.1);
  }
    where
      put_id : (d : Dataset) → (put d).id ≡ d.id
      put_id d = go (is_id d.id head.id)
        where
          go : (b : Bool) → (if b then record d { entries = entries_with head.entries changes } else d).id ≡ d.id
          go true = refl
          go false = refl

  holds_blocks : (x : Dataset) → Has new x → HasBlocks x h
  holds_blocks x i = elim (now x i) [
    | is_head e ↦ subst (λ (d : Dataset). HasBlocks d h) e (blocks_kept head_with head_with t h refl (last_same head_with head_with t h refl refl late) may.blocks)
    | is_other j ne ↦ blocks_kept x x n h refl (last_same x x n h refl refl early) (valid.holds x j)
  ]

  -- nothing stands on the head
  not_on_head : (x : Dataset) → Has g x → x.parent ≡ Some head.id → ⊥
  not_on_head x hx ex = elim ((valid.tree).stands x hx) [
    | inl o ↦ some≢none head.id (sym ex ∙ ap (λ (y : Dataset). y.parent) o)
    | inr s ↦ not_head s.below s.here s.is_snapshot (some_is s.below.id head.id (sym s.is_parent ∙ ex))
  ]

  -- the head's parent is older than the blocks
  parent_older : (p : Dataset) → Has g p → head.parent ≡ Some p.id → p.creation < t
  parent_older p i e = subst (λ (k : ℕ). k < t) (start_is g (valid.tree).in_order p head.parent i e) may.later

  shares_head : (p : Dataset) → Has g p → head.parent ≡ Some p.id → Shares head p → Shares head_with p
  shares_head p i e s = record {
    keys = λ f j. let b = s.keys f j in let r = keys_stay head.entries changes b.entry b.is_entry in record { entry = r.0; is_entry = r.1; is_key = r.2 ∙ b.is_key; later = omega arith };
    shared = λ f j old. elim (from-with head.entries changes f j) [
      | inl c ↦ let born : f.1.birth ≡ t = may.born f c in let less : p.creation < t = parent_older p i e in absurd (omega (arith, born, less, old))
      | inr k ↦ s.shared f k old
    ];
  }

  shares : (d p : Dataset) → Has new d → Has new p → d.parent ≡ Some p.id → Shares d p
  shares d p i j e = elim (now p j) [
    | is_head ep ↦ let w = was d i in absurd (not_on_head w.old w.here (sym w.parent ∙ e ∙ ap (λ (x : Dataset). Some x.id) (sym ep)))
    | is_other k ne ↦ elim (now d i) [
      | is_head ed ↦ subst (λ (x : Dataset). Shares x p) ed (shares_head p k (ap (λ (x : Dataset). x.parent) ed ∙ e) (valid.shares head p may.here k (ap (λ (x : Dataset). x.parent) ed ∙ e)))
      | is_other l ne2 ↦ valid.shares d p l k e
    ]
  ]

  pub new_valid : IsValid new h
  new_valid = record { tree = tree; holds = holds_blocks; shares = shares; apart = may.apart }

  -- each dataset starts where it started
  start_other : (x old : Dataset) → Has g old → x.parent ≡ old.parent → StandsOnSnapshot g old → start_of new x.parent ≡ start_of g old.parent
  start_other x old i e s =
      start_is new (tree.in_order) s.below x.parent (has_other s.below s.here (not_head s.below s.here s.is_snapshot)) (e ∙ s.is_parent) ∙ sym (start_is g (valid.tree).in_order s.below old.parent s.here s.is_parent)

  -- what is at home now was at home before in the same dataset, or is one of the changes
  pub was_home : (x : Dataset) (e : Key × Bp) → IsHome new x e → (e.1.birth ≡ t) ⊎ ((y : Dataset) × IsHome g y e × (y.id ≡ x.id))
  was_home x e home = elim (now x home.here) [
    | is_head ex ↦ elim (from-with head.entries changes e (subst (λ (d : Dataset). Has d.entries e) (sym ex) home.holds)) [
      | inl c ↦ inl (may.born e c)
      | inr old ↦ inr (head, record { here = may.here; holds = old; born = subst (λ (k : ℕ). k < e.1.birth) (start_other x head may.here (ap (λ (d : Dataset). d.parent) (sym ex)) head_stands) home.born }, ap (λ (d : Dataset). d.id) ex)
    ]
    | is_other j ne ↦ elim ((valid.tree).stands x j) [
      | inl o ↦ absurd (subst (λ (d : Dataset). Has d.entries e) o home.holds)
      | inr s ↦ inr (x, record { here = j; holds = home.holds; born = subst (λ (k : ℕ). k < e.1.birth) (start_other x x j refl s) home.born }, refl)
    ]
  ]

  -- parents are the same in both graphs
  pub parent_stays : (a c : DsId) → IsParent g a c → IsParent new a c
  parent_stays a c p = elim (cases_id (p.child).id head.id) [
    | inl e ↦ let same : p.child ≡ head = one_dataset g (valid.tree).in_order p.child head p.here may.here e in record { child = head_with; here = has_head; named = sym e ∙ p.named; stands = ap (λ (d : Dataset). d.parent) (sym same) ∙ p.stands }
    | inr ne ↦ record { child = p.child; here = has_other p.child p.here ne; named = p.named; stands = p.stands }
  ]

  pub parent_was : (a c : DsId) → IsParent new a c → IsParent g a c
  parent_was a c p = let w = was p.child p.here in record { child = w.old; here = w.here; named = sym w.id ∙ p.named; stands = sym w.parent ∙ p.stands }
