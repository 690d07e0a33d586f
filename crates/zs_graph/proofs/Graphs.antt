-- Ids, parents and ancestors in a list of datasets.
use Rattle.std.proofs.Common.{◌≡◌, ◌≢◌, ◌⊎◌, ◌<◌, ℕ, Bool, true, false, cond, [], ◌∷◌, ◌++◌, length, suc, refl, sym, ap, subst, ◌∙◌, arith}
use Rattle.std.specs.Prelude.{map, filter, IsTrue, Option, Some, None}
use Rattle.std.proofs.lemmas.Bool.{cases_Bool, true≢false, eqb-true, eq-eqb, false_from_ne_true}
use Rattle.zs_ids.specs.declared.dataset.DsId.{DsId}
use Rattle.zs_ids.specs.Graph.{Has, Dataset, Graph}
use Rattle.zs_ids.specs.GraphTree.{is_id, dataset_at, created, start_of, IsParent, Above, stands_on, children_of}
use Rattle.zs_ids.specs.GraphTree.Above.{direct, up}
use Rattle.zs_ids.specs.GraphValid.{IsInIdOrder, IsTree, StandsOnSnapshot}
use Rattle.zs_graph.proofs.Lists.{find_is, some_is, some≢none, from-map, has-map, has-filter, from-filter}
use mathlib.Core.Logic.{inl, inr}

-- ids that are one by the test are one
pub id_is : (a b : DsId) → IsTrue (is_id a b) → a ≡ b
id_is a b t = ap (λ (n : ℕ). let d : DsId = record { 0 = n } in d) (eqb-true a.0 b.0 t)

pub is_id-same : (a b : DsId) → a ≡ b → IsTrue (is_id a b)
is_id-same a b e = eq-eqb a.0 b.0 (ap (λ (d : DsId). d.0) e)

pub is_id-other : (a b : DsId) → a ≢ b → is_id a b ≡ false
is_id-other a b ne = false_from_ne_true (is_id a b) (λ t. ne (id_is a b t))

-- two ids are one or not
pub cases_id : (a b : DsId) → (a ≡ b) ⊎ (a ≢ b)
cases_id a b = elim (cases_Bool (is_id a b)) [ inl t ↦ inl (id_is a b t) | inr f ↦ inr (λ e. true≢false (sym (is_id-same a b e) ∙ f)) ]

-- in a list in order of id an id is that of one dataset
pub one_dataset : (g : Graph) → IsInIdOrder g → (a b : Dataset) → Has g a → Has g b → a.id ≡ b.id → a ≡ b
one_dataset [] o a b h i e = absurd h
one_dataset (d ∷ ds) o a b (inl i) (inl j) e = sym i ∙ j
one_dataset (d ∷ ds) o a b (inl i) (inr j) e =
    let below : d.id.0 < b.id.0 = o.0 b j in
    let same : d.id.0 ≡ b.id.0 = ap (λ (x : Dataset). x.id.0) i ∙ ap (λ (x : DsId). x.0) e in
    absurd (omega (arith, below, same))
one_dataset (d ∷ ds) o a b (inr i) (inl j) e =
    let below : d.id.0 < a.id.0 = o.0 a i in
    let same : a.id.0 ≡ d.id.0 = ap (λ (x : DsId). x.0) e ∙ sym (ap (λ (x : Dataset). x.id.0) j) in
    absurd (omega (arith, below, same))
one_dataset (d ∷ ds) o a b (inr i) (inr j) e = one_dataset ds o.1 a b i j e

-- the dataset with an id
pub dataset_is : (g : Graph) → IsInIdOrder g → (d : Dataset) (id : DsId) → Has g d → d.id ≡ id → dataset_at g id ≡ Some d
dataset_is g o d id h e =
    find_is (λ (x : Dataset). is_id x.id id) g d h (is_id-same d.id id e) (λ y i t. one_dataset g o y d i h (id_is y.id id t ∙ sym e))

-- the start of a dataset is its parent's creation
pub start_is : (g : Graph) → IsInIdOrder g → (p : Dataset) (parent : Option DsId) → Has g p → parent ≡ Some p.id → start_of g parent ≡ p.creation
start_is g o p parent h e =
    ap (λ (x : Option DsId). start_of g x) e ∙ ap (λ (x : Option Dataset). created x) (dataset_is g o p p.id h refl)

-- who stands on a dataset
pub stands_on-is : (a : DsId) (parent : Option DsId) → IsTrue (stands_on a parent) → parent ≡ Some a
stands_on-is a None t = absurd (true≢false (sym t))
stands_on-is a (Some b) t = ap Some (sym (id_is a b t))

pub stands_on-from : (a : DsId) (parent : Option DsId) → parent ≡ Some a → IsTrue (stands_on a parent)
stands_on-from a parent e = subst (λ (x : Option DsId). IsTrue (stands_on a x)) (sym e) (is_id-same a a refl)

-- the children of a dataset are those that stand on it
pub from-children : (g : Graph) (a c : DsId) → Has (children_of g a) c → IsParent g a c
from-children g a c h =
    let r = from-map (λ (d : Dataset). d.id) (filter (λ (d : Dataset). stands_on a d.parent) g) c h in
    let f = from-filter (λ (d : Dataset). stands_on a d.parent) g r.0 r.1 in
    record { child = r.0; here = f.0; named = r.2; stands = stands_on-is a (r.0).parent f.1 }

pub has-child : (g : Graph) (a c : DsId) → IsParent g a c → Has (children_of g a) c
has-child g a c p =
    subst (λ (x : DsId). Has (children_of g a) x) p.named (has-map (λ (d : Dataset). d.id) (filter (λ (d : Dataset). stands_on a d.parent) g) p.child (has-filter (λ (d : Dataset). stands_on a d.parent) g p.child p.here (stands_on-from a (p.child).parent p.stands)))

-- a filtered list stays in order of id
pub in_order-filter : (test : Dataset → Bool) (g : Graph) → IsInIdOrder g → IsInIdOrder (filter test g)
in_order-filter test [] o = tt
in_order-filter test (d ∷ ds) o = go (test d) (in_order-filter test ds o.1)
  where
    go : (b : Bool) → IsInIdOrder (filter test ds) → IsInIdOrder (cond b (d ∷ filter test ds) (filter test ds))
    go true r = (λ x h. o.0 x (from-filter test ds x h).0, r)
    go false r = r

-- a change that keeps ids keeps their order
pub in_order-map : (f : Dataset → Dataset) → ((d : Dataset) → (f d).id ≡ d.id) → (g : Graph) → IsInIdOrder g → IsInIdOrder (map f g)
in_order-map f same [] o = tt
in_order-map f same (d ∷ ds) o =
    (λ x h. let r = from-map f ds x h in let is : x.id.0 ≡ (r.0).id.0 = ap (λ (y : Dataset). y.id.0) (sym r.2) ∙ ap (λ (y : DsId). y.0) (same r.0) in let mine : (f d).id.0 ≡ d.id.0 = ap (λ (y : DsId). y.0) (same d) in let below : d.id.0 < (r.0).id.0 = o.0 r.0 r.1 in omega (arith, is, mine, below), in_order-map f same ds o.1)

-- a new dataset behind all ids
pub in_order-push : (g : Graph) (d : Dataset) → IsInIdOrder g → ((x : Dataset) → Has g x → x.id.0 < d.id.0) → IsInIdOrder (g ++ d ∷ [])
in_order-push [] d o new = (λ x h. absurd h, tt)
in_order-push (y ∷ ys) d o new =
    (λ x h. elim (from-end ys x h) [ inl l ↦ o.0 x l | inr e ↦ let below : y.id.0 < d.id.0 = new y (inl refl) in subst (λ (z : Dataset). y.id.0 < z.id.0) e below ], in_order-push ys d o.1 (λ x h. new x (inr h)))
  where
    from-end : (zs : Graph) (x : Dataset) → Has (zs ++ d ∷ []) x → Has zs x ⊎ (d ≡ x)
    from-end [] x (inl e) = inr e
    from-end [] x (inr h) = absurd h
    from-end (z ∷ zs) x (inl e) = inl (inl e)
    from-end (z ∷ zs) x (inr h) = elim (from-end zs x h) [ inl l ↦ inl (inr l) | inr e ↦ inr e ]

-- as many datasets as before, and the new one
pub length-mapped : (f : Dataset → Dataset) (g : Graph) → length (map f g) ≡ length g
length-mapped f [] = refl
length-mapped f (d ∷ ds) = ap suc (length-mapped f ds)

module _ (g : Graph) (n : ℕ) (tree : IsTree g n) where
  -- a parent is a snapshot of the list, older than its child where that is a snapshot
  pub parent_is : (a c : DsId) → IsParent g a c → (d : Dataset) → Has g d → d.id ≡ c → d.parent ≡ Some a
  parent_is a c p d h e =
      subst (λ (x : Dataset). x.parent ≡ Some a) (one_dataset g tree.in_order p.child d p.here h (p.named ∙ sym e)) p.stands

  pub stands_of : (a c : DsId) (p : IsParent g a c) → StandsOnSnapshot g p.child
  stands_of a c p =
      elim (tree.stands p.child p.here) [ inl e ↦ absurd (some≢none a (sym p.stands ∙ ap (λ (d : Dataset). d.parent) e)) | inr s ↦ s ]

  -- the parent's dataset, with its id
  pub parent_id : (a c : DsId) (p : IsParent g a c) → (stands_of a c p).below.id ≡ a
  parent_id a c p = some_is ((stands_of a c p).below.id) a (sym (stands_of a c p).is_parent ∙ p.stands)

  -- a strict ancestor is a snapshot, and older than its descendant where that is a snapshot
  pub older : (a c : DsId) → Above g a c → (x y : Dataset) → Has g x → Has g y → x.id ≡ a → y.id ≡ c → y.head ≡ false → (x.head ≡ false) × (x.creation < y.creation)
  older a _ (direct c p) x y hx hy ex ey snap =
      let s = stands_of a c p in
      let same : s.below ≡ x = one_dataset g tree.in_order s.below x s.here hx (parent_id a c p ∙ sym ex) in
      let child : p.child ≡ y = one_dataset g tree.in_order p.child y p.here hy (p.named ∙ sym ey) in
      let rises : s.below.creation < (p.child).creation = s.rises (ap (λ (d : Dataset). d.head) child ∙ snap) in
      (subst (λ (d : Dataset). d.head ≡ false) same s.is_snapshot, subst (λ (d : Dataset). x.creation < d.creation) child (subst (λ (d : Dataset). d.creation < (p.child).creation) same rises))
  older a _ (up c m p above) x y hx hy ex ey snap =
      let s = stands_of m c p in
      let child : p.child ≡ y = one_dataset g tree.in_order p.child y p.here hy (p.named ∙ sym ey) in
      let rises : s.below.creation < (p.child).creation = s.rises (ap (λ (d : Dataset). d.head) child ∙ snap) in
      let up_to = older a m above x s.below hx s.here ex (parent_id m c p) s.is_snapshot in
      let then : s.below.creation < y.creation = subst (λ (d : Dataset). s.below.creation < d.creation) child rises in
      let first : x.creation < s.below.creation = up_to.1 in
      (up_to.0, omega (arith, first, then))

  -- a strict ancestor is a snapshot of the list
  pub ancestor : (a c : DsId) → Above g a c → (x : Dataset) × Has g x × (x.id ≡ a) × (x.head ≡ false)
  ancestor a _ (direct c p) = let s = stands_of a c p in (s.below, s.here, parent_id a c p, s.is_snapshot)
  ancestor a _ (up c m p above) = ancestor a m above

  -- no dataset is above itself
  pub acyclic : (a : DsId) → Above g a a → ⊥
  acyclic a above =
      let x = ancestor a a above in
      let less : (x.0).creation < (x.0).creation = (older a a above x.0 x.0 x.1 x.1 x.2 x.2 x.3).1 in
      absurd (omega (arith, less))

-- a strict ancestor of a strict ancestor is one
pub above-above : (g : Graph) (a b c : DsId) → Above g a b → Above g b c → Above g a c
above-above g a b _ ab (direct c p) = up c b p ab
above-above g a b _ ab (up c m p bm) = up c m p (above-above g a b m ab bm)

-- what stands below a dataset is a child of it, or below a child
pub below_child : (g : Graph) (a c : DsId) → Above g a c → Has (children_of g a) c ⊎ ((m : DsId) × Has (children_of g a) m × Above g m c)
below_child g a _ (direct c p) = inl (has-child g a c p)
below_child g a _ (up c m p above) = elim (below_child g a m above) [
  | inl i ↦ inr (m, i, direct c p)
  | inr r ↦ inr (r.0, r.1, up c m p r.2)
]

-- what stands above a dataset is its parent, or above its parent
pub above_parent : (g : Graph) (n : ℕ) → IsTree g n → (a p c : DsId) → IsParent g p c → Above g a c → (a ≡ p) ⊎ Above g a p
above_parent g n tree a p c parent above = go c refl above
  where
    go : (x : DsId) → c ≡ x → Above g a x → (a ≡ p) ⊎ Above g a p
    go _ is (direct x q) =
        inl (some_is a p (sym q.stands ∙ parent_is g n tree p c parent q.child q.here (q.named ∙ sym is)))
    go _ is (up x m q rest) =
        inr (subst (λ (y : DsId). Above g a y) (some_is m p (sym q.stands ∙ parent_is g n tree p c parent q.child q.here (q.named ∙ sym is))) rest)
