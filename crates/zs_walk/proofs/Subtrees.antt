-- The turns over the datasets that stand on one, each with all below it: at most those over all below the one.
use Rattle.std.proofs.Common.{◌≡◌, ◌≤◌, ◌+◌, ◌++◌, ◌⊎◌, ◌&&◌, ◌||◌, ℕ, Bool, true, false, not, List, [], ◌∷◌, refl, sym, ap, subst, ◌∙◌, arith}
use Rattle.std.specs.Prelude.{map, filter, length, IsTrue, Option, if◌then◌else◌}
use Rattle.std.specs.List.{sum_by}
use Rattle.std.proofs.lemmas.Bool.{true≢false, false_from_ne_true, or_cases, or_left, or_right, and_from, and_parts}
use Rattle.std.proofs.lemmas.List.Sums.{sum_by-cons, sum_by-append}
use Rattle.zs_ids.specs.declared.dataset.DsId.{DsId}
use Rattle.zs_ids.specs.Graph.{Has, Dataset, Graph}
use Rattle.zs_ids.specs.GraphTree.{is_id, dataset_at, created, children_of, stands_on, entries_of, IsParent, Above}
use Rattle.zs_ids.specs.GraphTree.Above.{direct}
use Rattle.zs_ids.specs.GraphValid.{IsTree}
use Rattle.zs_phys.specs.declared.phys.Phys.{Phys}
use Rattle.zs_phys.specs.declared.todos.Todo.{Todo}
use Rattle.zs_phys.specs.Sound.{AreDistinct}
use Rattle.zs_phys.specs.Turn.{entry, queued_at_end}
use Rattle.zs_graph.proofs.Graphs.{id_is, is_id-same, dataset_is, from-children, in_order-filter, acyclic, above-above}
use Rattle.zs_cover.proofs.Distinct.{distinct-ids}
use Rattle.zs_walk.specs.Left.{turns_over, is_below, turns_below, turns_at, turns_queued}
use Rattle.zs_walk.proofs.Sums.{apart, one_passes}
use Rattle.zs_walk.proofs.Descents.{above_is, below_is, one_child, not_above}
use mathlib.Core.Logic.{inl, inr}

-- the turns of two queues, one behind the other
pub queued_both : (g : Graph) (a b : List Todo) → turns_queued g (a ++ b) ≡ turns_queued g a + turns_queued g b
queued_both g a b = sum_by-append (λ (q : Todo). turns_at g q.id) a b

-- those of a queue with a first dataset
pub queued_first : (g : Graph) (q : Todo) (qs : List Todo) → turns_queued g (q ∷ qs) ≡ turns_at g q.id + turns_queued g qs
queued_first g q qs = sum_by-cons (λ (x : Todo). turns_at g x.id) q qs

-- not both
not_and : (b : Bool) → (IsTrue b → ⊥) → not b ≡ true
not_and b never = ap not (false_from_ne_true b never)

not_is : (b : Bool) → not b ≡ true → IsTrue b → ⊥
not_is b off on = true≢false (sym off ∙ ap not on)

module _ (g : Graph) (n : ℕ) (tree : IsTree g n) where
  -- a pass over a dataset
  abbrev over : Dataset → ℕ
  over d = turns_over d.entries

  -- a dataset is the one with this id, or below it
  abbrev is_of : DsId → Dataset → Bool
  is_of id d = is_id d.id id || is_below g id d

  of_is : (id : DsId) (d : Dataset) → Has g d → IsTrue (is_of id d) → (d.id ≡ id) ⊎ Above g id d.id
  of_is id d here t = elim (or_cases (is_id d.id id) (is_below g id d) t) [ inl e ↦ inl (id_is d.id id e) | inr b ↦ inr (above_is g n tree (length g) id d here b) ]

  -- a pass over a dataset and all below it is a sum over these
  whole : (id : DsId) (d : Dataset) → Has g d → d.id ≡ id → turns_at g id ≤ sum_by over (filter (is_of id) g)
  whole id d here is =
      let own : turns_over (entries_of (dataset_at g id)) ≡ over d = ap (λ (o : Option Dataset). turns_over (entries_of o)) (dataset_is g tree.in_order d id here is) in
      let mine : over d ≤ sum_by over (filter (λ (x : Dataset). is_id x.id id) g) = one_passes over (λ (x : Dataset). is_id x.id id) g d here (is_id-same d.id id is) in
      let both : sum_by over (filter (λ (x : Dataset). is_id x.id id) g) + turns_below g id ≤ sum_by over (filter (is_of id) g) = apart over (λ (x : Dataset). is_id x.id id) (is_below g id) (is_of id) g (λ x h t. or_left (is_id x.id id) _ t) (λ x h t. or_right (is_id x.id id) _ t) (λ x h same t. acyclic g n tree id (subst (λ (y : DsId). Above g id y) (id_is x.id id same) (above_is g n tree (length g) id x h t))) in
      omega (arith, own, mine, both)

  -- no dataset is of two children of one
  one_family : (id a b : DsId) → IsParent g id a → IsParent g id b → (x : Dataset) → Has g x → IsTrue (is_of a x) → IsTrue (is_of b x) → a ≡ b
  one_family id a b pa pb x here first second = elim (of_is a x here first) [
    | inl e ↦ elim (of_is b x here second) [
      | inl f ↦ sym e ∙ f
      | inr down ↦ absurd (not_above g n tree id b a pb pa (subst (λ (y : DsId). Above g b y) e down))
    ]
    | inr under ↦ elim (of_is b x here second) [
      | inl f ↦ absurd (not_above g n tree id a b pa pb (subst (λ (y : DsId). Above g a y) f under))
      | inr down ↦ one_child g n tree id a b x.id pa pb under down
    ]
  ]

  -- children of a dataset, each with all below it, have at most the turns of a test that all of these pass
  together : (id : DsId) (least : ℕ) (children : List DsId) (all : Dataset → Bool) → AreDistinct children → ((c : DsId) → Has children c → IsParent g id c) → ((c : DsId) → Has children c → (x : Dataset) → Has g x → IsTrue (is_of c x) → IsTrue (all x)) → turns_queued g (map (entry least) children) ≤ sum_by over (filter all g)
  together id least [] all once stand within = omega arith
  together id least (c ∷ cs) all once stand within =
      let p = stand c (inl refl) in
      let first : turns_at g c ≤ sum_by over (filter (is_of c) g) = whole c p.child p.here p.named in
      let rest : turns_queued g (map (entry least) cs) ≤ sum_by over (filter others g) = together id least cs others once.1 (λ b h. stand b (inr h)) (λ b h x here t. and_from (all x) _ (within b (inr h) x here t) (not_and (is_of c x) (λ of. once.0 (subst (λ (y : DsId). Has cs y) (one_family id b c (stand b (inr h)) p x here t of) h)))) in
      let both : sum_by over (filter (is_of c) g) + sum_by over (filter others g) ≤ sum_by over (filter all g) = apart over (is_of c) others all g (λ x h t. within c (inl refl) x h t) (λ x h t. (and_parts (all x) _ t).0) (λ x h of t. not_is (is_of c x) (and_parts (all x) _ t).1 of) in
      let queue : turns_queued g (map (entry least) (c ∷ cs)) ≡ turns_at g c + turns_queued g (map (entry least) cs) = queued_first g (entry least c) (map (entry least) cs) in
      omega (arith, first, rest, both, queue)
    where
      others : Dataset → Bool
      others x = all x && not (is_of c x)

  -- those that stand on a dataset
  queued_children : (id : DsId) (least : ℕ) → turns_queued g (map (entry least) (children_of g id)) ≤ turns_below g id
  queued_children id least =
      together id least (children_of g id) (is_below g id) (distinct-ids (filter (λ (d : Dataset). stands_on id d.parent) g) (in_order-filter (λ (d : Dataset). stands_on id d.parent) g tree.in_order)) (λ c h. from-children g id c h) (λ c h x here t. below_is g n tree id x here (further c (direct c (from-children g id c h)) x (of_is c x here t)))
    where
      further : (c : DsId) → Above g id c → (x : Dataset) → (x.id ≡ c) ⊎ Above g c x.id → Above g id x.id
      further c on x (inl e) = subst (λ (y : DsId). Above g id y) (sym e) on
      further c on x (inr down) = above-above g id c x.id on down

  -- what the end of a pass puts into the queue
  pub queued_end : (s : Phys) (id : DsId) → turns_queued g (queued_at_end g s id) ≤ (if s.again then turns_at g id else turns_below g id)
  queued_end s id = go s.again
    where
      go : (b : Bool) → turns_queued g (if b then entry s.curmax id ∷ [] else map (entry (created (dataset_at g id))) (children_of g id)) ≤ (if b then turns_at g id else turns_below g id)
      go true = let one = queued_first g (entry s.curmax id) [] in omega (arith, one)
      go false = queued_children id (created (dataset_at g id))
