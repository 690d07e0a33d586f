-- The turn that ends a pass over a dataset.
use Rattle.std.proofs.Common.{◌≡◌, ◌⊎◌, ◌<◌, ◌≤◌, ℕ, Bool, true, false, List, [], ◌∷◌, ◌++◌, refl, sym, ap, subst, ◌∙◌, arith}
use Rattle.std.specs.Prelude.{map, filter, IsTrue, None, Option}
use Rattle.std.proofs.lemmas.Bool.{true≢false}
use Rattle.zs_ids.specs.declared.key.Key.{Key}
use Rattle.zs_ids.specs.declared.block.Bp.{Bp}
use Rattle.zs_ids.specs.declared.dataset.DsId.{DsId}
use Rattle.std.specs.Ordering.{is_le}
use Rattle.zs_ids.specs.Key.{key_cmp}
use Rattle.zs_ids.specs.Blocks.{first_from}
use Rattle.zs_ids.specs.Graph.{Has, Dataset, Graph}
use Rattle.zs_ids.specs.GraphTree.{IsHome, Above, dataset_at, created, children_of, stands_on}
use Rattle.zs_ids.specs.GraphTree.Above.{direct}
use Rattle.zs_ids.specs.GraphValid.{last_birth, IsValid}
use Rattle.zs_phys.specs.declared.scope.Scope.{Scope}
use Rattle.zs_phys.specs.declared.phys.Phys.{Phys}
use Rattle.zs_phys.specs.declared.phys.At.{At}
use Rattle.zs_phys.specs.declared.phys.At.TheVariants as ats
use Rattle.zs_phys.specs.declared.todos.Todo.{Todo}
use Rattle.zs_phys.specs.Ahead.{pending, ids_at, Ahead}
use Rattle.zs_phys.specs.Ahead.Ahead.{later, queued, passing, again}
use Rattle.zs_phys.specs.Sound.{AreDistinct, IsPass, Sound}
use Rattle.zs_phys.specs.Turn.{left, entry}
use Rattle.zs_graph.proofs.Lists.{has-left, has-right, from-append, has-map, from-map}
use Rattle.zs_cover.proofs.Distinct.{distinct-append, distinct-ids}
use Rattle.zs_graph.proofs.Graphs.{one_dataset, dataset_is, from-children, in_order-filter, older, acyclic, above-above, below_child, above_parent}
use Rattle.zs_graph.proofs.Keys.{none_from}
use Rattle.zs_graph.proofs.Homes.{after_ancestor}
use Rattle.zs_cover.proofs.States.{ids, at_id, at_key, at≢nowhere, here-pending, Places}
use Rattle.zs_graph.proofs.Births.{last_in_snapshot, last_in_head}
use mathlib.Core.Logic.{inl, inr}

-- the ids of two queues, one behind the other
pub ids-append : (xs ys : List Todo) → ids (xs ++ ys) ≡ ids xs ++ ids ys
ids-append [] ys = refl
ids-append (x ∷ xs) ys = ap (λ (l : List DsId). x.id ∷ l) (ids-append xs ys)

-- the ids of entries
pub ids-entries : (least : ℕ) (xs : List DsId) → ids (map (entry least) xs) ≡ xs
ids-entries least [] = refl
ids-entries least (x ∷ xs) = ap (λ (l : List DsId). x ∷ l) (ids-entries least xs)

module _ (g : Graph) (n h : ℕ) (scope : Scope) (s : Phys) (early : n ≤ h) (by : scope.max ≤ h) (valid : IsValid g n) (sound : Sound g h scope s) (d : Dataset) (k : Key) (here : Has g d) (at : s.at ≡ ats.Dataset d.id k) (none : first_from d.entries k s.curmin ≡ None) where
  was_pending : pending s ≡ d.id ∷ ids s.todo
  was_pending = ap (λ (a : At). ids_at a ++ ids s.todo) at

  was_once : AreDistinct (d.id ∷ ids s.todo)
  was_once = subst AreDistinct was_pending sound.once

  mine : Has (pending s) d.id
  mine = here-pending s d.id k at

  todo_pending : (x : DsId) → Has (ids s.todo) x → Has (pending s) x
  todo_pending x i = has-right (ids_at s.at) (ids s.todo) x i

  -- no entry of the pass is left
  passed : (c : Dataset) (f : Key × Bp) (l : Key) → IsHome g c f → s.at ≡ ats.Dataset c.id l → IsTrue (is_le (key_cmp l f.0)) → s.curmin < f.1.birth → ⊥
  passed c f l home there key born =
      let name : d.id ≡ c.id = at_id d.id c.id k l (sym at ∙ there) in
      let same : c ≡ d = one_dataset g valid.tree.in_order c d home.here here (sym name) in
      let from : l ≡ k = sym (at_key d.id c.id k l (sym at ∙ there)) in
      none_from d.entries k s.curmin f none (subst (λ (x : Dataset). Has x.entries f) same home.holds) (subst (λ (x : Key). IsTrue (is_le (key_cmp x f.0))) from key) born

  -- the dataset is passed again, from curmax on
  abbrev once_more : Phys
  once_more = record (left s) { todo = s.todo ++ entry s.curmax d.id ∷ [] }

  again_pending : pending once_more ≡ ids s.todo ++ d.id ∷ []
  again_pending = ids-append s.todo (entry s.curmax d.id ∷ [])

  from_again : (x : DsId) → Has (pending once_more) x → Has (pending s) x
  from_again x i = elim (from-append (ids s.todo) (d.id ∷ []) x (subst (λ (l : List DsId). Has l x) again_pending i)) [
    | inl l ↦ todo_pending x l
    | inr r ↦ elim r [ inl e ↦ subst (λ (y : DsId). Has (pending s) y) e mine | inr no_more ↦ absurd no_more ]
  ]

  min_again : (c : Dataset) → Has g c → c.id ≡ d.id → s.curmax ≤ last_birth c h
  min_again c i name = go c.head refl
    where
      p : IsPass scope s c
      p = sound.pass c k i (at ∙ ap (λ (x : DsId). ats.Dataset x k) (sym name))

      go : (b : Bool) → c.head ≡ b → s.curmax ≤ last_birth c h
      go true is = let e : last_birth c h ≡ h = last_in_head c h is in let low : s.curmax ≤ scope.max = p.in_range in omega (arith, e, low, by)
      go false is = let e : last_birth c h ≡ c.creation = last_in_snapshot c h is in let low : s.curmax ≤ c.creation = p.in_snapshot is in omega (arith, e, low)

  pub again-places : Places g h scope once_more
  again-places = record {
    exist = λ x i. sound.exist x (from_again x i);
    once = subst AreDistinct (sym again_pending) (distinct-append (ids s.todo) (d.id ∷ []) was_once.1 (λ i. i, tt) (λ x l r. elim r [ inl e ↦ was_once.0 (subst (λ (y : DsId). Has (ids s.todo) y) (sym e) l) | inr no_more ↦ no_more ]));
    unrelated = λ a b i j. sound.unrelated a b (from_again a i) (from_again b j);
    mins = λ q i c hc name. elim (from-append s.todo (entry s.curmax d.id ∷ []) q i) [
      | inl l ↦ sound.mins q l c hc name
      | inr r ↦ elim r [ inl e ↦ subst (λ (x : ℕ). x ≤ last_birth c h) (ap (λ (x : Todo). x.min) e) (min_again c hc (name ∙ sym (ap (λ (x : Todo). x.id) e))) | inr no_more ↦ absurd no_more ]
    ];
    pass = λ c l i e. absurd (at≢nowhere c.id l (sym e));
    between = λ e. record { no_min = refl; no_max = refl; no_again = refl };
  }

  pub again-ahead : (c : Dataset) (f : Key × Bp) → IsHome g c f → Ahead g s c.id f → Ahead g once_more c.id f
  again-ahead c f home ahead = elim ahead [
    | later l ↦ later (record { ancestor = l.ancestor; is_pending = to_again l.ancestor l.is_pending; above = l.above })
    | queued q i name born ↦ queued q (has-left s.todo (entry s.curmax d.id ∷ []) q i) name born
    | passing l there key born old ↦ absurd (passed c f l home there key born)
    | again l there on born ↦ queued (entry s.curmax d.id) (has-right s.todo (entry s.curmax d.id ∷ []) (entry s.curmax d.id) (inl refl)) (at_id d.id c.id k l (sym at ∙ there)) born
  ]
    where
      to_again : (x : DsId) → Has (pending s) x → Has (pending once_more) x
      to_again x i = subst (λ (l : List DsId). Has l x) (sym again_pending) (elim (subst (λ (l : List DsId). Has l x) was_pending i) [
        | inl e ↦ has-right (ids s.todo) (d.id ∷ []) x (inl e)
        | inr r ↦ has-left (ids s.todo) (d.id ∷ []) x r
      ])

  -- the children of the dataset are passed, from its creation on
  kids : List DsId
  kids = children_of g d.id

  abbrev whole : Phys
  whole = record (left s) { todo = s.todo ++ map (entry (created (dataset_at g d.id))) (children_of g d.id) }

  start : created (dataset_at g d.id) ≡ d.creation
  start = ap (λ (x : Option Dataset). created x) (dataset_is g valid.tree.in_order d d.id here refl)

  whole_pending : pending whole ≡ ids s.todo ++ children_of g d.id
  whole_pending =
      ids-append s.todo (map (entry (created (dataset_at g d.id))) (children_of g d.id)) ∙ ap (λ (l : List DsId). ids s.todo ++ l) (ids-entries (created (dataset_at g d.id)) (children_of g d.id))

  from_whole : (x : DsId) → Has (pending whole) x → Has (ids s.todo) x ⊎ Has (children_of g d.id) x
  from_whole x i = from-append (ids s.todo) (children_of g d.id) x (subst (λ (l : List DsId). Has l x) whole_pending i)

  below : (x : DsId) → Has (children_of g d.id) x → Above g d.id x
  below x i = direct x (from-children g d.id x i)

  -- nothing in the queue stands above a child
  not_above : (a b : DsId) → Has (ids s.todo) a → Has (children_of g d.id) b → Above g a b → ⊥
  not_above a b i j above = elim (above_parent g n valid.tree a d.id b (from-children g d.id b j) above) [
    | inl e ↦ was_once.0 (subst (λ (x : DsId). Has (ids s.todo) x) e i)
    | inr more ↦ sound.unrelated a d.id (todo_pending a i) mine more
  ]

  no_child : (a b : DsId) → Has (children_of g d.id) a → Has (children_of g d.id) b → Above g a b → ⊥
  no_child a b i j above = elim (above_parent g n valid.tree a d.id b (from-children g d.id b j) above) [
    | inl e ↦ acyclic g n valid.tree d.id (subst (λ (x : DsId). Above g d.id x) e (below a i))
    | inr more ↦ acyclic g n valid.tree d.id (above-above g d.id a d.id (below a i) more)
  ]

  least : (q : Todo) → Has (map (entry (created (dataset_at g d.id))) (children_of g d.id)) q → (c : Dataset) → Has g c → c.id ≡ q.id → q.min ≤ last_birth c h
  least q i c hc name =
      let r = from-map (entry (created (dataset_at g d.id))) (children_of g d.id) q i in
      let same : q.id ≡ r.0 = ap (λ (x : Todo). x.id) (sym r.2) in
      let is : q.min ≡ d.creation = ap (λ (x : Todo). x.min) (sym r.2) ∙ start in
      let stands : Above g d.id c.id = subst (λ (x : DsId). Above g d.id x) (sym (name ∙ same)) (below r.0 r.1) in
      go is stands c.head refl
    where
      go : q.min ≡ d.creation → Above g d.id c.id → (b : Bool) → c.head ≡ b → q.min ≤ last_birth c h
      go is stands true hd = let e : last_birth c h ≡ h = last_in_head c h hd in let old : d.creation ≤ n = (valid.tree).created d here in omega (arith, is, e, old, early)
      go is stands false hd = let e : last_birth c h ≡ c.creation = last_in_snapshot c h hd in let less : d.creation < c.creation = (older g n valid.tree d.id c.id stands d c here hc refl refl hd).1 in omega (arith, is, e, less)

  pub whole-places : Places g h scope whole
  whole-places = record {
    exist = λ x i. elim (from_whole x i) [
      | inl l ↦ sound.exist x (todo_pending x l)
      | inr r ↦ let p = from-children g d.id x r in record { dataset = p.child; here = p.here; named = p.named }
    ];
    once = subst AreDistinct (sym whole_pending) (distinct-append (ids s.todo) (children_of g d.id) was_once.1 (distinct-ids (filter (λ (c : Dataset). stands_on d.id c.parent) g) (in_order-filter (λ (c : Dataset). stands_on d.id c.parent) g (valid.tree).in_order)) (λ x l r. sound.unrelated d.id x mine (todo_pending x l) (below x r)));
    unrelated = λ a b i j above. elim (from_whole a i) [
      | inl ta ↦ elim (from_whole b j) [ inl tb ↦ sound.unrelated a b (todo_pending a ta) (todo_pending b tb) above | inr cb ↦ not_above a b ta cb above ]
      | inr ca ↦ elim (from_whole b j) [ inl tb ↦ sound.unrelated d.id b mine (todo_pending b tb) (above-above g d.id a b (below a ca) above) | inr cb ↦ no_child a b ca cb above ]
    ];
    mins = λ q i c hc name. elim (from-append s.todo (map (entry (created (dataset_at g d.id))) (children_of g d.id)) q i) [
      | inl l ↦ sound.mins q l c hc name
      | inr r ↦ least q r c hc name
    ];
    pass = λ c l i e. absurd (at≢nowhere c.id l (sym e));
    between = λ e. record { no_min = refl; no_max = refl; no_again = refl };
  }

  pub whole-ahead : s.again ≡ false → (c : Dataset) (f : Key × Bp) → IsHome g c f → Ahead g s c.id f → Ahead g whole c.id f
  whole-ahead off c f home ahead = elim ahead [
    | later l ↦ elim (subst (λ (x : List DsId). Has x l.ancestor) was_pending l.is_pending) [
      | inl e ↦ child_case (subst (λ (x : DsId). Above g x c.id) (sym e) l.above)
      | inr r ↦ later (record { ancestor = l.ancestor; is_pending = subst (λ (x : List DsId). Has x l.ancestor) (sym whole_pending) (has-left (ids s.todo) (children_of g d.id) l.ancestor r); above = l.above })
    ]
    | queued q i name born ↦ queued q (has-left s.todo (map (entry (created (dataset_at g d.id))) (children_of g d.id)) q i) name born
    | passing l there key born old ↦ absurd (passed c f l home there key born)
    | again l there on born ↦ absurd (true≢false (sym on ∙ off))
  ]
    where
      child_case : Above g d.id c.id → Ahead g whole c.id f
      child_case above = elim (below_child g d.id c.id above) [
        | inl i ↦ queued (entry (created (dataset_at g d.id)) c.id) (has-right s.todo (map (entry (created (dataset_at g d.id))) (children_of g d.id)) (entry (created (dataset_at g d.id)) c.id) (has-map (entry (created (dataset_at g d.id))) (children_of g d.id) c.id i)) refl (subst (λ (x : ℕ). x < f.1.birth) (sym start) (after_ancestor g n valid.tree d.id c f d above home here refl))
        | inr r ↦ later (record { ancestor = r.0; is_pending = subst (λ (x : List DsId). Has x r.0) (sym whole_pending) (has-right (ids s.todo) (children_of g d.id) r.0 r.1); above = r.2 })
      ]
