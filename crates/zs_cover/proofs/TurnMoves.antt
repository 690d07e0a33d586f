-- The turns that leave a destroyed dataset, pass over a dataset of the queue, and enter one.
use Rattle.std.proofs.Common.{◌≡◌, ◌⊎◌, ◌<◌, ◌≤◌, max, min, ℕ, Bool, true, false, cond, List, ◌∷◌, ◌++◌, refl, sym, ap, subst, ◌∙◌, arith}
use Rattle.std.specs.Prelude.{drop, IsTrue, if◌then◌else◌}
use Rattle.zs_ids.specs.declared.key.Key.{Key}
use Rattle.zs_ids.specs.declared.block.Bp.{Bp}
use Rattle.zs_ids.specs.declared.block.Piece.{Piece}
use Rattle.zs_ids.specs.declared.dataset.DsId.{DsId}
use Rattle.zs_ids.specs.Key.{root_key}
use Rattle.zs_ids.specs.Graph.{Has, Dataset, Graph, pieces_of}
use Rattle.zs_ids.specs.GraphTree.{IsHome, Above, dataset_at}
use Rattle.zs_ids.specs.GraphValid.{last_birth, IsValid}
use Rattle.zs_phys.specs.declared.scope.Scope.{Scope}
use Rattle.zs_phys.specs.declared.phys.Phys.{Phys}
use Rattle.zs_phys.specs.declared.phys.At.{At}
use Rattle.zs_phys.specs.declared.phys.At.TheVariants.{Nowhere, Destroyed}
use Rattle.zs_phys.specs.declared.phys.At.TheVariants as ats
use Rattle.zs_phys.specs.declared.todos.Todo.{Todo}
use Rattle.zs_phys.specs.Scope.{in_scope}
use Rattle.zs_phys.specs.Ahead.{pending, ids_at, Ahead}
use Rattle.zs_phys.specs.Ahead.Ahead.{later, queued, passing, again}
use Rattle.zs_phys.specs.Sound.{AreDistinct, Sound, pass_end}
use Rattle.zs_phys.specs.Turn.{left, end_of_pass}
use Rattle.zs_graph.proofs.Graphs.{dataset_is, ancestor}
use Rattle.zs_graph.proofs.Keys.{root_first}
use Rattle.zs_graph.proofs.Homes.{piece_birth, after_ancestor}
use Rattle.zs_cover.proofs.Scopes.{scope_range}
use Rattle.zs_cover.proofs.States.{ids, at≢nowhere, at≢destroyed, at_id, Places, among}
use Rattle.zs_graph.proofs.Births.{last_in_snapshot}
use mathlib.Core.Logic.{inl, inr}

module _ (g : Graph) (n h : ℕ) (scope : Scope) (s : Phys) (valid : IsValid g n) (sound : Sound g h scope s) where
  -- the walk leaves a destroyed dataset
  pub leave-places : s.at ≡ Destroyed → Places g h scope (left s)
  leave-places at =
      let same : pending s ≡ ids s.todo = ap (λ (a : At). ids_at a ++ ids s.todo) at in
      among g h scope s (left s) sound (λ x i. subst (λ (l : List DsId). Has l x) (sym same) i) (subst AreDistinct same sound.once) (λ q i. i) (λ d k i e. absurd (at≢nowhere d.id k (sym e))) (λ e. record { no_min = refl; no_max = refl; no_again = refl })

  pub leave-ahead : s.at ≡ Destroyed → (id : DsId) (e : Key × Bp) → Ahead g s id e → Ahead g (left s) id e
  leave-ahead at id e (later l) =
      later (record { ancestor = l.ancestor; is_pending = subst (λ (a : At). Has (ids_at a ++ ids s.todo) l.ancestor) at l.is_pending; above = l.above })
  leave-ahead at id e (queued q i name born) = queued q i name born
  leave-ahead at id e (passing k here key born old) = absurd (at≢destroyed id k (sym here ∙ at))
  leave-ahead at id e (again k here on born) = absurd (at≢destroyed id k (sym here ∙ at))

  module _ (q : Todo) (qs : List Todo) (at : s.at ≡ Nowhere) (todo : s.todo ≡ q ∷ qs) where
    first_pending : pending s ≡ q.id ∷ ids qs
    first_pending = ap (λ (a : At). ids_at a ++ ids s.todo) at ∙ ap ids todo

    first_here : Has s.todo q
    first_here = subst (λ (l : List Todo). Has l q) (sym todo) (inl refl)

    rest_here : (x : Todo) → Has (drop 1 s.todo) x → Has s.todo x
    rest_here x i = subst (λ (l : List Todo). Has l x) (sym todo) (inr (subst (λ (l : List Todo). Has (drop 1 l) x) todo i))

    rest_has : (x : Todo) → Has s.todo x → (q ≡ x) ⊎ Has (drop 1 s.todo) x
    rest_has x i = elim (subst (λ (l : List Todo). Has l x) todo i) [ inl e ↦ inl e | inr r ↦ inr (subst (λ (l : List Todo). Has (drop 1 l) x) (sym todo) r) ]

    rest_pending : pending (record s { todo = drop 1 s.todo }) ≡ ids qs
    rest_pending = ap (λ (a : At). ids_at a ++ ids (drop 1 s.todo)) at ∙ ap (λ (l : List Todo). ids (drop 1 l)) todo

    -- the walk passes over the first dataset of the queue, which has nothing in scope
    pub skip-places : Places g h scope (record s { todo = drop 1 s.todo })
    skip-places =
        let once : AreDistinct (q.id ∷ ids qs) = subst AreDistinct first_pending sound.once in
        among g h scope s (record s { todo = drop 1 s.todo }) sound (λ x i. subst (λ (l : List DsId). Has l x) (sym first_pending) (inr (subst (λ (l : List DsId). Has l x) rest_pending i))) (subst AreDistinct (sym rest_pending) once.1) rest_here (λ d k i e. absurd (at≢nowhere d.id k (sym e ∙ at))) (λ e. let b = sound.between (ap ids_at at) in record { no_min = b.no_min; no_max = b.no_max; no_again = b.no_again })

    -- what stands below the first dataset is born after its min
    below_first : (d : Dataset) (e : Key × Bp) → IsHome g d e → Above g q.id d.id → q.min < e.1.birth
    below_first d e home above =
        let x = ancestor g n valid.tree q.id d.id above in
        let least : q.min ≤ last_birth x.0 h = sound.mins q first_here x.0 x.1 x.2 in
        let last : last_birth x.0 h ≡ (x.0).creation = last_in_snapshot x.0 h x.3 in
        let born : (x.0).creation < e.1.birth = after_ancestor g n valid.tree q.id d e x.0 above home x.1 x.2 in
        omega (arith, least, last, born)

    nothing_due : scope.max ≤ max scope.min q.min → (bp : Bp) (p : Piece) → Has (pieces_of bp) p → IsTrue (in_scope scope p) → q.min < bp.birth → ⊥
    nothing_due over bp p piece in_range born =
        let range = scope_range scope p in_range in
        let same : p.birth ≡ bp.birth = piece_birth bp p piece in
        let after : scope.min < p.birth = range.0 in
        let before : p.birth < scope.max = range.1 in
        omega (arith, over, same, after, before, born)

    pub skip-ahead : scope.max ≤ max scope.min q.min → (d : Dataset) (e : Key × Bp) (p : Piece) → IsHome g d e → Has (pieces_of e.1) p → IsTrue (in_scope scope p) → Ahead g s d.id e → Ahead g (record s { todo = drop 1 s.todo }) d.id e
    skip-ahead over d e p home piece in_range ahead = elim ahead [
      | later l ↦ elim (subst (λ (x : List DsId). Has x l.ancestor) first_pending l.is_pending) [
        | inl first ↦ absurd (nothing_due over e.1 p piece in_range (below_first d e home (subst (λ (x : DsId). Above g x d.id) (sym first) l.above)))
        | inr r ↦ later (record { ancestor = l.ancestor; is_pending = subst (λ (x : List DsId). Has x l.ancestor) (sym rest_pending) r; above = l.above })
      ]
      | queued x i name born ↦ elim (rest_has x i) [
        | inl first ↦ absurd (nothing_due over e.1 p piece in_range (subst (λ (y : Todo). y.min < e.1.birth) (sym first) born))
        | inr r ↦ queued x r name born
      ]
      | passing k here key born old ↦ absurd (at≢nowhere d.id k (sym here ∙ at))
      | again k here on born ↦ absurd (at≢nowhere d.id k (sym here ∙ at))
    ]

    -- the walk enters the first dataset of the queue
    abbrev entered : Phys
    entered = record s { at = ats.Dataset q.id root_key; curmin = max scope.min q.min; curmax = end_of_pass (dataset_at g q.id) scope.max; again = false; todo = drop 1 s.todo }

    enter_pending : pending (record s { at = ats.Dataset q.id root_key; curmin = max scope.min q.min; curmax = end_of_pass (dataset_at g q.id) scope.max; again = false; todo = drop 1 s.todo }) ≡ pending s
    enter_pending = ap (λ (l : List Todo). q.id ∷ ids (drop 1 l)) todo ∙ sym first_pending

    end_is : (d : Dataset) → Has g d → d.id ≡ q.id → end_of_pass (dataset_at g q.id) scope.max ≡ pass_end d scope.max
    end_is d i name = ap (λ o. end_of_pass o scope.max) (dataset_is g valid.tree.in_order d q.id i name)

    pass_below : (d : Dataset) → pass_end d scope.max ≤ scope.max
    pass_below d = go d.head
      where
        go : (b : Bool) → cond b scope.max (min scope.max d.creation) ≤ scope.max
        go true = omega arith
        go false = omega arith

    pass_in : (d : Dataset) → d.head ≡ false → pass_end d scope.max ≤ d.creation
    pass_in d is =
        let e : pass_end d scope.max ≡ min scope.max d.creation = ap (λ (b : Bool). if b then scope.max else min scope.max d.creation) is in
        omega (arith, e)

    pub enter-places : Places g h scope entered
    enter-places =
        among g h scope s entered sound (λ x i. subst (λ (l : List DsId). Has l x) enter_pending i) (subst AreDistinct (sym enter_pending) sound.once) rest_here (λ d k i e. let same = end_is d i (sym (at_id q.id d.id root_key k e)) in record { in_range = rw same (pass_below d); in_snapshot = λ snap. rw same (pass_in d snap); whole = λ off. same }) (λ e. absurd (subst (λ (l : List DsId). Has l q.id) e (inl refl)))

    pub enter-ahead : max scope.min q.min < scope.max → (d : Dataset) (e : Key × Bp) (p : Piece) → IsHome g d e → Has (pieces_of e.1) p → IsTrue (in_scope scope p) → Ahead g s d.id e → Ahead g entered d.id e
    enter-ahead under d e p home piece in_range ahead = elim ahead [
      | later l ↦ later (record { ancestor = l.ancestor; is_pending = subst (λ (x : List DsId). Has x l.ancestor) (sym enter_pending) l.is_pending; above = l.above })
      | queued x i name born ↦ elim (rest_has x i) [
        | inl first ↦ first_case (ap (λ (y : Todo). y.id) first ∙ name) (subst (λ (y : Todo). y.min < e.1.birth) (sym first) born)
        | inr r ↦ queued x r name born
      ]
      | passing k here key born old ↦ absurd (at≢nowhere d.id k (sym here ∙ at))
      | again k here on born ↦ absurd (at≢nowhere d.id k (sym here ∙ at))
    ]
      where
        in_pass : (b : Bool) → d.head ≡ b → e.1.birth < scope.max → e.1.birth ≤ cond b scope.max (min scope.max d.creation)
        in_pass true is before = omega (arith, before)
        in_pass false is before =
            let low : e.1.birth ≤ last_birth d n = (valid.holds d home.here).births e home.holds in
            let last : last_birth d n ≡ d.creation = last_in_snapshot d n is in
            omega (arith, before, low, last)

        first_case : q.id ≡ d.id → q.min < e.1.birth → Ahead g entered d.id e
        first_case name born =
            let range = scope_range scope p in_range in
            let same : p.birth ≡ e.1.birth = piece_birth e.1 p piece in
            let after : scope.min < p.birth = range.0 in
            let before : p.birth < scope.max = range.1 in
            passing root_key (ap (λ (x : DsId). ats.Dataset x root_key) name) (root_first e.0) (omega (arith, same, after, born)) (rw (end_is d home.here (sym name)) (in_pass d.head refl (omega (arith, same, before))))
