-- A destroyed snapshot with a child keeps coverage: the bookmark and the queue move to the child, and a child that is
-- being walked is walked again.
use Rattle.std.proofs.Common.{◌≡◌, ◌≢◌, ◌<◌, ◌≤◌, min, ℕ, Bool, true, false, ◌||◌, List, [], refl, sym, ap, subst, ◌∙◌, arith}
use Rattle.std.specs.Prelude.{if◌then◌else◌}
use Rattle.std.proofs.lemmas.Bool.{true≢false, or_left, or_right, or_parts}
use Rattle.zs_ids.specs.declared.key.Key.{Key}
use Rattle.zs_ids.specs.declared.block.Bp.{Bp}
use Rattle.zs_ids.specs.declared.block.Piece.{Piece}
use Rattle.zs_ids.specs.declared.dataset.DsId.{DsId}
use Rattle.zs_ids.specs.declared.dataset.TheConstants.DsId.{ORIGIN}
use Rattle.zs_ids.specs.Graph.{Has, Dataset, Graph}
use Rattle.zs_ids.specs.GraphTree.{IsHome, IsParent, Above}
use Rattle.zs_ids.specs.GraphTree.Above.{direct}
use Rattle.zs_ids.specs.GraphValid.{last_birth, IsValid}
use Rattle.zs_ids.specs.GraphChange.{destroyed}
use Rattle.zs_phys.specs.declared.scope.Scope.{Scope}
use Rattle.zs_phys.specs.declared.phys.Phys.{Phys}
use Rattle.zs_phys.specs.declared.phys.At.{At}
use Rattle.zs_phys.specs.declared.phys.At.TheVariants.{Nowhere, Destroyed}
use Rattle.zs_phys.specs.declared.phys.At.TheVariants as ats
use Rattle.zs_phys.specs.declared.todos.Todo.{Todo}
use Rattle.zs_phys.specs.Handlers.{instead, is_on, replaced_by, moved, entry_at}
use Rattle.zs_phys.specs.Ahead.{pending, ids_at, Ahead, Covers}
use Rattle.zs_phys.specs.Ahead.Ahead.{later, queued, again}
use Rattle.zs_phys.specs.Sound.{IsOfGraph, IsPass, Sound}
use Rattle.zs_cover.specs.Laws.{StaysDone}
use Rattle.zs_graph.proofs.Lists.{has-map, from-map, from-append}
use Rattle.zs_graph.proofs.Graphs.{is_id-same, cases_id, one_dataset, acyclic, above-above, above_parent, below_child, from-children}
use Rattle.zs_graph.proofs.Homes.{after_ancestor}
use Rattle.zs_cover.proofs.States.{ids}
use Rattle.zs_graph.proofs.Births.{last_in_snapshot, last_in_head}
use Rattle.zs_cover.proofs.CoversKept.{covers_kept}
use Rattle.zs_graph.proofs.Kept.{last_same}
use Rattle.zs_cover.proofs.Renames.{IsRenamed, sound-renamed, ahead-moved, has-renamed}
use Rattle.zs_graph.proofs.Places.{instead-is, instead-other}
use Rattle.zs_graph.proofs.DestroyTree as tree
use mathlib.Core.Logic.{inl, inr}

-- at no dataset, the state is on none
on-none : (at : At) (id : DsId) → ids_at at ≡ [] → is_on at id ≡ false
on-none Nowhere id e = refl
on-none Destroyed id e = refl
on-none (ats.Dataset here k) id e = absurd (subst (λ (l : List DsId). Has l here) e (inl refl))

module _ (g : Graph) (n h : ℕ) (early : n ≤ h) (valid : IsValid g n) (gone : Dataset) (here : Has g gone) (not_origin : gone.id ≢ ORIGIN) (next : DsId) (only : (c : DsId) → IsParent g gone.id c → c ≡ next) (parent : IsParent g gone.id next) (scope : Scope) (s : Phys) (sound : Sound g h scope s) where
  abbrev new : Graph
  new = destroyed g gone

  abbrev after : Phys
  after = replaced_by gone.id next s

  abbrev place : DsId → DsId
  place x = instead gone.id next x

  place-gone : (x : DsId) → x ≡ gone.id → place x ≡ next
  place-gone x e = instead-is gone.id next x e

  place-other : (x : DsId) → x ≢ gone.id → place x ≡ x
  place-other x ne = instead-other gone.id next x ne

  above_next : Above g gone.id next
  above_next = direct next parent

  next≢gone : next ≢ gone.id
  next≢gone e = acyclic g n valid.tree gone.id (subst (λ (x : DsId). Above g gone.id x) e above_next)

  gone_snap : gone.head ≡ false
  gone_snap = tree.gone_snapshot g n h early valid gone here not_origin next only parent.child parent.here parent.stands

  renamed_by : IsRenamed (instead gone.id next) s (replaced_by gone.id next s)
  renamed_by = record {
    at = refl;
    todo = refl;
    status = refl;
    paused = refl;
    curmin = refl;
    curmax = refl;
    more = λ e. or_left s.again (is_on s.at gone.id) e;
    quiet = λ e. ap (λ (b : Bool). s.again || b) (on-none s.at gone.id e) ∙ or_none s.again;
  }
    where
      or_none : (b : Bool) → (b || false) ≡ b
      or_none true = refl
      or_none false = refl

  on_gone : (k : Key) → s.at ≡ ats.Dataset gone.id k → (s.again || is_on s.at gone.id) ≡ true
  on_gone k at = or_right s.again (is_on s.at gone.id) (ap (λ (a : At). is_on a gone.id) at ∙ is_id-same gone.id gone.id refl)

  -- the new graph's datasets with an id
  same_kind : (d : Dataset) (w : tree.Was g n h early valid gone here not_origin next only d) → (d.head ≡ (w.old).head) × (d.creation ≡ (w.old).creation) × (d.id ≡ (w.old).id)
  same_kind d w = let y = tree.was_same g n h early valid gone here not_origin next only d w in (y.head, y.creation, y.id)

  exist : (a : DsId) → Has (pending s) a → IsOfGraph g a → IsOfGraph new (place a)
  exist a i o = elim (cases_id a gone.id) [
    | inl e ↦ record { dataset = tree.put g n h early valid gone here not_origin next only parent.child; here = tree.has_new g n h early valid gone here not_origin next only parent.child parent.here (λ x. next≢gone (sym parent.named ∙ x)); named = (tree.put_same g n h early valid gone here not_origin next only parent.child).id ∙ parent.named ∙ sym (place-gone a e) }
    | inr ne ↦ record { dataset = tree.put g n h early valid gone here not_origin next only o.dataset; here = tree.has_new g n h early valid gone here not_origin next only o.dataset o.here (λ x. ne (sym o.named ∙ x)); named = (tree.put_same g n h early valid gone here not_origin next only o.dataset).id ∙ o.named ∙ sym (place-other a ne) }
  ]

  -- what is pending beside the destroyed snapshot is not its child
  not_next : (a b : DsId) → Has (pending s) a → Has (pending s) b → a ≡ gone.id → b ≡ next → ⊥
  not_next a b i j ea eb =
      sound.unrelated a b i j (subst (λ (x : DsId). Above g x b) (sym ea) (subst (λ (x : DsId). Above g gone.id x) (sym eb) above_next))

  two : (a b : DsId) → Has (pending s) a → Has (pending s) b → place a ≡ place b → a ≡ b
  two a b i j e = elim (cases_id a gone.id) [
    | inl ea ↦ elim (cases_id b gone.id) [
      | inl eb ↦ ea ∙ sym eb
      | inr nb ↦ absurd (not_next a b i j ea (sym (place-other b nb) ∙ sym e ∙ place-gone a ea))
    ]
    | inr na ↦ elim (cases_id b gone.id) [
      | inl eb ↦ absurd (not_next b a j i eb (sym (place-other a na) ∙ e ∙ place-gone b eb))
      | inr nb ↦ sym (place-other a na) ∙ e ∙ place-other b nb
    ]
  ]

  unrelated : (a b : DsId) → Has (pending s) a → Has (pending s) b → Above new (place a) (place b) → ⊥
  unrelated a b i j above =
      let was : Above g (place a) (place b) = tree.above_was g n h early valid gone here not_origin next only (place a) (place b) above in
      elim (cases_id a gone.id) [
        | inl ea ↦ let from : Above g next (place b) = subst (λ (x : DsId). Above g x (place b)) (place-gone a ea) was in
            elim (cases_id b gone.id) [
              | inl eb ↦ acyclic g n valid.tree next (subst (λ (x : DsId). Above g next x) (place-gone b eb) from)
              | inr nb ↦ sound.unrelated a b i j (subst (λ (x : DsId). Above g x b) (sym ea) (above-above g gone.id next b above_next (subst (λ (x : DsId). Above g next x) (place-other b nb) from)))
            ]
        | inr na ↦ let from : Above g a (place b) = subst (λ (x : DsId). Above g x (place b)) (place-other a na) was in
            elim (cases_id b gone.id) [
              | inl eb ↦ elim (above_parent g n valid.tree a gone.id next parent (subst (λ (x : DsId). Above g a x) (place-gone b eb) from)) [
                | inl is ↦ na is
                | inr more ↦ sound.unrelated a b i j (subst (λ (x : DsId). Above g a x) (sym eb) more)
              ]
              | inr nb ↦ sound.unrelated a b i j (subst (λ (x : DsId). Above g a x) (place-other b nb) from)
            ]
      ]

  -- a group that the destroyed snapshot had reached, its child has reached too
  reached : (d : Dataset) → Has new d → d.id ≡ next → (m : ℕ) → m ≤ gone.creation → m ≤ last_birth d h
  reached d hd name m le =
      let w = tree.was g n h early valid gone here not_origin next only d hd in
      let y = same_kind d w in
      let is : w.old ≡ parent.child = one_dataset g (valid.tree).in_order w.old parent.child w.there parent.here (sym y.2 ∙ name ∙ sym parent.named) in
      go w y is d.head refl
    where
      go : (w : tree.Was g n h early valid gone here not_origin next only d) → (d.head ≡ (w.old).head) × (d.creation ≡ (w.old).creation) × (d.id ≡ (w.old).id) → w.old ≡ parent.child → (b : Bool) → d.head ≡ b → m ≤ last_birth d h
      go w y is true hd_is = let e : last_birth d h ≡ h = last_in_head d h hd_is in let old : gone.creation ≤ n = (valid.tree).created gone here in omega (arith, e, old, early, le)
      go w y is false hd_is =
          let e : last_birth d h ≡ d.creation = last_in_snapshot d h hd_is in
          let less : gone.creation < (parent.child).creation = tree.gone_older g n h early valid gone here not_origin next only parent.child parent.here parent.stands (ap (λ (x : Dataset). x.head) (sym is) ∙ sym y.0 ∙ hd_is) in
          let c : d.creation ≡ (parent.child).creation = y.1 ∙ ap (λ (x : Dataset). x.creation) is in
          omega (arith, e, less, c, le)

  -- the min of the destroyed snapshot, and the end of its pass, are not after it
  min_gone : (q : Todo) → Has s.todo q → q.id ≡ gone.id → q.min ≤ gone.creation
  min_gone q i e = subst (λ (x : ℕ). q.min ≤ x) (last_in_snapshot gone h gone_snap) (sound.mins q i gone here (sym e))

  max_gone : (k : Key) → s.at ≡ ats.Dataset gone.id k → s.curmax ≤ gone.creation
  max_gone k at = (sound.pass gone k here at).in_snapshot gone_snap

  mins : (q : Todo) → Has s.todo q → (d : Dataset) → Has new d → d.id ≡ place q.id → q.min ≤ last_birth d h
  mins q i d hd name = elim (cases_id q.id gone.id) [
    | inl e ↦ reached d hd (name ∙ place-gone q.id e) q.min (min_gone q i e)
    | inr ne ↦
        let w = tree.was g n h early valid gone here not_origin next only d hd in
        let y = same_kind d w in
        let low : q.min ≤ last_birth w.old h = sound.mins q i w.old w.there (sym y.2 ∙ name ∙ place-other q.id ne) in
        let le : last_birth w.old h ≤ last_birth d h = last_same d w.old h h y.0 y.1 (omega arith) in
        omega (arith, low, le)
  ]

  pass : (d : Dataset) (a : DsId) (k : Key) → Has new d → s.at ≡ ats.Dataset a k → place a ≡ d.id → IsPass scope (replaced_by gone.id next s) d
  pass d a k hd at name = elim (cases_id a gone.id) [
    | inl e ↦
        let at_gone : s.at ≡ ats.Dataset gone.id k = at ∙ ap (λ (x : DsId). ats.Dataset x k) e in
        let old : s.curmax ≤ gone.creation = max_gone k at_gone in
        record { in_range = (sound.pass gone k here at_gone).in_range; in_snapshot = λ off. subst (λ (x : ℕ). s.curmax ≤ x) (last_in_snapshot d h off) (reached d hd (sym name ∙ place-gone a e) s.curmax old); whole = λ off. absurd (true≢false (sym (on_gone k at_gone) ∙ off)) }
    | inr ne ↦
        let w = tree.was g n h early valid gone here not_origin next only d hd in
        let y = same_kind d w in
        let p = sound.pass w.old k w.there (at ∙ ap (λ (x : DsId). ats.Dataset x k) (sym (place-other a ne) ∙ name ∙ y.2)) in
        record { in_range = p.in_range; in_snapshot = λ off. subst (λ (x : ℕ). s.curmax ≤ x) (sym y.1) (p.in_snapshot (sym y.0 ∙ off)); whole = λ off. p.whole (or_parts s.again (is_on s.at gone.id) off).0 ∙ sym (ap (λ (b : Bool). if b then scope.max else min scope.max d.creation) y.0 ∙ ap (λ (x : ℕ). if (w.old).head then scope.max else min scope.max x) y.1) }
  ]

  pub sound_after : Sound new h scope (replaced_by gone.id next s)
  sound_after = sound-renamed g new h scope (instead gone.id next) s (replaced_by gone.id next s) sound renamed_by (record { exist = exist; two = two; unrelated = unrelated; mins = mins; root = place-other ORIGIN (λ e. not_origin (sym e)); pass = pass })

  -- what was later through the destroyed snapshot is later through its child, or the child's own, which is walked again
  own_ahead : (e : Key × Bp) → gone.creation < e.1.birth → Has (pending s) gone.id → Ahead new (replaced_by gone.id next s) (place next) e
  own_ahead e born i = elim (from-append (ids_at s.at) (ids s.todo) gone.id i) [
    | inl at ↦ let k = at_of s.at at in again k.0 (ap (λ (a : At). moved (instead gone.id next) a) k.1 ∙ ap (λ (x : DsId). ats.Dataset x k.0) (place-gone gone.id refl ∙ sym (place-other next next≢gone))) (on_gone k.0 k.1) (let old : s.curmax ≤ gone.creation = max_gone k.0 k.1 in omega (arith, old, born))
    | inr todo ↦ let f = from-map (λ (q : Todo). q.id) s.todo gone.id todo in let least : (f.0).min ≤ gone.creation = min_gone f.0 f.1 f.2 in queued (entry_at (instead gone.id next) f.0) (has-map (entry_at (instead gone.id next)) s.todo f.0 f.1) (place-gone (f.0).id f.2 ∙ sym (place-other next next≢gone)) (omega (arith, least, born))
  ]
    where
      at_of : (a : At) → Has (ids_at a) gone.id → (k : Key) × (a ≡ ats.Dataset gone.id k)
      at_of Nowhere none = absurd none
      at_of Destroyed none = absurd none
      at_of (ats.Dataset x k) (inl e) = (k, ap (λ (y : DsId). ats.Dataset y k) e)
      at_of (ats.Dataset x k) (inr none) = absurd none

  below : (d : Dataset) (e : Key × Bp) → IsHome g d e → (a : DsId) → Has (pending s) a → Above g a d.id → Ahead new (replaced_by gone.id next s) (place d.id) e
  below d e home a i above = elim (cases_id a gone.id) [
    | inl ea ↦ let from : Above g gone.id d.id = subst (λ (x : DsId). Above g x d.id) ea above in
        elim (cases_id d.id next) [
          | inl is ↦ subst (λ (x : DsId). Ahead new (replaced_by gone.id next s) (place x) e) (sym is) (own_ahead e (after_ancestor g n valid.tree gone.id d e gone from home here refl) (subst (λ (x : DsId). Has (pending s) x) ea i))
          | inr nd ↦ later (record { ancestor = place a; is_pending = has-renamed (instead gone.id next) s (replaced_by gone.id next s) renamed_by a i; above = subst (λ (x : DsId). Above new x (place d.id)) (sym (place-gone a ea)) (under d.id nd from) })
        ]
    | inr na ↦ later (record {
      ancestor = place a;
      is_pending = has-renamed (instead gone.id next) s (replaced_by gone.id next s) renamed_by a i;
      above = subst (λ (x : DsId). Above new x (place d.id)) (sym (place-other a na)) (elim (cases_id d.id gone.id) [
        | inl ed ↦ subst (λ (x : DsId). Above new a x) (sym (place-gone d.id ed)) ((stays a d.id na above).1 next ed parent)
        | inr nd ↦ subst (λ (x : DsId). Above new a x) (sym (place-other d.id nd)) ((stays a d.id na above).0 nd)
      ]);
    })
  ]
    where
      stays : (x c : DsId) → x ≢ gone.id → Above g x c → (c ≢ gone.id → Above new x c) × ((z : DsId) → c ≡ gone.id → IsParent g gone.id z → Above new x z)
      stays x c ne up_to = tree.above_stays g n h early valid gone here not_origin next only x c ne up_to

      under : (c : DsId) → c ≢ next → Above g gone.id c → Above new next (place c)
      under c nc from = elim (below_child g gone.id c from) [
        | inl kid ↦ absurd (nc (only c (from-children g gone.id c kid)))
        | inr r ↦
            let through : Above g next c = subst (λ (x : DsId). Above g x c) (only r.0 (from-children g gone.id r.0 r.1)) r.2 in
            let nd : c ≢ gone.id = (λ x. acyclic g n valid.tree gone.id (subst (λ (y : DsId). Above g gone.id y) x from)) in
            subst (λ (x : DsId). Above new next x) (sym (place-other c nd)) ((stays next c next≢gone through).0 nd)
      ]

  pub covers_after : (done more : Piece → Bool) → Covers g scope s done → StaysDone new done more → Covers new scope (replaced_by gone.id next s) more
  covers_after done more covers stays =
      covers_kept g new scope s (replaced_by gone.id next s) done more covers refl stays (λ x e p home piece in_range claim. let w = tree.was_home g n h early valid gone here not_origin next only x e home in (w.holder, w.home, λ ahead. subst (λ (y : DsId). Ahead new (replaced_by gone.id next s) y e) (sym w.placed) (ahead-moved (instead gone.id next) s (replaced_by gone.id next s) renamed_by g new (w.holder).id e (λ a i above. below w.holder e w.home a i above) ahead)))
