-- A destroyed dataset without a child keeps coverage: the bookmark on it is on none, and the queue lacks it.
use Rattle.std.proofs.Common.{◌≡◌, ◌≢◌, ◌≤◌, min, ℕ, Bool, true, false, not, cond, List, [], ◌∷◌, refl, sym, ap, subst, ◌∙◌, arith}
use Rattle.std.specs.Prelude.{filter, Some, None, if◌then◌else◌}
use Rattle.std.proofs.lemmas.Bool.{true≢false, not-true, not_from_false}
use Rattle.zs_ids.specs.declared.key.Key.{Key}
use Rattle.zs_ids.specs.declared.block.Bp.{Bp}
use Rattle.zs_ids.specs.declared.block.Piece.{Piece}
use Rattle.zs_ids.specs.declared.dataset.DsId.{DsId}
use Rattle.zs_ids.specs.declared.dataset.TheConstants.DsId.{ORIGIN}
use Rattle.zs_ids.specs.Graph.{Has, Dataset, Graph}
use Rattle.zs_ids.specs.GraphTree.{is_id, IsHome, IsParent, Above}
use Rattle.zs_ids.specs.GraphValid.{last_birth, IsValid}
use Rattle.zs_ids.specs.GraphChange.{destroyed}
use Rattle.zs_phys.specs.declared.scope.Scope.{Scope}
use Rattle.zs_phys.specs.declared.phys.Phys.{Phys}
use Rattle.zs_phys.specs.declared.phys.At.{At}
use Rattle.zs_phys.specs.declared.phys.At.TheVariants.{Nowhere, Destroyed}
use Rattle.zs_phys.specs.declared.phys.At.TheVariants as ats
use Rattle.zs_phys.specs.declared.todos.Todo.{Todo}
use Rattle.zs_phys.specs.Handlers.{is_on, dropped, dropped_from}
use Rattle.zs_phys.specs.Ahead.{pending, ids_at, Ahead, Covers}
use Rattle.zs_phys.specs.Ahead.Ahead.{later, queued, passing, again}
use Rattle.zs_phys.specs.Sound.{AreDistinct, IsOfGraph, Sound, first_todo}
use Rattle.zs_phys.specs.Sound.EndsBy.{past, started, canceled}
use Rattle.zs_cover.specs.Laws.{IsCovered, StaysDone, DestroyLaw}
use Rattle.zs_graph.proofs.Lists.{has-left, has-right, has-map, from-map, from-append, has-filter, from-filter}
use Rattle.zs_cover.proofs.Distinct.{distinct-append, distinct-left, distinct-right, distinct-apart, distinct-filter}
use Rattle.zs_graph.proofs.Graphs.{id_is, is_id-same, is_id-other, cases_id, from-children, has-child, below_child}
use Rattle.zs_cover.proofs.States.{ids, at≢nowhere, at_id}
use Rattle.zs_cover.proofs.CoversKept.{covers_kept}
use Rattle.zs_graph.proofs.Kept.{within_kept, last_same}
use Rattle.zs_graph.proofs.Places.{instead-is, instead-other}
use Rattle.zs_cover.proofs.Snapshots.{ended}
use Rattle.zs_graph.proofs.DestroyTree as tree
use Rattle.zs_cover.proofs.Destroys as with_child
use mathlib.Core.Logic.{inl, inr}

-- the ids of a queue without a dataset
ids-dropped : (id : DsId) (l : List Todo) → ids (dropped id l) ≡ filter (λ (x : DsId). not (is_id x id)) (ids l)
ids-dropped id [] = refl
ids-dropped id (q ∷ qs) = go (not (is_id q.id id)) (ids-dropped id qs)
  where
    go : (b : Bool) → ids (dropped id qs) ≡ filter (λ (x : DsId). not (is_id x id)) (ids qs) → ids (cond b (q ∷ dropped id qs) (dropped id qs)) ≡ cond b (q.id ∷ filter (λ (x : DsId). not (is_id x id)) (ids qs)) (filter (λ (x : DsId). not (is_id x id)) (ids qs))
    go true e = ap (λ (l : List DsId). q.id ∷ l) e
    go false e = e

module _ (g : Graph) (n h : ℕ) (early : n ≤ h) (valid : IsValid g n) (gone : Dataset) (here : Has g gone) (not_origin : gone.id ≢ ORIGIN) (none : (c : DsId) → IsParent g gone.id c → ⊥) (scope : Scope) (s : Phys) (sound : Sound g h scope s) where
  abbrev new : Graph
  new = destroyed g gone

  abbrev only : (c : DsId) → IsParent g gone.id c → c ≡ gone.id
  only c p = absurd (none c p)

  -- what the queue has still
  from_queue : (q : Todo) → Has (dropped gone.id s.todo) q → Has s.todo q × (q.id ≢ gone.id)
  from_queue q i =
      let f = from-filter (λ (x : Todo). not (is_id x.id gone.id)) s.todo q i in
      (f.0, λ e. true≢false (sym (is_id-same q.id gone.id e) ∙ not-true (is_id q.id gone.id) f.1))

  has_queue : (q : Todo) → Has s.todo q → q.id ≢ gone.id → Has (dropped gone.id s.todo) q
  has_queue q i ne = has-filter (λ (x : Todo). not (is_id x.id gone.id)) s.todo q i (not_from_false (is_id q.id gone.id) (is_id-other q.id gone.id ne))

  from_ids : (x : DsId) → Has (ids (dropped gone.id s.todo)) x → Has (ids s.todo) x × (x ≢ gone.id)
  from_ids x i =
      let f = from-map (λ (q : Todo). q.id) (dropped gone.id s.todo) x i in
      let r = from_queue f.0 f.1 in
      (subst (λ (y : DsId). Has (ids s.todo) y) f.2 (has-map (λ (q : Todo). q.id) s.todo f.0 r.0), λ e. r.1 (f.2 ∙ e))

  has_ids : (x : DsId) → Has (ids s.todo) x → x ≢ gone.id → Has (ids (dropped gone.id s.todo)) x
  has_ids x i ne =
      let f = from-map (λ (q : Todo). q.id) s.todo x i in
      subst (λ (y : DsId). Has (ids (dropped gone.id s.todo)) y) f.2 (has-map (λ (q : Todo). q.id) (dropped gone.id s.todo) f.0 (has_queue f.0 f.1 (λ e. ne (sym f.2 ∙ e))))

  queue_distinct : AreDistinct (ids s.todo) → AreDistinct (ids (dropped gone.id s.todo))
  queue_distinct d = subst AreDistinct (sym (ids-dropped gone.id s.todo)) (distinct-filter (λ (x : DsId). not (is_id x gone.id)) (ids s.todo) d)

  exist : (a : DsId) → Has (pending s) a → a ≢ gone.id → IsOfGraph new a
  exist a i ne =
      let o = sound.exist a i in
      record { dataset = tree.put g n h early valid gone here not_origin gone.id only o.dataset; here = tree.has_new g n h early valid gone here not_origin gone.id only o.dataset o.here (λ e. ne (sym o.named ∙ e)); named = (tree.put_same g n h early valid gone here not_origin gone.id only o.dataset).id ∙ o.named }

  unrelated : (a b : DsId) → Has (pending s) a → Has (pending s) b → Above new a b → ⊥
  unrelated a b i j above = sound.unrelated a b i j (tree.above_was g n h early valid gone here not_origin gone.id only a b above)

  mins : (q : Todo) → Has (dropped gone.id s.todo) q → (d : Dataset) → Has new d → d.id ≡ q.id → q.min ≤ last_birth d h
  mins q i d hd name =
      let w = tree.was g n h early valid gone here not_origin gone.id only d hd in
      let y = tree.was_same g n h early valid gone here not_origin gone.id only d w in
      let low : q.min ≤ last_birth w.old h = sound.mins q (from_queue q i).0 w.old w.there (sym y.id ∙ name) in
      let le : last_birth w.old h ≤ last_birth d h = last_same d w.old h h y.head y.creation (omega arith) in
      omega (arith, low, le)

  -- the queue of a scan that has just started has the origin, which is not destroyed
  first_stays : dropped gone.id first_todo ≡ first_todo
  first_stays = ap (λ (b : Bool). cond (not b) first_todo []) (is_id-other ORIGIN gone.id (λ e. not_origin (sym e)))

  -- the walk was at the destroyed dataset
  module _ (k : Key) (at : s.at ≡ ats.Dataset gone.id k) where
    abbrev left_it : Phys
    left_it = record s { at = Destroyed; curmin = 0; curmax = 0; again = false; todo = dropped gone.id s.todo }

    was_pending : (x : DsId) → Has (ids (dropped gone.id s.todo)) x → Has (pending s) x × (x ≢ gone.id)
    was_pending x i = let f = from_ids x i in (has-right (ids_at s.at) (ids s.todo) x f.0, f.1)

    sound_left : Sound new h scope left_it
    sound_left = record {
      exist = λ x i. let w = was_pending x i in exist x w.0 w.1;
      once = queue_distinct (distinct-right (ids_at s.at) (ids s.todo) sound.once);
      unrelated = λ a b i j above. unrelated a b (was_pending a i).0 (was_pending b j).0 above;
      mins = mins;
      ends = past (ended h scope s gone.id k at sound.ends);
      pass = λ d l i e. absurd (destroyed≢dataset d.id l e);
      rests = λ ne. absurd (at≢nowhere gone.id k (sym at ∙ (sound.rests ne).nowhere));
      between = λ e. record { no_min = refl; no_max = refl; no_again = refl };
      idle = sound.idle;
      empty = sound.empty;
      scrubs = sound.scrubs;
      logs = sound.logs;
    }
      where
        destroyed≢dataset : (x : DsId) (l : Key) → Destroyed ≡ ats.Dataset x l → ⊥
        destroyed≢dataset x l e = subst (λ (y : List DsId). Has y x) (sym (ap ids_at e)) (inl refl)

    ahead_left : (d : Dataset) (e : Key × Bp) → IsHome g d e → d.id ≢ gone.id → Ahead g s d.id e → Ahead new left_it d.id e
    ahead_left d e home nd ahead = elim ahead [
      | later l ↦ elim (from-append (ids_at s.at) (ids s.todo) l.ancestor l.is_pending) [
        | inl there ↦ absurd (not_above d.id l.ancestor (at_it l.ancestor there) l.above)
        | inr todo ↦ elim (cases_id l.ancestor gone.id) [
          | inl is ↦ absurd (not_above d.id l.ancestor is l.above)
          | inr ne ↦ later (record { ancestor = l.ancestor; is_pending = has_ids l.ancestor todo ne; above = (tree.above_stays g n h early valid gone here not_origin gone.id only l.ancestor d.id ne l.above).0 nd })
        ]
      ]
      | queued q i name born ↦ queued q (has_queue q i (λ x. nd (sym name ∙ x))) name born
      | passing l there key born old ↦ absurd (nd (at_id d.id gone.id l k (sym there ∙ at)))
      | again l there on born ↦ absurd (nd (at_id d.id gone.id l k (sym there ∙ at)))
    ]
      where
        at_it : (x : DsId) → Has (ids_at s.at) x → x ≡ gone.id
        at_it x i = elim (subst (λ (a : At). Has (ids_at a) x) at i) [ inl e ↦ sym e | inr no_more ↦ absurd no_more ]

        not_above : (c x : DsId) → x ≡ gone.id → Above g x c → ⊥
        not_above c x is above = elim (below_child g gone.id c (subst (λ (y : DsId). Above g y c) is above)) [
          | inl kid ↦ none c (from-children g gone.id c kid)
          | inr r ↦ none r.0 (from-children g gone.id r.0 r.1)
        ]

  -- the walk was elsewhere
  module _ (elsewhere : (k : Key) → s.at ≡ ats.Dataset gone.id k → ⊥) where
    abbrev without_it : Phys
    without_it = record s { todo = dropped gone.id s.todo }

    at_other : (x : DsId) → Has (ids_at s.at) x → x ≢ gone.id
    at_other x i e = go s.at refl i
      where
        go : (a : At) → s.at ≡ a → Has (ids_at a) x → ⊥
        go Nowhere is j = j
        go Destroyed is j = j
        go (ats.Dataset y k) is (inl f) = elsewhere k (is ∙ ap (λ (z : DsId). ats.Dataset z k) (f ∙ e))
        go (ats.Dataset y k) is (inr no_more) = no_more

    still : (x : DsId) → Has (pending without_it) x → Has (pending s) x × (x ≢ gone.id)
    still x i = elim (from-append (ids_at s.at) (ids (dropped gone.id s.todo)) x i) [
      | inl at ↦ (has-left (ids_at s.at) (ids s.todo) x at, at_other x at)
      | inr todo ↦ let f = from_ids x todo in (has-right (ids_at s.at) (ids s.todo) x f.0, f.1)
    ]

    stays_pending : (x : DsId) → Has (pending s) x → x ≢ gone.id → Has (pending without_it) x
    stays_pending x i ne = elim (from-append (ids_at s.at) (ids s.todo) x i) [
      | inl at ↦ has-left (ids_at s.at) (ids (dropped gone.id s.todo)) x at
      | inr todo ↦ has-right (ids_at s.at) (ids (dropped gone.id s.todo)) x (has_ids x todo ne)
    ]

    sound_without : Sound new h scope without_it
    sound_without = record {
      exist = λ x i. let w = still x i in exist x w.0 w.1;
      once = distinct-append (ids_at s.at) (ids (dropped gone.id s.todo)) (distinct-left (ids_at s.at) (ids s.todo) sound.once) (queue_distinct (distinct-right (ids_at s.at) (ids s.todo) sound.once)) (λ x l r. distinct-apart (ids_at s.at) (ids s.todo) x sound.once l (from_ids x r).0);
      unrelated = λ a b i j above. unrelated a b (still a i).0 (still b j).0 above;
      mins = mins;
      ends = elim sound.ends [
        | past by ↦ past by
        | started at by todo ↦ started at by (ap (λ (l : List Todo). dropped gone.id l) todo ∙ first_stays)
        | canceled at by status ↦ canceled at by status
      ];
      pass = λ d k hd at. let w = tree.was g n h early valid gone here not_origin gone.id only d hd in let y = tree.was_same g n h early valid gone here not_origin gone.id only d w in let p = sound.pass w.old k w.there (at ∙ ap (λ (x : DsId). ats.Dataset x k) y.id) in record { in_range = p.in_range; in_snapshot = λ off. subst (λ (x : ℕ). s.curmax ≤ x) (sym y.creation) (p.in_snapshot (sym y.head ∙ off)); whole = λ off. p.whole off ∙ sym (ap (λ (b : Bool). if b then scope.max else min scope.max d.creation) y.head ∙ ap (λ (x : ℕ). if (w.old).head then scope.max else min scope.max x) y.creation) };
      rests = λ ne. let r = sound.rests ne in record { nowhere = r.nowhere; empty = ap (λ (l : List Todo). dropped gone.id l) r.empty; goes_on = r.goes_on };
      between = λ e. let b = sound.between e in record { no_min = b.no_min; no_max = b.no_max; no_again = b.no_again };
      idle = sound.idle;
      empty = sound.empty;
      scrubs = sound.scrubs;
      logs = sound.logs;
    }

    ahead_without : (d : Dataset) (e : Key × Bp) → IsHome g d e → d.id ≢ gone.id → Ahead g s d.id e → Ahead new without_it d.id e
    ahead_without d e home nd ahead = elim ahead [
      | later l ↦ elim (cases_id l.ancestor gone.id) [
        | inl is ↦ absurd (not_above d.id l.ancestor is l.above)
        | inr ne ↦ later (record { ancestor = l.ancestor; is_pending = stays_pending l.ancestor l.is_pending ne; above = (tree.above_stays g n h early valid gone here not_origin gone.id only l.ancestor d.id ne l.above).0 nd })
      ]
      | queued q i name born ↦ queued q (has_queue q i (λ x. nd (sym name ∙ x))) name born
      | passing l there key born old ↦ passing l there key born old
      | again l there on born ↦ again l there on born
    ]
      where
        not_above : (c x : DsId) → x ≡ gone.id → Above g x c → ⊥
        not_above c x is above = elim (below_child g gone.id c (subst (λ (y : DsId). Above g y c) is above)) [
          | inl kid ↦ none c (from-children g gone.id c kid)
          | inr r ↦ none r.0 (from-children g gone.id r.0 r.1)
        ]

  -- an entry at home now was at home in the same dataset, which is not the destroyed one
  same_home : (x : Dataset) (e : Key × Bp) → IsHome new x e → (y : Dataset) × IsHome g y e × (y.id ≡ x.id) × (y.id ≢ gone.id)
  same_home x e home =
      let w = tree.was_home g n h early valid gone here not_origin gone.id only x e home in
      let o = tree.was g n h early valid gone here not_origin gone.id only x home.here in
      let y = tree.was_same g n h early valid gone here not_origin gone.id only x o in
      let own : x.id ≡ (w.holder).id = w.placed ∙ (elim (cases_id (w.holder).id gone.id) [ inl e ↦ instead-is gone.id gone.id (w.holder).id e ∙ sym e | inr ne ↦ instead-other gone.id gone.id (w.holder).id ne ]) in
      (w.holder, w.home, sym own, λ e. o.stays (sym y.id ∙ own ∙ e))

  both : (b : Bool) → is_on s.at gone.id ≡ b → (t : Phys) → t ≡ (if b then record s { at = Destroyed; curmin = 0; curmax = 0; again = false; todo = dropped gone.id s.todo } else record s { todo = dropped gone.id s.todo }) → Sound new h scope t × ((d : Dataset) (e : Key × Bp) → IsHome g d e → d.id ≢ gone.id → Ahead g s d.id e → Ahead new t d.id e)
  both true is t e =
      let k = at_of s.at refl is in
      (subst (λ (x : Phys). Sound new h scope x) (sym e) (sound_left k.0 k.1), λ d f home nd ahead. subst (λ (x : Phys). Ahead new x d.id f) (sym e) (ahead_left k.0 k.1 d f home nd ahead))
    where
      at_of : (a : At) → s.at ≡ a → is_on a gone.id ≡ true → (k : Key) × (s.at ≡ ats.Dataset gone.id k)
      at_of Nowhere at no_one = absurd (true≢false (sym no_one))
      at_of Destroyed at no_one = absurd (true≢false (sym no_one))
      at_of (ats.Dataset x k) at on = (k, at ∙ ap (λ (y : DsId). ats.Dataset y k) (id_is x gone.id on))
  both false is t e =
      let off : (k : Key) → s.at ≡ ats.Dataset gone.id k → ⊥ = (λ k at. true≢false (sym (is_id-same gone.id gone.id refl) ∙ sym (ap (λ (a : At). is_on a gone.id) at) ∙ is)) in
      (subst (λ (x : Phys). Sound new h scope x) (sym e) (sound_without off), λ d f home nd ahead. subst (λ (x : Phys). Ahead new x d.id f) (sym e) (ahead_without off d f home nd ahead))

  pub sound_after : Sound new h scope (dropped_from gone.id s)
  sound_after = (both (is_on s.at gone.id) refl (dropped_from gone.id s) refl).0

  status_stays : (b : Bool) → (if b then record s { at = Destroyed; curmin = 0; curmax = 0; again = false; todo = dropped gone.id s.todo } else record s { todo = dropped gone.id s.todo }).status ≡ s.status
  status_stays true = refl
  status_stays false = refl

  pub covers_after : (done more : Piece → Bool) → Covers g scope s done → StaysDone new done more → Covers new scope (dropped_from gone.id s) more
  covers_after done more covers stays =
      covers_kept g new scope s (dropped_from gone.id s) done more covers (status_stays (is_on s.at gone.id)) stays (λ x e p home piece in_range claim. let w = same_home x e home in (w.0, w.1, λ ahead. subst (λ (y : DsId). Ahead new (dropped_from gone.id s) y e) w.2 ((both (is_on s.at gone.id) refl (dropped_from gone.id s) refl).1 w.0 e w.1 w.3 ahead)))

-- the law of the destroyed dataset
pub destroy_keeps : DestroyLaw
destroy_keeps room g n h scope s t done more gone None covered may handled stays =
    let valid = (covered.valid).graph in
    let childless : (c : DsId) → IsParent g gone.id c → ⊥ = (λ c p. subst (λ (l : List DsId). Has l c) may.only (has-child g gone.id c p)) in
    subst (λ (x : Phys). IsCovered room (destroyed g gone) h h scope x more) (sym handled) (record {
      early = omega arith;
      valid = record { graph = tree.new_valid g n h covered.early valid gone may.here may.not_origin gone.id (λ c p. absurd (childless c p)); within = within_kept room g (destroyed g gone) (tree.holds g n h covered.early valid gone may.here may.not_origin gone.id (λ c p. absurd (childless c p))) (covered.valid).within };
      sound = sound_after g n h covered.early valid gone may.here may.not_origin childless scope s covered.sound;
      covers = covers_after g n h covered.early valid gone may.here may.not_origin childless scope s covered.sound done more covered.covers stays;
    })
destroy_keeps room g n h scope s t done more gone (Some next) covered may handled stays =
    let valid = (covered.valid).graph in
    let only : (c : DsId) → IsParent g gone.id c → c ≡ next = (λ c p. elim (subst (λ (l : List DsId). Has l c) may.only (has-child g gone.id c p)) [ inl e ↦ sym e | inr no_more ↦ absurd no_more ]) in
    let parent : IsParent g gone.id next = from-children g gone.id next (subst (λ (l : List DsId). Has l next) (sym may.only) (inl refl)) in
    subst (λ (x : Phys). IsCovered room (destroyed g gone) h h scope x more) (sym handled) (record {
      early = omega arith;
      valid = record { graph = tree.new_valid g n h covered.early valid gone may.here may.not_origin next only; within = within_kept room g (destroyed g gone) (tree.holds g n h covered.early valid gone may.here may.not_origin next only) (covered.valid).within };
      sound = with_child.sound_after g n h covered.early valid gone may.here may.not_origin next only parent scope s covered.sound;
      covers = with_child.covers_after g n h covered.early valid gone may.here may.not_origin next only parent scope s covered.sound done more covered.covers stays;
    })
