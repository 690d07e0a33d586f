-- A state whose bookmark and queue move to other datasets: when it stays sound, and what is ahead of it.
use Rattle.std.proofs.Common.{◌≡◌, ◌<◌, ◌≤◌, ℕ, true, List, [], ◌∷◌, ◌++◌, refl, sym, ap, subst, ◌∙◌}
use Rattle.std.specs.Prelude.{map}
use Rattle.zs_ids.specs.declared.key.Key.{Key}
use Rattle.zs_ids.specs.declared.block.Bp.{Bp}
use Rattle.zs_ids.specs.declared.dataset.DsId.{DsId}
use Rattle.zs_ids.specs.declared.dataset.TheConstants.DsId.{ORIGIN}
use Rattle.zs_ids.specs.Graph.{Has, Dataset, Graph}
use Rattle.zs_ids.specs.GraphTree.{Above}
use Rattle.zs_ids.specs.GraphValid.{last_birth}
use Rattle.zs_phys.specs.declared.scope.Scope.{Scope}
use Rattle.zs_phys.specs.declared.phys.Phys.{Phys}
use Rattle.zs_phys.specs.declared.phys.At.{At}
use Rattle.zs_phys.specs.declared.phys.At.TheVariants.{Nowhere, Destroyed}
use Rattle.zs_phys.specs.declared.phys.At.TheVariants as ats
use Rattle.zs_phys.specs.declared.todos.Todo.{Todo}
use Rattle.zs_phys.specs.Ahead.{pending, ids_at, Ahead}
use Rattle.zs_phys.specs.Ahead.Ahead.{later, queued, passing, again}
use Rattle.zs_phys.specs.Sound.{AreDistinct, IsOfGraph, IsPass, EndsBy, Sound, first_todo}
use Rattle.zs_phys.specs.Sound.EndsBy.{past, started, canceled}
use Rattle.zs_phys.specs.Handlers.{moved, renamed, entry_at}
use Rattle.zs_graph.proofs.Lists.{from-map, has-map}
use Rattle.zs_cover.proofs.Distinct.{distinct-map}
use Rattle.zs_cover.proofs.States.{ids, at_id, at_key}
use mathlib.Core.Logic.{inl}

-- the bookmark and the queue have moved, and all else but again stays
pub record IsRenamed (place : DsId → DsId) (s t : Phys) : Type 0 where
  pub at : t.at ≡ moved place s.at
  pub todo : t.todo ≡ renamed place s.todo
  pub status : t.status ≡ s.status
  pub paused : t.paused ≡ s.paused
  pub curmin : t.curmin ≡ s.curmin
  pub curmax : t.curmax ≡ s.curmax
  pub more : s.again ≡ true → t.again ≡ true
  pub quiet : ids_at s.at ≡ [] → t.again ≡ s.again

ids-renamed : (place : DsId → DsId) (l : List Todo) → ids (renamed place l) ≡ map place (ids l)
ids-renamed place [] = refl
ids-renamed place (q ∷ qs) = ap (λ (x : List DsId). place q.id ∷ x) (ids-renamed place qs)

pending-moved : (place : DsId → DsId) (at : At) (l : List Todo) → ids_at (moved place at) ++ ids (renamed place l) ≡ map place (ids_at at ++ ids l)
pending-moved place Nowhere l = ids-renamed place l
pending-moved place Destroyed l = ids-renamed place l
pending-moved place (ats.Dataset id k) l = ap (λ (x : List DsId). place id ∷ x) (ids-renamed place l)

-- a moved bookmark comes from one at the same key
pub moved-from : (place : DsId → DsId) (at : At) (id : DsId) (k : Key) → moved place at ≡ ats.Dataset id k → (a : DsId) × (at ≡ ats.Dataset a k) × (place a ≡ id)
moved-from place Nowhere id k e = absurd (subst (λ (l : List DsId). Has l id) (sym (ap ids_at e)) (inl refl))
moved-from place Destroyed id k e = absurd (subst (λ (l : List DsId). Has l id) (sym (ap ids_at e)) (inl refl))
moved-from place (ats.Dataset a l) id k e = (a, ap (λ (x : Key). ats.Dataset a x) (at_key (place a) id l k e), at_id (place a) id l k e)

-- a moved bookmark that is at no dataset was at none
from-none : (place : DsId → DsId) (at : At) → ids_at (moved place at) ≡ [] → ids_at at ≡ []
from-none place Nowhere e = refl
from-none place Destroyed e = refl
from-none place (ats.Dataset a l) e = absurd (subst (λ (x : List DsId). Has x (place a)) e (inl refl))

module _ (place : DsId → DsId) (s t : Phys) (is : IsRenamed place s t) where
  pub pending-renamed : pending t ≡ map place (pending s)
  pending-renamed = ap (λ (a : At). ids_at a ++ ids t.todo) is.at ∙ ap (λ (l : List Todo). ids_at (moved place s.at) ++ ids l) is.todo ∙ pending-moved place s.at s.todo

  -- what is pending was pending under its own name
  pub from-renamed : (x : DsId) → Has (pending t) x → (a : DsId) × Has (pending s) a × (place a ≡ x)
  from-renamed x i = from-map place (pending s) x (subst (λ (l : List DsId). Has l x) pending-renamed i)

  pub has-renamed : (a : DsId) → Has (pending s) a → Has (pending t) (place a)
  has-renamed a i = subst (λ (l : List DsId). Has l (place a)) (sym pending-renamed) (has-map place (pending s) a i)

  -- what was ahead of the state is ahead of the renamed one, where what was later is ahead
  pub ahead-moved : (g g' : Graph) (id : DsId) (e : Key × Bp) → ((a : DsId) → Has (pending s) a → Above g a id → Ahead g' t (place id) e) → Ahead g s id e → Ahead g' t (place id) e
  ahead-moved g g' id e below (later l) = below l.ancestor l.is_pending l.above
  ahead-moved g g' id e below (queued q i name born) =
      queued (entry_at place q) (subst (λ (l : List Todo). Has l (entry_at place q)) (sym is.todo) (has-map (entry_at place) s.todo q i)) (ap place name) born
  ahead-moved g g' id e below (passing k here key born old) =
      passing k (is.at ∙ ap (λ (a : At). moved place a) here) key (subst (λ (x : ℕ). x < e.1.birth) (sym is.curmin) born) (subst (λ (x : ℕ). e.1.birth ≤ x) (sym is.curmax) old)
  ahead-moved g g' id e below (again k here on born) =
      again k (is.at ∙ ap (λ (a : At). moved place a) here) (is.more on) (subst (λ (x : ℕ). x < e.1.birth) (sym is.curmax) born)

  -- and where ancestors stay ancestors
  pub ahead-renamed : (g g' : Graph) (id : DsId) (e : Key × Bp) → ((a : DsId) → Has (pending s) a → Above g a id → Above g' (place a) (place id)) → Ahead g s id e → Ahead g' t (place id) e
  ahead-renamed g g' id e above ahead =
      ahead-moved g g' id e (λ a i up_to. later (record { ancestor = place a; is_pending = has-renamed a i; above = above a i up_to })) ahead

-- what a renamed state has to show to be sound
pub record Renaming (g g' : Graph) (h : ℕ) (scope : Scope) (place : DsId → DsId) (s t : Phys) : Type 0 where
  pub exist : (a : DsId) → Has (pending s) a → IsOfGraph g a → IsOfGraph g' (place a)
  pub two : (a b : DsId) → Has (pending s) a → Has (pending s) b → place a ≡ place b → a ≡ b
  pub unrelated : (a b : DsId) → Has (pending s) a → Has (pending s) b → Above g' (place a) (place b) → ⊥
  pub mins : (q : Todo) → Has s.todo q → (d : Dataset) → Has g' d → d.id ≡ place q.id → q.min ≤ last_birth d h
  pub root : place ORIGIN ≡ ORIGIN
  pub pass : (d : Dataset) (a : DsId) (k : Key) → Has g' d → s.at ≡ ats.Dataset a k → place a ≡ d.id → IsPass scope t d

-- a renamed state is sound
pub sound-renamed : (g g' : Graph) (h : ℕ) (scope : Scope) (place : DsId → DsId) (s t : Phys) → Sound g h scope s → IsRenamed place s t → Renaming g g' h scope place s t → Sound g' h scope t
sound-renamed g g' h scope place s t sound is r = record {
  exist = λ x i. let f = from-renamed place s t is x i in subst (λ (y : DsId). IsOfGraph g' y) f.2 (r.exist f.0 f.1 (sound.exist f.0 f.1));
  once = subst AreDistinct (sym (pending-renamed place s t is)) (distinct-map place (pending s) r.two sound.once);
  unrelated = λ x y i j above. let f = from-renamed place s t is x i in let k = from-renamed place s t is y j in r.unrelated f.0 k.0 f.1 k.1 (subst (λ (z : DsId). Above g' z (place k.0)) (sym f.2) (subst (λ (z : DsId). Above g' x z) (sym k.2) above));
  mins = λ q i d hd name. let f = from-map (entry_at place) s.todo q (subst (λ (l : List Todo). Has l q) is.todo i) in subst (λ (x : ℕ). x ≤ last_birth d h) (ap (λ (x : Todo). x.min) f.2) (r.mins f.0 f.1 d hd (name ∙ ap (λ (x : Todo). x.id) (sym f.2)));
  ends = ending sound.ends;
  pass = λ d k hd e. let f = moved-from place s.at d.id k (sym is.at ∙ e) in r.pass d f.0 k hd f.1 f.2;
  rests = λ ne. let rest = sound.rests (λ e. ne (is.status ∙ e)) in record { nowhere = is.at ∙ ap (λ (a : At). moved place a) rest.nowhere; empty = is.todo ∙ ap (λ (l : List Todo). renamed place l) rest.empty; goes_on = is.paused ∙ rest.goes_on };
  between = λ e. let b = sound.between (from-none place s.at (ap ids_at (sym is.at) ∙ e)) in record { no_min = is.curmin ∙ b.no_min; no_max = is.curmax ∙ b.no_max; no_again = is.quiet (from-none place s.at (ap ids_at (sym is.at) ∙ e)) ∙ b.no_again };
  idle = (λ k. is.status ∙ sound.idle.0 k, λ e. sound.idle.1 (sym is.status ∙ e));
  empty = sound.empty;
  scrubs = λ e. sound.scrubs (sym is.paused ∙ e);
  logs = sound.logs;
}
  where
    first : renamed place first_todo ≡ first_todo
    first = ap (λ (x : DsId). let q : Todo = record { id = x; min = 0 } in q ∷ []) r.root

    ending : EndsBy h scope s → EndsBy h scope t
    ending (past by) = past by
    ending (started at by todo) = started (is.at ∙ ap (λ (a : At). moved place a) at) by (is.todo ∙ ap (λ (l : List Todo). renamed place l) todo ∙ first)
    ending (canceled at by status) = canceled (is.at ∙ ap (λ (a : At). moved place a) at) by (is.status ∙ status)
