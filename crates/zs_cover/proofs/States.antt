-- Scan states: pending datasets, and what makes a changed state sound.
use Rattle.std.proofs.Common.{◌≡◌, ◌≤◌, ℕ, Bool, true, false, cond, List, [], ◌++◌, refl, sym, ap, subst, ◌∙◌, arith}
use Rattle.std.specs.Prelude.{map, if◌then◌else◌}
use Rattle.zs_ids.specs.declared.key.Key.{Key}
use Rattle.zs_ids.specs.declared.dataset.DsId.{DsId}
use Rattle.zs_ids.specs.Graph.{Has, Dataset, Graph}
use Rattle.zs_ids.specs.GraphTree.{Above}
use Rattle.zs_ids.specs.GraphValid.{last_birth}
use Rattle.zs_phys.specs.declared.scope.Scope.{Scope}
use Rattle.zs_phys.specs.declared.phys.Phys.{Phys}
use Rattle.zs_phys.specs.declared.phys.At.{At}
use Rattle.zs_phys.specs.declared.phys.At.TheVariants.{Nowhere, Destroyed}
use Rattle.zs_phys.specs.declared.phys.At.TheVariants as ats
use Rattle.zs_phys.specs.declared.phys.Status.TheVariants.{Scanning}
use Rattle.zs_phys.specs.declared.todos.Todo.{Todo}
use Rattle.zs_phys.specs.Ahead.{pending, ids_at}
use Rattle.zs_phys.specs.Sound.{AreDistinct, IsOfGraph, IsPass, HasNoPass, Sound}
use Rattle.zs_phys.specs.Sound.EndsBy.{past}
use Rattle.zs_graph.proofs.Lists.{has-map, has-right}
use mathlib.Core.Logic.{inl}

-- the ids of a queue
abbrev pub ids : List Todo → List DsId
ids todo = map (λ (q : Todo). q.id) todo

-- a state at a dataset is not elsewhere
pub at≢nowhere : (id : DsId) (k : Key) → ats.Dataset id k ≡ Nowhere → ⊥
at≢nowhere id k e = subst (λ (l : List DsId). Has l id) (ap ids_at e) (inl refl)

pub at≢destroyed : (id : DsId) (k : Key) → ats.Dataset id k ≡ Destroyed → ⊥
at≢destroyed id k e = subst (λ (l : List DsId). Has l id) (ap ids_at e) (inl refl)

abbrev id_in : DsId → At → DsId
id_in d Nowhere = d
id_in d Destroyed = d
id_in d (ats.Dataset id k) = id

abbrev key_in : Key → At → Key
key_in d Nowhere = d
key_in d Destroyed = d
key_in d (ats.Dataset id k) = k

-- a state is at one dataset and key
pub at_id : (a b : DsId) (k l : Key) → ats.Dataset a k ≡ ats.Dataset b l → a ≡ b
at_id a b k l e = ap (id_in a) e

pub at_key : (a b : DsId) (k l : Key) → ats.Dataset a k ≡ ats.Dataset b l → k ≡ l
at_key a b k l e = ap (key_in k) e

-- the dataset that the state is at is pending, and so is each of the queue
pub here-pending : (s : Phys) (id : DsId) (k : Key) → s.at ≡ ats.Dataset id k → Has (pending s) id
here-pending s id k e = subst (λ (a : At). Has (ids_at a ++ ids s.todo) id) (sym e) (inl refl)

pub queued-pending : (s : Phys) (q : Todo) → Has s.todo q → Has (pending s) q.id
queued-pending s q h = has-right (ids_at s.at) (ids s.todo) q.id (has-map (λ (x : Todo). x.id) s.todo q h)

-- what a turn has to show of the state that it leaves
pub record Places (g : Graph) (h : ℕ) (scope : Scope) (t : Phys) : Type 0 where
  pub exist : (id : DsId) → Has (pending t) id → IsOfGraph g id
  pub once : AreDistinct (pending t)
  pub unrelated : (a b : DsId) → Has (pending t) a → Has (pending t) b → Above g a b → ⊥
  pub mins : (q : Todo) → Has t.todo q → (d : Dataset) → Has g d → d.id ≡ q.id → q.min ≤ last_birth d h
  pub pass : (d : Dataset) (k : Key) → Has g d → t.at ≡ ats.Dataset d.id k → IsPass scope t d
  pub between : ids_at t.at ≡ [] → HasNoPass t

-- a scan that runs stays sound where its places are
pub placed : (g : Graph) (h : ℕ) (scope : Scope) (s t : Phys) → Sound g h scope s → s.status ≡ Scanning → scope.max ≤ h → t.status ≡ s.status → t.paused ≡ s.paused → Places g h scope t → Sound g h scope t
placed g h scope s t sound scans by status paused p = record {
  exist = p.exist;
  once = p.once;
  unrelated = p.unrelated;
  mins = p.mins;
  ends = past by;
  pass = p.pass;
  rests = λ ne. absurd (ne (status ∙ scans));
  between = p.between;
  idle = (λ k. status ∙ sound.idle.0 k, λ e. sound.idle.1 (sym status ∙ e));
  empty = sound.empty;
  scrubs = λ e. sound.scrubs (sym paused ∙ e);
  logs = sound.logs;
}

-- where each pending dataset was pending before
pub among : (g : Graph) (h : ℕ) (scope : Scope) (s t : Phys) → Sound g h scope s → ((x : DsId) → Has (pending t) x → Has (pending s) x) → AreDistinct (pending t) → ((q : Todo) → Has t.todo q → Has s.todo q) → ((d : Dataset) (k : Key) → Has g d → t.at ≡ ats.Dataset d.id k → IsPass scope t d) → (ids_at t.at ≡ [] → HasNoPass t) → Places g h scope t
among g h scope s t sound sub once todo pass between = record {
  exist = λ x i. sound.exist x (sub x i);
  once = once;
  unrelated = λ a b i j. sound.unrelated a b (sub a i) (sub b j);
  mins = λ q i. sound.mins q (todo q i);
  pass = pass;
  between = between;
}
