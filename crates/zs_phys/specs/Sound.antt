-- Which scan states belong to a graph.
use Rattle.std.specs.Prelude.{◌≡◌, ◌≢◌, ◌≤◌, ◌+◌, ◌↔◌, min, ℕ, true, false, List, [], ◌∷◌, if◌then◌else◌}
use Rattle.zs_ids.specs.declared.key.Key.{Key}
use Rattle.zs_ids.specs.declared.dataset.DsId.{DsId}
use Rattle.zs_ids.specs.declared.dataset.TheConstants.DsId.{ORIGIN}
use Rattle.zs_ids.specs.Graph.{Has, Dataset, Graph}
use Rattle.zs_ids.specs.GraphTree.{Above}
use Rattle.zs_ids.specs.GraphValid.{last_birth}
use Rattle.zs_ranges.specs.declared.set.Interval.{Interval}
use Rattle.zs_phys.specs.declared.scope.Scope.{Scope}
use Rattle.zs_phys.specs.declared.scope.Kind.TheVariants.{Idle, Scrub, Resilver}
use Rattle.zs_phys.specs.declared.phys.Phys.{Phys}
use Rattle.zs_phys.specs.declared.phys.At.TheVariants.{Nowhere}
use Rattle.zs_phys.specs.declared.phys.At.TheVariants as ats
use Rattle.zs_phys.specs.declared.phys.Status.TheVariants.{Never, Scanning, Canceled}
use Rattle.zs_phys.specs.declared.todos.Todo.{Todo}
use Rattle.zs_phys.specs.Ahead.{pending, ids_at}

-- no two ids are the same
abbrev pub AreDistinct : List DsId → Type 0
AreDistinct [] = Unit {0}
AreDistinct (x ∷ xs) = (Has xs x → ⊥) × AreDistinct xs

-- some dataset has the id
pub record IsOfGraph (g : Graph) (id : DsId) : Type 0 where
  pub dataset : Dataset
  pub here : Has g dataset
  pub named : dataset.id ≡ id

-- the last transaction group of a whole pass over a dataset: the scan's max, for a snapshot at most its creation
abbrev pub pass_end : Dataset → ℕ → ℕ
pass_end d last = if d.head then last else min last d.creation

-- the pass over the dataset that the state is at: up to its end, or up to an earlier group where another pass follows
pub record IsPass (scope : Scope) (s : Phys) (d : Dataset) : Type 0 where
  pub in_range : s.curmax ≤ scope.max
  pub in_snapshot : d.head ≡ false → s.curmax ≤ d.creation
  pub whole : s.again ≡ false → s.curmax ≡ pass_end d scope.max

-- the queue of a scan that has just started
abbrev pub first_todo : List Todo
first_todo = record { id = ORIGIN; min = 0 } ∷ []

-- the scope ends by the transaction group h; or by the next one, in a scan that has not begun to walk or was canceled
pub data EndsBy (h : ℕ) (scope : Scope) (s : Phys) : Type 0 where
  past : scope.max ≤ h → EndsBy h scope s
  started : s.at ≡ Nowhere → scope.max ≤ h + 1 → s.todo ≡ first_todo → EndsBy h scope s
  canceled : s.at ≡ Nowhere → scope.max ≤ h + 1 → s.status ≡ Canceled → EndsBy h scope s

-- the state is between two datasets, with an empty queue, and not paused
pub record IsAtRest (s : Phys) : Type 0 where
  pub nowhere : s.at ≡ Nowhere
  pub empty : s.todo ≡ []
  pub goes_on : s.paused ≡ false

-- the state has no pass
pub record HasNoPass (s : Phys) : Type 0 where
  pub no_min : s.curmin ≡ 0
  pub no_max : s.curmax ≡ 0
  pub no_again : s.again ≡ false

-- the state belongs to the graph, where h is the transaction group whose tasks come next
pub record Sound (g : Graph) (h : ℕ) (scope : Scope) (s : Phys) : Type 0 where
  pub exist : (id : DsId) → Has (pending s) id → IsOfGraph g id
  pub once : AreDistinct (pending s)
  pub unrelated : (a b : DsId) → Has (pending s) a → Has (pending s) b → Above g a b → ⊥
  pub mins : (q : Todo) → Has s.todo q → (d : Dataset) → Has g d → d.id ≡ q.id → q.min ≤ last_birth d h
  pub ends : EndsBy h scope s
  pub pass : (d : Dataset) (k : Key) → Has g d → s.at ≡ ats.Dataset d.id k → IsPass scope s d
  pub rests : s.status ≢ Scanning → IsAtRest s
  pub between : ids_at s.at ≡ [] → HasNoPass s
  pub idle : (scope.kind ≡ Idle) ↔ (s.status ≡ Never)
  pub empty : scope.kind ≡ Idle → (scope.min ≡ 0) × (scope.max ≡ 0)
  pub scrubs : s.paused ≡ true → scope.kind ≡ Scrub
  pub logs : scope.kind ≢ Resilver → (log : List Interval) → Has scope.dirty0 log → log ≡ []
