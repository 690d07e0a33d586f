-- The turns of the walk. Made after the passes of `dsl_scan_visit` and `dsl_scan_visitds` of OpenZFS.
use Rattle.std.specs.Prelude.{◌≡◌, ◌<◌, ◌≤◌, ◌+◌, ◌++◌, max, ℕ, Bool, true, false, not, ◌&&◌, nat_le, List, [], ◌∷◌, drop, map, filter, Option, Some, None, if◌then◌else◌}
use Rattle.zs_ids.specs.declared.key.Key.{Key}
use Rattle.zs_ids.specs.declared.block.Bp.{Bp}
use Rattle.zs_ids.specs.declared.block.Piece.{Piece}
use Rattle.zs_ids.specs.declared.dataset.DsId.{DsId}
use Rattle.zs_ids.specs.Key.{root_key}
use Rattle.zs_ids.specs.Blocks.{first_from}
use Rattle.zs_ids.specs.Graph.{Has, Dataset, Graph, pieces_of}
use Rattle.zs_ids.specs.GraphTree.{dataset_at, created, children_of}
use Rattle.zs_phys.specs.declared.scope.Scope.{Scope}
use Rattle.zs_phys.specs.declared.phys.Phys.{Phys}
use Rattle.zs_phys.specs.declared.phys.At.{At}
use Rattle.zs_phys.specs.declared.phys.At.TheVariants.{Nowhere, Destroyed}
use Rattle.zs_phys.specs.declared.phys.At.TheVariants as ats
use Rattle.zs_phys.specs.declared.phys.Status.TheVariants.{Scanning}
use Rattle.zs_phys.specs.declared.step.Step.{Step}
use Rattle.zs_phys.specs.declared.step.Step.TheVariants as steps
use Rattle.zs_phys.specs.declared.todos.Todo.{Todo}
use Rattle.zs_phys.specs.Scope.{in_scope}
use Rattle.zs_phys.specs.Sound.{pass_end}

-- the walk may go on
pub record IsWalking (s : Phys) : Type 0 where
  pub scans : s.status ≡ Scanning
  pub goes_on : s.paused ≡ false

-- there is nothing to walk
pub data HasNoWork (s : Phys) : Type 0 where
  no_scan : (s.status ≡ Scanning → ⊥) → HasNoWork s
  paused : s.paused ≡ true → HasNoWork s
  none_left : s.at ≡ Nowhere → s.todo ≡ [] → HasNoWork s

-- the last transaction group of the pass over the dataset with this id
abbrev pub end_of_pass : Option Dataset → ℕ → ℕ
end_of_pass None last = last
end_of_pass (Some d) last = pass_end d last

-- which turn comes
pub data Comes (g : Graph) (scope : Scope) (s : Phys) : Step → Type 0 where
  rests : HasNoWork s → Comes g scope s steps.Nothing
  leaves : IsWalking s → s.at ≡ Destroyed → Comes g scope s steps.Skip
  skips : (q : Todo) (qs : List Todo) → IsWalking s → s.at ≡ Nowhere → s.todo ≡ q ∷ qs → scope.max ≤ max scope.min q.min → Comes g scope s steps.Skip
  enters : (q : Todo) (qs : List Todo) → IsWalking s → s.at ≡ Nowhere → s.todo ≡ q ∷ qs → max scope.min q.min < scope.max
      → Comes g scope s (steps.Enter q.id q.min)
  meets : (d : Dataset) (k : Key) (e : Key × Bp) → IsWalking s → Has g d → s.at ≡ ats.Dataset d.id k → first_from d.entries k s.curmin ≡ Some e
      → Comes g scope s (steps.At e.0 e.1)
  ends : (d : Dataset) (k : Key) → IsWalking s → Has g d → s.at ≡ ats.Dataset d.id k → first_from d.entries k s.curmin ≡ None → Comes g scope s (steps.End d.id)

-- the state at no dataset
abbrev pub left : Phys → Phys
left s = record s { at = Nowhere; curmin = 0; curmax = 0; again = false }

-- the bookmark behind a block
abbrev pub behind : At → Key → At
behind Nowhere k = Nowhere
behind Destroyed k = Destroyed
behind (ats.Dataset id here) k = ats.Dataset id (record k { depth = k.depth + 1 })

-- what a skip leaves
abbrev pub skipped : At → Phys → Phys
skipped Nowhere s = record s { todo = drop 1 s.todo }
skipped Destroyed s = left s
skipped (ats.Dataset id k) s = s

-- an entry of the queue
abbrev pub entry : ℕ → DsId → Todo
entry least id = record { id = id; min = least }

-- what the end of a pass puts into the queue: the children, from the dataset's creation on, or the dataset again, from
-- curmax on
abbrev pub queued_at_end : Graph → Phys → DsId → List Todo
queued_at_end g s id = if s.again then entry s.curmax id ∷ [] else map (entry (created (dataset_at g id))) (children_of g id)

-- what a turn makes of the state
abbrev pub advanced : Graph → Scope → Phys → Step → Phys
advanced g scope s steps.Nothing = s
advanced g scope s steps.Skip = skipped s.at s
advanced g scope s (steps.Enter id least) = record s {
  at = ats.Dataset id root_key;
  curmin = max scope.min least;
  curmax = end_of_pass (dataset_at g id) scope.max;
  again = false;
  todo = drop 1 s.todo;
}
advanced g scope s (steps.At k bp) = record s { at = behind s.at k }
advanced g scope s (steps.End id) = record (left s) { todo = s.todo ++ queued_at_end g s id }

-- the pieces that a turn puts into the queue: those of the block that it meets, where that is born up to curmax, which
-- are in scope and not done already
abbrev pub put_by : Scope → (Piece → Bool) → Phys → Step → List Piece
put_by scope done s (steps.At k bp) = if nat_le bp.birth s.curmax then filter (λ p. in_scope scope p && not (done p)) (pieces_of bp) else []
put_by scope done s steps.Nothing = []
put_by scope done s steps.Skip = []
put_by scope done s (steps.Enter id least) = []
put_by scope done s (steps.End id) = []

-- one turn of the walk from a state to the next, with the pieces that it puts
pub record Turn (g : Graph) (scope : Scope) (done : Piece → Bool) (s t : Phys) (put : List Piece) : Type 0 where
  pub step : Step
  pub comes : Comes g scope s step
  pub becomes : t ≡ advanced g scope s step
  pub puts : put ≡ put_by scope done s step
