-- What a scan state has still ahead of it, and when what was examined and what is ahead are everything.
use Rattle.std.specs.Prelude.{◌≡◌, ◌<◌, ◌≤◌, ◌⊎◌, ◌++◌, Bool, true, false, List, [], ◌∷◌, map, IsTrue}
use Rattle.std.specs.Ordering.{is_le}
use Rattle.zs_ids.specs.declared.key.Key.{Key}
use Rattle.zs_ids.specs.declared.block.Bp.{Bp}
use Rattle.zs_ids.specs.declared.block.Piece.{Piece}
use Rattle.zs_ids.specs.declared.dataset.DsId.{DsId}
use Rattle.zs_ids.specs.Key.{key_cmp}
use Rattle.zs_ids.specs.Graph.{Has, Dataset, Graph, pieces_of}
use Rattle.zs_ids.specs.GraphTree.{Above, IsHome}
use Rattle.zs_phys.specs.declared.scope.Scope.{Scope}
use Rattle.zs_phys.specs.declared.phys.Phys.{Phys}
use Rattle.zs_phys.specs.declared.phys.At.{At}
use Rattle.zs_phys.specs.declared.phys.At.TheVariants.{Nowhere, Destroyed}
use Rattle.zs_phys.specs.declared.phys.At.TheVariants as ats
use Rattle.zs_phys.specs.declared.phys.Status.{Status}
use Rattle.zs_phys.specs.declared.phys.Status.TheVariants.{Never, Scanning, Finished, Canceled}
use Rattle.zs_phys.specs.declared.todos.Todo.{Todo}
use Rattle.zs_phys.specs.Scope.{in_scope}

-- the dataset that the state is at
abbrev pub ids_at : At → List DsId
ids_at Nowhere = []
ids_at Destroyed = []
ids_at (ats.Dataset id k) = id ∷ []

-- the pending datasets: the one that the state is at, and those in the queue
abbrev pub pending : Phys → List DsId
pending s = ids_at s.at ++ map (λ e. e.id) s.todo

-- a dataset is later where a strict ancestor of it is pending
pub record IsLater (g : Graph) (s : Phys) (id : DsId) : Type 0 where
  pub ancestor : DsId
  pub is_pending : Has (pending s) ancestor
  pub above : Above g ancestor id

-- an entry at home in a dataset is ahead: the dataset is later; it is queued, and the entry is born after its min;
-- the walk is in it, at or before the entry, which is born after curmin and up to curmax; or the walk is in it, will
-- pass it again, and the entry is born after curmax
pub data Ahead (g : Graph) (s : Phys) (id : DsId) (e : Key × Bp) : Type 0 where
  later : IsLater g s id → Ahead g s id e
  queued : (q : Todo) → Has s.todo q → q.id ≡ id → q.min < e.1.birth → Ahead g s id e
  passing : (k : Key) → s.at ≡ ats.Dataset id k → IsTrue (is_le (key_cmp k e.0)) → s.curmin < e.1.birth → e.1.birth ≤ s.curmax → Ahead g s id e
  again : (k : Key) → s.at ≡ ats.Dataset id k → s.again ≡ true → s.curmax < e.1.birth → Ahead g s id e

-- a scan that runs or has finished claims to miss nothing
abbrev pub claims : Status → Bool
claims Never = false
claims Scanning = true
claims Finished = true
claims Canceled = false

-- the state covers the graph: where it claims so, each live piece in scope is done, or its entry at home is ahead
pub record Covers (g : Graph) (scope : Scope) (s : Phys) (done : Piece → Bool) : Type 0 where
  pub covered : IsTrue (claims s.status) → (d : Dataset) (e : Key × Bp) (p : Piece) → IsHome g d e → Has (pieces_of e.1) p → IsTrue (in_scope scope p)
      → IsTrue (done p) ⊎ Ahead g s d.id e
