-- The turn that comes, computed; and the states that the types of the scan state can't hold.
use Rattle.std.specs.Prelude.{◌<◌, ◌⊎◌, ◌&&◌, not, max, ℕ, Bool, true, false, nat_le, List, [], ◌∷◌, length, Option, Some, None, option_map, if◌then◌else◌}
use Rattle.zs_ids.specs.declared.key.Key.{Key}
use Rattle.zs_ids.specs.declared.block.Bp.{Bp}
use Rattle.zs_ids.specs.declared.dataset.DsId.{DsId}
use Rattle.zs_ids.specs.declared.limits.TheConstants.{DATASETS}
use Rattle.zs_ids.specs.Blocks.{first_from}
use Rattle.zs_ids.specs.Graph.{Graph}
use Rattle.zs_ids.specs.GraphTree.{dataset_at}
use Rattle.zs_phys.specs.declared.scope.Scope.{Scope}
use Rattle.zs_phys.specs.declared.phys.Phys.{Phys}
use Rattle.zs_phys.specs.declared.phys.At.{At}
use Rattle.zs_phys.specs.declared.phys.At.TheVariants.{Nowhere, Destroyed}
use Rattle.zs_phys.specs.declared.phys.At.TheVariants as ats
use Rattle.zs_phys.specs.declared.phys.Status.{Status}
use Rattle.zs_phys.specs.declared.phys.Status.TheVariants.{Never, Scanning, Finished, Canceled}
use Rattle.zs_phys.specs.declared.step.Step.{Step}
use Rattle.zs_phys.specs.declared.step.Step.TheVariants as steps
use Rattle.zs_phys.specs.declared.todos.Todo.{Todo}

-- a scan runs
abbrev pub is_scanning : Status → Bool
is_scanning Never = false
is_scanning Scanning = true
is_scanning Finished = false
is_scanning Canceled = false

-- the walk may go on
abbrev pub is_walking : Phys → Bool
is_walking s = is_scanning s.status && not s.paused

-- the turn between two datasets
abbrev pub queue_step : Scope → List Todo → Step
queue_step scope [] = steps.Nothing
queue_step scope (q ∷ qs) = if nat_le scope.max (max scope.min q.min) then steps.Skip else steps.Enter q.id q.min

-- the turn in a dataset, where this is the next entry that the walk visits
abbrev pub block_step : DsId → Option (Key × Bp) → Step
block_step id None = steps.End id
block_step id (Some e) = steps.At e.0 e.1

-- the turn of a walk that may go on; none where it is at a dataset that is not there
abbrev pub walk_step : Graph → Scope → Phys → At → Option Step
walk_step g scope s Nowhere = Some (queue_step scope s.todo)
walk_step g scope s Destroyed = Some steps.Skip
walk_step g scope s (ats.Dataset id k) =
    option_map (λ d. block_step id (first_from d.entries k s.curmin)) (dataset_at g id)

-- the turn that comes
abbrev pub next_step : Graph → Scope → Phys → Option Step
next_step g scope s = if is_walking s then walk_step g scope s s.at else Some steps.Nothing

-- the depth of the bookmark
abbrev pub depth_at : At → ℕ
depth_at Nowhere = 0
depth_at Destroyed = 0
depth_at (ats.Dataset id k) = k.depth

-- more datasets are queued than a pool may have, or the bookmark is deeper than any key of the type
abbrev pub IsTooLarge : Phys → Type 0
IsTooLarge t = (DATASETS < length t.todo) ⊎ (255 < depth_at t.at)
