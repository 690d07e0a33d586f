-- How many turns a walk has left at most: those of the pass that it is in, of what is queued at that pass's end, and of
-- each dataset in the queue with all that stand on it.
use Rattle.std.specs.Prelude.{ℕ, zero, suc, ◌+◌, ◌||◌, Bool, false, if◌then◌else◌, List, Option, Some, None, filter, length}
use Rattle.std.specs.List.{sum_by}
use Rattle.std.specs.Ordering.{is_le}
use Rattle.zs_ids.specs.declared.key.Key.{Key}
use Rattle.zs_ids.specs.declared.block.Bp.{Bp}
use Rattle.zs_ids.specs.declared.dataset.DsId.{DsId}
use Rattle.zs_ids.specs.Key.{key_cmp}
use Rattle.zs_ids.specs.Graph.{Dataset, Graph}
use Rattle.zs_ids.specs.GraphTree.{is_id, dataset_at, entries_of}
use Rattle.zs_phys.specs.declared.phys.Phys.{Phys}
use Rattle.zs_phys.specs.declared.phys.At.{At}
use Rattle.zs_phys.specs.declared.phys.At.TheVariants as ats
use Rattle.zs_phys.specs.declared.todos.Todo.{Todo}

-- the turns that a block takes
abbrev pub weight : Bp → ℕ
weight bp = 1

-- those of some blocks
abbrev pub turns_of : List (Key × Bp) → ℕ
turns_of entries = sum_by (λ e. weight e.1) entries

-- a pass over a dataset: the turn that enters it, those of its blocks, and the one at its end
abbrev pub turns_over : List (Key × Bp) → ℕ
turns_over entries = turns_of entries + 2

-- the parent of a dataset, where there is one
abbrev pub parent_id : Option Dataset → Option DsId
parent_id None = None
parent_id (Some d) = d.parent

-- what stands on `parent` is below the dataset `id`: the parent is that dataset, or is itself below it; so many datasets
-- are looked at on the way up
abbrev pub descends : Graph → ℕ → DsId → Option DsId → Bool
descends g zero id parent = false
descends g (suc most) id None = false
descends g (suc most) id (Some parent) = is_id parent id || descends g most id (parent_id (dataset_at g parent))

-- a dataset is below the one with this id: no way up is longer than there are datasets
abbrev pub is_below : Graph → DsId → Dataset → Bool
is_below g id d = descends g (length g) id d.parent

-- a pass over each dataset below this one
abbrev pub turns_below : Graph → DsId → ℕ
turns_below g id = sum_by (λ d. turns_over d.entries) (filter (is_below g id) g)

-- a pass over a dataset, and over each below it
abbrev pub turns_at : Graph → DsId → ℕ
turns_at g id = turns_over (entries_of (dataset_at g id)) + turns_below g id

-- those of the datasets in the queue
abbrev pub turns_queued : Graph → List Todo → ℕ
turns_queued g todo = sum_by (λ q. turns_at g q.id) todo

-- the turns of the blocks at or after a key
abbrev pub turns_from : List (Key × Bp) → Key → ℕ
turns_from entries from = turns_of (filter (λ e. is_le (key_cmp from e.0)) entries)

-- what is left of the pass that the walk is in: the blocks from the bookmark on, its end, and what is queued there, which
-- is the dataset once more, or those that stand on it
abbrev pub turns_here : Graph → Bool → At → ℕ
turns_here g again ats.Nowhere = 0
turns_here g again ats.Destroyed = 1
turns_here g again (ats.Dataset id from) = turns_from (entries_of (dataset_at g id)) from + 1 + (if again then turns_at g id else turns_below g id)

-- how many turns are left at most
unfoldable pub turns_left : Graph → Phys → ℕ
turns_left g s = turns_here g s.again s.at + turns_queued g s.todo
