-- What `status` tells of a pool.
use Rattle.std.specs.Prelude.{if◌then◌else◌, map, filter, length, Option, Some, None}
use Rattle.zs_ids.specs.declared.dataset.DsId.{DsId}
use Rattle.zs_ids.specs.declared.dataset.DsName.{DsName}
use Rattle.zs_ids.specs.declared.dataset.TheConstants.Name.{EMPTY}
use Rattle.zs_ids.specs.Graph.{Dataset, Graph}
use Rattle.zs_ids.specs.GraphTree.{created, dataset_at, entries_of}
use Rattle.zs_ledger.specs.Entry.{has_error}
use Rattle.zs_phys.specs.declared.phys.Phys.{Phys}
use Rattle.zs_phys.specs.declared.phys.At.{At}
use Rattle.zs_phys.specs.declared.phys.At.TheVariants as ats
use Rattle.zs_phys.specs.declared.todos.Todo.{Todo}
use Rattle.zs_walk.specs.Walking.{runs}
use Rattle.zs_scan.specs.View.{ScanView, is_flying}
use Rattle.zs_script.specs.declared.refusal.Refusal.TheVariants.{Suspended}
use Rattle.zs_script.specs.declared.reply.Listed.{Listed}
use Rattle.zs_script.specs.declared.reply.Reply.{Reply}
use Rattle.zs_script.specs.declared.reply.Reply.TheVariants as reply
use Rattle.zs_script.specs.declared.reply.ScanState.{ScanState as StateWord}
use Rattle.zs_script.specs.declared.reply.ScanStatus.{ScanStatus}
use Rattle.zs_script.specs.declared.reply.TodoEntry.{TodoEntry}
use Rattle.zs_script.specs.declared.reply.Walking.{Walking}
use Rattle.zs_script.specs.declared.reply.WalkPlace.{WalkPlace}
use Rattle.zs_script.specs.declared.reply.WalkPlace.TheVariants as places
use Rattle.zs_machine.specs.Machine.{PoolState}
use Rattle.zs_machine.specs.Status.{counted, kind_word, state_word}

-- the name of a dataset; the origin has none
abbrev pub name_in : Option Dataset → DsName
name_in None = record { owner = EMPTY; label = EMPTY }
name_in (Some d) = record { owner = d.owner; label = d.label }

-- what `list` tells of the dataset with an id
abbrev pub listed_at : Graph → DsId → Listed
listed_at g id = record { name = name_in (dataset_at g id); creation = created (dataset_at g id); blocks = counted (length (entries_of (dataset_at g id))) }

-- where the walk stands
abbrev pub place_of : Graph → Phys → At → WalkPlace
place_of g s ats.Nowhere = places.Nowhere
place_of g s ats.Destroyed = places.Destroyed
place_of g s (ats.Dataset id key) = places.Dataset (name_in (dataset_at g id)) key s.curmin s.curmax s.again

-- a dataset that the walk has yet to enter
abbrev pub todo_of : Graph → Todo → TodoEntry
todo_of g q = record { ds = name_in (dataset_at g q.id); min = q.min }

-- the range and the bookmark of a scan that runs
abbrev pub walking_of : Graph → ScanView → Option Walking
walking_of g v =
    if runs v.run.status
    then Some (record { min = v.scope.min; max = v.scope.max; place = place_of g v.run v.run.at; todo = map (todo_of g) v.run.todo })
    else None

-- how the scan stands: what it has checked, what waits, and what flies, which was not freed
abbrev pub status_with : Graph → ScanView → Option StateWord → Option ScanStatus
status_with g v None = None
status_with g v (Some word) = Some (record {
  kind = kind_word v.scope.kind;
  state = word;
  checked = counted (length v.checked);
  errors = counted (length (filter has_error v.checked));
  waiting = length v.waiting;
  flight = counted (length (filter is_flying v.marks));
  walking = walking_of g v;
})

-- the reply to `status`
abbrev pub status_reply : PoolState → ScanView → Reply
status_reply s v =
    if s.suspended
    then reply.Refused Suspended
    else reply.Status s.open_txg.txg (status_with s.graph v (state_word v.run.status v.run.paused))
