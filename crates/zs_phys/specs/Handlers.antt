-- What dataset events do to a scan state, a line each. Made after `dsl_scan_ds_snapshotted`, `dsl_scan_ds_destroyed`
-- and `dsl_scan_ds_clone_swapped` of OpenZFS.
use Rattle.std.specs.Prelude.{◌≡◌, ℕ, ◌^◌, Bool, false, not, ◌||◌, bit_or, List, [], Option, Some, None, map, filter, if◌then◌else◌}
use Rattle.zs_ids.specs.declared.dataset.DsId.{DsId}
use Rattle.zs_ids.specs.GraphTree.{is_id}
use Rattle.zs_phys.specs.declared.phys.Phys.{Phys}
use Rattle.zs_phys.specs.declared.phys.At.{At}
use Rattle.zs_phys.specs.declared.phys.At.TheVariants.{Nowhere, Destroyed}
use Rattle.zs_phys.specs.declared.phys.At.TheVariants as ats
use Rattle.zs_phys.specs.declared.phys.Status.TheVariants.{Never}
use Rattle.zs_phys.specs.declared.todos.Todo.{Todo}

-- a snapshot was taken of a head; a dataset was destroyed, with the child that took its place; two heads were
-- swapped; a device went offline
pub data Event : Type 0 where
  snapshot_taken : (head snap : DsId) → Event
  destroyed : (id : DsId) (next : Option DsId) → Event
  swapped : (a b : DsId) → Event
  went_away : (dev : ℕ) → Event

-- `b` in place of `a`
abbrev pub instead : DsId → DsId → DsId → DsId
instead a b x = if is_id x a then b else x

-- `a` and `b` in each other's place
abbrev pub exchanged : DsId → DsId → DsId → DsId
exchanged a b x = if is_id x a then b else (if is_id x b then a else x)

-- the bookmark at the dataset that has the place of its own, at the same key
abbrev pub moved : (DsId → DsId) → At → At
moved place Nowhere = Nowhere
moved place Destroyed = Destroyed
moved place (ats.Dataset id k) = ats.Dataset (place id) k

-- an entry of the queue for the dataset that has the place of its own, with the same min
abbrev pub entry_at : (DsId → DsId) → Todo → Todo
entry_at place q = record { id = place q.id; min = q.min }

-- the queue with an entry for each dataset that has the place of its own
abbrev pub renamed : (DsId → DsId) → List Todo → List Todo
renamed place todo = map (entry_at place) todo

-- bookmark and queue move to other datasets, and all else stays
abbrev pub with_places : (DsId → DsId) → Phys → Phys
with_places place s = record s { at = moved place s.at; todo = renamed place s.todo }

-- the state is at the dataset
abbrev pub is_on : At → DsId → Bool
is_on Nowhere id = false
is_on Destroyed id = false
is_on (ats.Dataset here k) id = is_id here id

-- the queue without the dataset
abbrev pub dropped : DsId → List Todo → List Todo
dropped id todo = filter (λ q. not (is_id q.id id)) todo

-- a snapshot of a head was taken: bookmark and queue move from the head to the snapshot
abbrev pub snapshotted : DsId → DsId → Phys → Phys
snapshotted head snap s = with_places (instead head snap) s

-- a snapshot with a child was destroyed: bookmark and queue move to the child, and the child that is being walked is
-- walked again
abbrev pub replaced_by : DsId → DsId → Phys → Phys
replaced_by id next s = record (with_places (instead id next) s) { again = s.again || is_on s.at id }

-- a dataset without a child was destroyed: the bookmark is on none, and the queue lacks it
abbrev pub dropped_from : DsId → Phys → Phys
dropped_from id s =
    if is_on s.at id
    then record s { at = Destroyed; curmin = 0; curmax = 0; again = false; todo = dropped id s.todo }
    else record s { todo = dropped id s.todo }

-- what the event makes of the state
abbrev pub handled : Event → Phys → Phys
handled (snapshot_taken head snap) s = snapshotted head snap s
handled (destroyed id (Some next)) s = replaced_by id next s
handled (destroyed id None) s = dropped_from id s
handled (swapped a b) s = with_places (exchanged a b) s
handled (went_away dev) s = record s { away = bit_or s.away (2 ^ dev) }

-- the table of the handlers
abbrev pub Handled : Phys → Event → Phys → Type 0
Handled s event t = t ≡ handled event s

-- the state of a pool that never had a scan
abbrev pub idle : Phys
idle = record { status = Never; paused = false; away = 0; at = Nowhere; curmin = 0; curmax = 0; again = false; todo = [] }
