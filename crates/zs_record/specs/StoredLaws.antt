-- What a record may have, part by part, and that it has one spelling.
use Rattle.std.specs.Prelude.{◌≡◌, ◌≢◌, ◌<◌, ◌≤◌, ◌-◌, ◌^◌, ◌==◌, ℕ, nat_lt, Bool, true, false, List, [], ◌∷◌, ◌++◌, All, length, map, replicate, Option, None, Ok, flat_map, if◌then◌else◌}
use Rattle.std.specs.Option.{IfSome}
use Rattle.zs_ids.specs.declared.dataset.DsId.{DsId}
use Rattle.zs_ids.specs.declared.limits.TheConstants.{MIRRORS, WIDTH, DATASETS, LOG_SPANS, TXG_END}
use Rattle.zs_ledger.specs.Kept.{has_piece}
use Rattle.zs_ledger.specs.declared.entry.CopyResult.{CopyResult}
use Rattle.zs_ledger.specs.declared.entry.CopyResult.TheVariants.{Missing, Good, Rewritten, Bad, Fault, Absent}
use Rattle.zs_ledger.specs.declared.entry.Entry.{Entry}
use Rattle.zs_phys.specs.declared.phys.At.{At}
use Rattle.zs_phys.specs.declared.phys.At.TheVariants as ats
use Rattle.zs_phys.specs.declared.phys.Status.{Status}
use Rattle.zs_phys.specs.declared.phys.Status.TheVariants.{Never, Scanning}
use Rattle.zs_phys.specs.declared.scope.Kind.{Kind}
use Rattle.zs_phys.specs.declared.scope.Kind.TheVariants.{Idle, Scrub, Resilver}
use Rattle.zs_phys.specs.declared.todos.Todo.{Todo}
use Rattle.zs_ranges.specs.declared.set.Interval.{Interval}
use Rattle.zs_sum.specs.Laws.{AreBytes}
use Rattle.zs_record.specs.declared.head.Head.{Head}
use Rattle.zs_record.specs.declared.mirrors.Mirrors.{Mirrors}
use Rattle.zs_record.specs.declared.scan.Running.{Running}
use Rattle.zs_record.specs.declared.scan.Pass.{Pass}
use Rattle.zs_record.specs.declared.sets.SetHead.{SetHead}
use Rattle.zs_record.specs.declared.sets.StoredSet.{StoredSet}
use Rattle.zs_record.specs.Head.{devices_of, is_offline, head_of}
use Rattle.zs_record.specs.Laws.{IsPart, FitAll, IsFrom, IsName, IsWideKey, IsSet, AreEntries}
use Rattle.zs_record.specs.Logs.{logs_of}
use Rattle.zs_record.specs.Scan.{if_used, is_away, running_of, pass_of}
use Rattle.zs_record.specs.ScanSpelling.{running_bytes, pass_bytes}
use Rattle.zs_record.specs.Sets.{is_above, id_next, sets_of}
use Rattle.zs_record.specs.Spelling.{set_bytes, head_bytes, stored_set_bytes}
use Rattle.zs_record.specs.Stored.{Parts, is_scanning, most_dirty, stored_of}
use Rattle.zs_record.specs.StoredSpelling.{queue_bytes, stored_bytes, HaveCounts}
use Rattle.zs_record.specs.Todo.{has_id, ids_of, with_todo, queue_of}

-- no more mirrors, and none with more devices, than a pool may have
pub record AreFew (mirrors : Mirrors) : Type 0 where
  pub count : mirrors.count ≤ MIRRORS
  pub width : mirrors.width ≤ WIDTH

-- a head that a record of a pool with these mirrors may have
pub record IsHead (mirrors : Mirrors) (h : Head) : Type 0 where
  pub txg : IsFrom 1 (TXG_END - 1) h.txg
  pub next_id : h.next_id < 2 ^ 32
  pub datasets : IsFrom 1 DATASETS h.datasets
  pub offline : is_offline mirrors h.offline ≡ true

-- the fields of a dataset whose id is above the last one; only the origin, of id 0, may lack a name
pub record IsSetHead (last : Option DsId) (d : SetHead) : Type 0 where
  pub id : d.id.0 < 2 ^ 32
  pub above : is_above last d.id.0 ≡ true
  pub owner : IsName (if d.id.0 == 0 then 0 else 1) 12 d.owner
  pub label : IsName (if d.id.0 == 0 then 0 else if d.head then 0 else 1) (if d.head then 0 else 12) d.label
  pub parent : IfSome d.parent (λ p. p.0 < 2 ^ 32 - 1)
  pub creation : d.creation ≤ (if d.head then 0 else 2 ^ 64 - 1)

-- a dataset whose id is above the last one
pub record IsStoredSet (last : Option DsId) (set : StoredSet) : Type 0 where
  pub head : IsSetHead last set.head
  pub many : length set.entries < 2 ^ 32
  pub entries : AreEntries (length set.entries) None set.entries

-- so many datasets, their ids rising
pub record AreSets (count : ℕ) (last : Option DsId) (sets : List StoredSet) : Type 0 where
  pub many : length sets ≡ count
  pub fit : FitAll IsStoredSet id_next last sets

-- the sets of so many devices, of at most so many intervals of groups from 1 to `last`
pub record AreLogs (most last count : ℕ) (logs : List (List Interval)) : Type 0 where
  pub many : length logs ≡ count
  pub fit : All (IsSet most last) logs

-- the status that a scan of the kind may have: one that is none has Never, every other one has not
abbrev pub HasStatus : Kind → Status → Type 0
HasStatus Idle status = status ≡ Never
HasStatus Scrub status = status ≢ Never
HasStatus Resilver status = status ≢ Never

-- the most of what a scan of the kind uses: one that is none uses nothing
abbrev pub most_of : Kind → ℕ → ℕ
most_of Idle most = 0
most_of Scrub most = most
most_of Resilver most = most

-- what every scan has
pub record IsRunning (mirrors : Mirrors) (offline : ℕ) (r : Running) : Type 0 where
  pub status : HasStatus r.kind r.status
  pub paused : r.paused ≡ true → (r.kind ≡ Scrub) × (r.status ≡ Scanning)
  pub again : r.again ≡ true → r.status ≡ Scanning
  pub min : r.min ≤ most_of r.kind (2 ^ 64 - 1)
  pub max : r.max ≤ most_of r.kind (2 ^ 64 - 1)
  pub away : is_away mirrors offline r.away ≡ true

-- where the walk of a scan may be that is running or not; a dataset that comes again is one that the walk is at
abbrev pub IsPlace : Bool → Bool → At → Type 0
IsPlace scanning again ats.Nowhere = again ≡ false
IsPlace scanning again ats.Destroyed = (again ≡ false) × (scanning ≡ true)
IsPlace scanning again (ats.Dataset id key) = (scanning ≡ true) × (id.0 < 2 ^ 32) × IsWideKey key × (key.depth ≤ 4)

-- the most of what a walk uses there: only a dataset has a pass
abbrev pub most_at : At → ℕ → ℕ
most_at ats.Nowhere most = 0
most_at ats.Destroyed most = 0
most_at (ats.Dataset id key) most = most

-- where the walk is, and its pass
pub record IsPass (scanning again : Bool) (p : Pass) : Type 0 where
  pub place : IsPlace scanning again p.at
  pub curmin : p.curmin ≤ most_at p.at (2 ^ 64 - 1)
  pub curmax : p.curmax ≤ most_at p.at (2 ^ 64 - 1)

-- a dataset that is none of those before it
pub record IsTodo (before : List Todo) (t : Todo) : Type 0 where
  pub id : t.id.0 < 2 ^ 32
  pub other : has_id (ids_of before) t.id.0 ≡ false
  pub min : t.min < 2 ^ 64

-- the queue of a scan that is running or not
pub record IsQueue (scanning : Bool) (todos : List Todo) : Type 0 where
  pub many : length todos ≤ if_used scanning (2 ^ 32 - 1)
  pub fit : FitAll IsTodo with_todo [] todos

-- the mirror has such a copy
abbrev pub is_there : CopyResult → Bool
is_there Missing = false
is_there Good = true
is_there Rewritten = true
is_there Bad = true
is_there Fault = true
is_there Absent = true

-- the copies that a mirror of that width has
abbrev pub there_of : ℕ → List Bool
there_of width = nat_lt 0 width ∷ nat_lt 1 width ∷ nat_lt 2 width ∷ nat_lt 3 width ∷ []

-- an entry of a piece that was born by `last`, of which none of those before it is
pub record IsChecked (mirrors : Mirrors) (last : ℕ) (before : List Entry) (e : Entry) : Type 0 where
  pub vdev : e.piece.place.vdev ≤ mirrors.count - 1
  pub copies : map is_there e.copies ≡ there_of mirrors.width
  pub sectors : e.sectors < 2 ^ 16
  pub sector : e.piece.place.sector < 2 ^ 32
  pub birth : IsFrom 1 last e.piece.birth
  pub other : has_piece before e.piece ≡ false
  pub sum : length e.sum ≡ 32

-- one more
abbrev pub with_checked : List Entry → Entry → List Entry
with_checked before e = before ++ e ∷ []

-- the ledger, of pieces that were born by `last`
pub record IsLedger (mirrors : Mirrors) (last : ℕ) (entries : List Entry) : Type 0 where
  pub many : length entries < 2 ^ 32
  pub fit : FitAll (IsChecked mirrors last) with_checked [] entries

-- a record of a pool with these mirrors, as far as it can be told without joining the datasets
pub record IsStored (mirrors : Mirrors) (p : Parts) : Type 0 where
  pub head : IsHead mirrors p.head
  pub sets : AreSets p.head.datasets None p.sets
  pub logs : AreLogs LOG_SPANS p.head.txg (devices_of mirrors) p.logs
  pub running : IsRunning mirrors p.head.offline p.running
  pub pass : IsPass (is_scanning p.running.status) p.running.again p.pass
  pub todo : IsQueue (is_scanning p.running.status) p.todo
  pub dirty0 : AreLogs (most_dirty p.running.kind) p.head.txg (devices_of mirrors) p.dirty0
  pub checked : IsLedger mirrors p.head.txg p.checked

-- an entry without the places of its calls in the journals, which no record has
abbrev pub unmarked : Entry → Entry
unmarked e = record e { marks = replicate 4 (2 ^ 64 - 1) }

-- the same record without them
abbrev pub forgotten : Parts → Parts
forgotten p = record p { checked = map unmarked p.checked }

-- a record has one spelling: what is written of it is read back, but for the marks of its entries, and what is read spells
-- back to the bytes that it was read from; each list of it can be counted in four bytes
pub record StoredLaw : Type 0 where
  pub back : (mirrors : Mirrors) (p : Parts) → AreFew mirrors → IsStored mirrors p → stored_of mirrors (stored_bytes mirrors p) ≡ Ok (forgotten p)
  pub spells : (mirrors : Mirrors) (bytes : List ℕ) (p : Parts) → AreFew mirrors → AreBytes bytes → stored_of mirrors bytes ≡ Ok p
      → (bytes ≡ stored_bytes mirrors p) × IsStored mirrors p × (forgotten p ≡ p)
  pub counts : (mirrors : Mirrors) (p : Parts) → IsStored mirrors p → HaveCounts p

-- the parts of a record that has one spelling: the head, the datasets, the devices' sets, the scan and its queue
pub record StoredPartsLaw : Type 0 where
  pub heads : (mirrors : Mirrors) → AreFew mirrors → IsPart (head_of mirrors) (head_bytes mirrors) (IsHead mirrors)
  pub sets : (count : ℕ) (last : Option DsId) → IsPart (sets_of count last) (flat_map stored_set_bytes) (AreSets count last)
  pub logs : (most last count : ℕ) → most < 2 ^ 32 → last < 2 ^ 64 → IsPart (logs_of most last count) (flat_map set_bytes) (AreLogs most last count)
  pub running : (mirrors : Mirrors) (offline : ℕ) → AreFew mirrors → IsPart (running_of mirrors offline) running_bytes (IsRunning mirrors offline)
  pub passes : (scanning again : Bool) → IsPart (pass_of scanning again) pass_bytes (IsPass scanning again)
  pub queues : (scanning : Bool) → IsPart (queue_of scanning) queue_bytes (IsQueue scanning)
