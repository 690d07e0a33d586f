-- A record, all of its bytes.
use Rattle.std.specs.Prelude.{ℕ, ◌==◌, Bool, true, false, List, None, length, Result, Ok, Err, if◌then◌else◌}
use Rattle.zs_ids.specs.declared.limits.TheConstants.{LOG_SPANS}
use Rattle.zs_ledger.specs.declared.entry.Entry.{Entry}
use Rattle.zs_phys.specs.declared.phys.Status.{Status}
use Rattle.zs_phys.specs.declared.phys.Status.TheVariants.{Never, Scanning, Finished, Canceled}
use Rattle.zs_phys.specs.declared.scope.Kind.{Kind}
use Rattle.zs_phys.specs.declared.scope.Kind.TheVariants.{Idle, Scrub, Resilver}
use Rattle.zs_phys.specs.declared.todos.Todo.{Todo}
use Rattle.zs_ranges.specs.declared.set.Interval.{Interval}
use Rattle.zs_record.specs.declared.fault.RecordFault.{RecordFault}
use Rattle.zs_record.specs.declared.fault.RecordFault.TheVariants as faults
use Rattle.zs_record.specs.declared.head.Head.{Head}
use Rattle.zs_record.specs.declared.mirrors.Mirrors.{Mirrors}
use Rattle.zs_record.specs.declared.scan.Running.{Running}
use Rattle.zs_record.specs.declared.scan.Pass.{Pass}
use Rattle.zs_record.specs.declared.sets.StoredSet.{StoredSet}
use Rattle.zs_record.specs.declared.stored.Stored.{Stored}
use Rattle.zs_record.specs.Reading.{◌>>=◌}
use Rattle.zs_record.specs.Head.{devices_of, head_of}
use Rattle.zs_record.specs.Sets.{sets_of}
use Rattle.zs_record.specs.Logs.{logs_of}
use Rattle.zs_record.specs.Scan.{running_of, pass_of}
use Rattle.zs_record.specs.Todo.{queue_of}
use Rattle.zs_record.specs.Checked.{ledger_of}

-- what a record has
pub record Parts : Type 0 where
  pub head : Head
  pub sets : List StoredSet
  pub logs : List (List Interval)
  pub running : Running
  pub pass : Pass
  pub todo : List Todo
  pub dirty0 : List (List Interval)
  pub checked : List Entry

abbrev pub parts_of : Stored → Parts
parts_of s = record {
  head = s.head;
  sets = s.sets;
  logs = s.logs;
  running = s.running;
  pass = s.pass;
  todo = s.todo;
  dirty0 = s.dirty0;
  checked = s.ledger.entries;
}

-- the scan is running, paused or not
abbrev pub is_scanning : Status → Bool
is_scanning Never = false
is_scanning Scanning = true
is_scanning Finished = false
is_scanning Canceled = false

-- how many intervals a device's set of missed groups may have at a scan's start; only a resilver has any
abbrev pub most_dirty : Kind → ℕ
most_dirty Idle = 0
most_dirty Scrub = 0
most_dirty Resilver = LOG_SPANS

-- a record of a pool with these mirrors, or its first fault, as far as it can be told without joining the datasets
unfoldable pub stored_of : Mirrors → List ℕ → Result Parts RecordFault
stored_of mirrors bytes = do
  head ← head_of mirrors bytes
  sets ← sets_of head.0.datasets None head.1
  logs ← logs_of LOG_SPANS head.0.txg (devices_of mirrors) sets.1
  running ← running_of mirrors head.0.offline logs.1
  pass ← pass_of (is_scanning running.0.status) running.0.again running.1
  todo ← queue_of (is_scanning running.0.status) pass.1
  dirty0 ← logs_of (most_dirty running.0.kind) head.0.txg (devices_of mirrors) todo.1
  checked ← ledger_of mirrors head.0.txg dirty0.1
  if length checked.1 == 0 then Ok (record {
    head = head.0;
    sets = sets.0;
    logs = logs.0;
    running = running.0;
    pass = pass.0;
    todo = todo.0;
    dirty0 = dirty0.0;
    checked = checked.0;
  }) else Err faults.Trailing
