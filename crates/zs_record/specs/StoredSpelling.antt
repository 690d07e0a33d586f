-- How a record is spelled.
use Rattle.std.specs.Prelude.{◌<◌, ◌^◌, ℕ, List, ◌++◌, length, flat_map, All}
use Rattle.std.specs.Int.{w32, w64}
use Rattle.zs_phys.specs.declared.todos.Todo.{Todo}
use Rattle.zs_record.specs.declared.mirrors.Mirrors.{Mirrors}
use Rattle.zs_record.specs.Numbers.{number_bytes}
use Rattle.zs_record.specs.ScanSpelling.{running_bytes, pass_bytes}
use Rattle.zs_record.specs.Spelling.{head_bytes, stored_set_bytes, set_bytes, ledger_bytes}
use Rattle.zs_record.specs.Stored.{Parts}

-- a dataset that is still to be passed, and its min
unfoldable pub todo_bytes : Todo → List ℕ
todo_bytes t = number_bytes w32 t.id.0 ++ number_bytes w64 t.min

-- the queue: how many, and they
unfoldable pub queue_bytes : List Todo → List ℕ
queue_bytes todo = number_bytes w32 (length todo) ++ flat_map todo_bytes todo

-- a record of a pool with these mirrors, part by part
unfoldable pub stored_bytes : Mirrors → Parts → List ℕ
stored_bytes mirrors p =
    head_bytes mirrors p.head ++ flat_map stored_set_bytes p.sets ++ flat_map set_bytes p.logs ++ running_bytes p.running ++ pass_bytes p.pass
    ++ queue_bytes p.todo ++ flat_map set_bytes p.dirty0 ++ ledger_bytes p.checked

-- each list of the record has a count of four bytes
pub record HaveCounts (p : Parts) : Type 0 where
  pub sets : All (λ set. length set.entries < 2 ^ 32) p.sets
  pub logs : All (λ spans. length spans < 2 ^ 32) p.logs
  pub todo : length p.todo < 2 ^ 32
  pub dirty0 : All (λ spans. length spans < 2 ^ 32) p.dirty0
  pub checked : length p.checked < 2 ^ 32
