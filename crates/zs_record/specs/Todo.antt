-- The datasets that a walk has still to pass.
use Rattle.std.specs.Prelude.{ℕ, ◌-◌, ◌^◌, ◌==◌, Bool, List, [], ◌∷◌, ◌++◌, Ok, Err, if◌then◌else◌}
use Rattle.std.specs.Int.{w32, w64}
use Rattle.std.specs.List.{list_any}
use Rattle.zs_phys.specs.declared.todos.Todo.{Todo}
use Rattle.zs_record.specs.declared.fault.RecordFault.TheVariants as faults
use Rattle.zs_record.specs.Reading.{Read, ◌>>=◌, items_of}
use Rattle.zs_record.specs.Numbers.{number_of, number_within}
use Rattle.zs_record.specs.Scan.{if_used}

-- one of the ids is this one
abbrev pub has_id : List ℕ → ℕ → Bool
has_id ids id = list_any (λ k. id == k) ids

-- an id that is none of these
unfoldable pub id_outside : List ℕ → List ℕ → Read ℕ
id_outside ids bytes = number_of w32 bytes >>= λ id. if has_id ids id.0 then Err faults.Order else Ok id

-- a dataset whose id is none of these, and its min
unfoldable pub todo_outside : List ℕ → List ℕ → Read Todo
todo_outside ids bytes = do
  id ← id_outside ids bytes
  min ← number_of w64 id.1
  Ok (record { id = record { 0 = id.0 }; min = min.0 }, min.1)

-- the ids of these datasets
abbrev pub ids_of : List Todo → List ℕ
ids_of [] = []
ids_of (t ∷ todos) = t.id.0 ∷ ids_of todos

-- a dataset that is none of these
abbrev pub todo_of : List Todo → List ℕ → Read Todo
todo_of before bytes = todo_outside (ids_of before) bytes

-- one more
abbrev pub with_todo : List Todo → Todo → List Todo
with_todo before t = before ++ t ∷ []

-- so many, none twice
abbrev pub todos_of : ℕ → List Todo → List ℕ → Read (List Todo)
todos_of count before bytes = items_of todo_of with_todo count before bytes

-- the queue of a scan that is running or not: how many datasets, and they
unfoldable pub queue_of : Bool → List ℕ → Read (List Todo)
queue_of scanning bytes = number_within w32 0 (if_used scanning (2 ^ 32 - 1)) bytes >>= λ count. todos_of count.0 [] count.1
