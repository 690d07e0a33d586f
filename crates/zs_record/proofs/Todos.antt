-- Datasets that are read one after the other, with a set of their ids.
use Rattle.std.proofs.Common.{◌≡◌, ◌==◌, ◌||◌, ℕ, ◌-◌, ◌+◌, ◌≤◌, ◌<◌, Bool, true, false, cond, List, [], ◌∷◌, ◌++◌, Ok, Err, refl, sym, ap, ◌∙◌, arith}
use Rattle.zs_phys.specs.declared.todos.Todo.{Todo}
use Rattle.zs_record.specs.declared.fault.RecordFault.{RecordFault}
use Rattle.zs_record.specs.declared.fault.RecordFault.TheVariants as faults
use Rattle.zs_record.specs.Reading.{Read, ◌>>=◌, Fails}
use Rattle.zs_record.specs.Numbers.{number_of}
use Rattle.zs_record.specs.Todo.{has_id, id_outside, todo_outside, ids_of, todo_of, with_todo, todos_of}
use Rattle.zs_record.proofs.Loops.{with_front, goes_on, ends_or_wants, is_done}

-- what the loop keeps: what was read, and what is left, is all; and the ids in the set are those of what was read
pub record IsQueueing (todos : List Todo) (ids : List ℕ) (count i : ℕ) (rest : List ℕ) (total : Read (List Todo)) : Type 0 where
  pub read : with_front todos (todos_of (count - i) todos rest) ≡ total
  pub same : (n : ℕ) → has_id ids n ≡ has_id (ids_of todos) n

-- a test of ids alone decides
same_id : (a b : List ℕ) → ((n : ℕ) → has_id a n ≡ has_id b n) → (r : Read ℕ)
    → (r >>= λ id. cond (has_id a id.0) (Err faults.Order) (Ok id)) ≡ (r >>= λ id. cond (has_id b id.0) (Err faults.Order) (Ok id))
same_id a b same (Ok id) = rw (same id.0) refl
same_id a b same (Err fault) = refl

same_todo : (a b : List ℕ) (bytes : List ℕ) → ((n : ℕ) → has_id a n ≡ has_id b n) → todo_outside a bytes ≡ todo_outside b bytes
unfolding todo_outside id_outside
same_todo a b bytes same = rw (same_id a b same (number_of _ bytes)) refl

ids-push : (todos : List Todo) (t : Todo) (n : ℕ) → has_id (ids_of (todos ++ t ∷ [])) n ≡ cond (t.id.0 == n) true (has_id (ids_of todos) n)
ids-push [] t n = one (n == t.id.0) (t.id.0 == n) (flipped n t.id.0)
  where
    flipped : (m n : ℕ) → (m == n) ≡ (n == m)
    flipped m n = grind arith

    one : (a b : Bool) → a ≡ b → (a || false) ≡ cond b true false
    one true b e = rw (← e) refl
    one false b e = rw (← e) refl
ids-push (x ∷ todos) t n = rw (ids-push todos t n) (moved (n == x.id.0) (t.id.0 == n) (has_id (ids_of todos) n))
  where
    moved : (a b c : Bool) → (a || cond b true c) ≡ cond b true (a || c)
    moved true true c = refl
    moved true false c = refl
    moved false true c = refl
    moved false false c = refl

pub goes_on_queueing : (todos : List Todo) (ids more : List ℕ) (count i : ℕ) (rest : List ℕ) (total : Read (List Todo)) (t : Todo) (after : List ℕ)
    → i < count → todo_outside ids rest ≡ Ok (t, after) → ((n : ℕ) → has_id more n ≡ cond (t.id.0 == n) true (has_id ids n))
    → IsQueueing todos ids count i rest total → IsQueueing (todos ++ t ∷ []) more count (i + 1) after total
goes_on_queueing todos ids more count i rest total t after lt read joined so_far = record {
  read = goes_on todo_of with_todo todos count i todos rest t after total lt (sym (same_todo ids (ids_of todos) rest so_far.same) ∙ read) so_far.read;
  same = λ n. joined n ∙ ap (λ (b : Bool). cond (t.id.0 == n) true b) (so_far.same n) ∙ sym (ids-push todos t n);
}

pub ends_queueing : (todos : List Todo) (ids : List ℕ) (count i : ℕ) (rest : List ℕ) (total : Read (List Todo)) (fault : RecordFault)
    → i < count → Fails fault (todo_outside ids rest) → IsQueueing todos ids count i rest total → Fails fault total
ends_queueing todos ids count i rest total fault lt failed so_far =
    ends_or_wants todo_of with_todo todos count i todos rest fault total lt (rw (same_todo ids (ids_of todos) rest so_far.same) at failed) so_far.read

pub is_queued : (todos : List Todo) (ids : List ℕ) (count i : ℕ) (rest : List ℕ) (total : Read (List Todo)) → count ≤ i → IsQueueing todos ids count i rest total → total ≡ Ok (todos, rest)
is_queued todos ids count i rest total le so_far = is_done todo_of with_todo todos count i todos rest total le so_far.read
