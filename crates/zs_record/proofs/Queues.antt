-- The queue and the devices' sets have one spelling.
use Rattle.std.proofs.Common.{◌≡◌, ℕ, suc, ◌+◌, ◌-◌, ◌^◌, ◌<◌, ◌≤◌, Bool, true, false, List, [], ◌∷◌, ◌++◌, All, length, refl, arith}
use Rattle.std.specs.Int.{w32, w64}
use Rattle.std.specs.List.{flat_map}
use Rattle.std.proofs.lemmas.List.Elements.{All-nil, All-cons}
use Rattle.zs_phys.specs.declared.todos.Todo.{Todo}
use Rattle.zs_ranges.specs.declared.set.Interval.{Interval}
use Rattle.zs_record.specs.declared.fault.RecordFault.TheVariants as faults
use Rattle.zs_record.specs.Numbers.{number_of, number_within, number_bytes, is_outside}
use Rattle.zs_record.specs.Laws.{IsPart, FitAll, IsSet}
use Rattle.zs_record.specs.Logs.{set_of, logs_of}
use Rattle.zs_record.specs.Scan.{if_used}
use Rattle.zs_record.specs.Spelling.{set_bytes}
use Rattle.zs_record.specs.StoredSpelling.{todo_bytes, queue_bytes}
use Rattle.zs_record.specs.Todo.{has_id, id_outside, todo_outside, ids_of, todo_of, with_todo, todos_of, queue_of}
use Rattle.zs_record.specs.StoredLaws.{IsTodo, IsQueue, AreLogs}
use Rattle.zs_record.proofs.Parts.{wide32, wide64, number_part, within_part, refused_part, bind_part, same_part}
use Rattle.zs_record.proofs.Items.{AreItems, items_part}
use Rattle.zs_record.proofs.Spans.{set_part}
use Rattle.zs_record.proofs.Pairs.{then_read, made_read, pair_part, made_part, restated, bind_bind, inside, not_outside}

-- ---- the queue

outside_part : (ids : List ℕ) → IsPart (id_outside ids) (number_bytes w32) (λ id. (id < 2 ^ 32) × (has_id ids id ≡ false))
unfolding id_outside
outside_part ids = refused_part (number_of w32) (number_bytes w32) (λ n. n < 2 ^ 32) (number_part w32 (2 ^ 32) wide32) (has_id ids) faults.Order

todo_same : (ids : List ℕ) (bytes : List ℕ)
    → made_read (λ x. record { id = record { 0 = x.0 }; min = x.1 }) (then_read (id_outside ids) (λ id. number_of w64)) bytes ≡ todo_outside ids bytes
unfolding todo_outside
todo_same ids bytes = simp bind_bind

todo_part : (before : List Todo) → IsPart (todo_of before) todo_bytes (IsTodo before)
unfolding todo_bytes
todo_part before =
    restated (made_part (pair_part (outside_part (ids_of before)) (λ id it. number_part w64 (2 ^ 64) wide64)) (λ x. record { id = record { 0 = x.0 }; min = x.1 }) (λ t. (t.id.0, t.min)) (λ x is. refl))
    (todo_same (ids_of before)) (λ t is. refl)
    (λ t is. record { id = is.1.0.0; other = is.1.0.1; min = is.1.1 })
    (λ t is. (refl, ((is.id, is.other), is.min)))

todos_part : (count : ℕ) (before : List Todo) → IsPart (todos_of count before) (flat_map todo_bytes) (AreItems IsTodo with_todo count before)
todos_part count before = items_part todo_of todo_bytes IsTodo with_todo todo_part count before

queue_low : (scanning : Bool) (n : ℕ) → n ≤ if_used scanning (2 ^ 32 - 1) → (n < 2 ^ 32) × (is_outside 0 (if_used scanning (2 ^ 32 - 1)) n ≡ false)
queue_low true n le = (omega (arith, le), not_outside 0 (2 ^ 32 - 1) n (omega arith) le)
queue_low false n le = (omega (arith, le), not_outside 0 0 n (omega arith) le)

pub queue_part : (scanning : Bool) → IsPart (queue_of scanning) queue_bytes (IsQueue scanning)
unfolding queue_of queue_bytes
queue_part scanning =
    same_part (queue_of scanning) (λ todos. number_bytes w32 (length todos) ++ flat_map todo_bytes todos) queue_bytes
    (λ todos. ((length todos < 2 ^ 32) × (is_outside 0 (if_used scanning (2 ^ 32 - 1)) (length todos) ≡ false)) × AreItems IsTodo with_todo (length todos) [] todos)
    (IsQueue scanning) (λ todos. refl)
    (λ todos is. record { many = (inside 0 (if_used scanning (2 ^ 32 - 1)) (length todos) is.0.1).1; fit = is.1.fit })
    (λ todos is. (queue_low scanning (length todos) is.many, record { many = refl; fit = is.fit }))
    (bind_part (number_within w32 0 (if_used scanning (2 ^ 32 - 1))) (number_bytes w32) (λ n. (n < 2 ^ 32) × (is_outside 0 (if_used scanning (2 ^ 32 - 1)) n ≡ false))
    (within_part w32 (2 ^ 32) wide32 0 (if_used scanning (2 ^ 32 - 1))) (λ count. todos_of count.0 [] count.1)
    (flat_map todo_bytes) length (λ n todos. AreItems IsTodo with_todo n [] todos) (λ n todos is. is.many) (λ n. todos_part n []))

-- ---- the devices' sets

all_fit : (most last dev : ℕ) (logs : List (List Interval)) → FitAll (λ (dev : ℕ). IsSet most last) (λ dev spans. dev + 1) dev logs → All (IsSet most last) logs
all_fit most last dev [] fit = All-nil (IsSet most last)
all_fit most last dev (spans ∷ logs) fit = All-cons (IsSet most last) spans logs fit.0 (all_fit most last (dev + 1) logs fit.1)

fit_all : (most last dev : ℕ) (logs : List (List Interval)) → All (IsSet most last) logs → FitAll (λ (dev : ℕ). IsSet most last) (λ dev spans. dev + 1) dev logs
fit_all most last dev [] fit = tt
fit_all most last dev (spans ∷ logs) fit = (fit 0 [] (omega arith), fit_all most last (dev + 1) logs (λ k d lt. fit (suc k) d (omega (arith, lt))))

pub logs_part : (most last count : ℕ) → most < 2 ^ 32 → last < 2 ^ 64 → IsPart (logs_of most last count) (flat_map set_bytes) (AreLogs most last count)
logs_part most last count few end =
    same_part (logs_of most last count) (flat_map set_bytes) (flat_map set_bytes) (AreItems (λ (dev : ℕ). IsSet most last) (λ dev spans. dev + 1) count 0) (AreLogs most last count)
    (λ logs. refl) (λ logs is. record { many = is.many; fit = all_fit most last 0 logs is.fit }) (λ logs is. record { many = is.many; fit = fit_all most last 0 logs is.fit })
    (items_part (λ (dev : ℕ). set_of most last) set_bytes (λ (dev : ℕ). IsSet most last) (λ dev spans. dev + 1) (λ dev. set_part most last few end) count 0)
