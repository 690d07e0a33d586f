-- A loop that puts the datasets of a queue into other places.
use Rattle.std.proofs.Common.{◌≡◌, ◌<◌, ◌+◌, ◌++◌, ℕ, List, map, take, drop, length, get_or, set, ap, ◌∙◌}
use Rattle.std.proofs.lemmas.List.{get_or_default}
use Rattle.std.proofs.lemmas.List.Edits.{map_over_more}
use Rattle.zs_ids.specs.declared.dataset.DsId.{DsId}
use Rattle.zs_phys.specs.declared.todos.Todo.{Todo}
use Rattle.zs_phys.specs.Handlers.{entry_at}

-- one more entry is written
pub place_more : (place : DsId → DsId) (xs ys : List Todo) (i : ℕ) (d : Todo) (id : DsId) → i < length xs → i < length ys → ys ≡ map (entry_at place) (take i xs) ++ drop i xs → id ≡ place (get_or ys i d).id → set ys i (record { id = id; min = (get_or ys i d).min }) ≡ map (entry_at place) (take (i + 1) xs) ++ drop (i + 1) xs
place_more place xs ys i d id within inside so_far is =
    ap (λ (x : DsId). let q : Todo = record { id = x; min = (get_or ys i d).min } in set ys i q) is ∙ map_over_more (entry_at place) xs ys i (get_or ys i d) within so_far (get_or_default ys i d (get_or ys i d) inside)
