-- The end of a whole pass: the children are queued, each from the dataset's creation on.
use Rattle.std.proofs.Common.{◌≡◌, ◌++◌, ℕ, Bool, true, false, List, [], ◌∷◌, refl, sym, ap, ◌∙◌}
use Rattle.std.specs.Prelude.{map, unwrap_or, Option, Some, None, if◌then◌else◌}
use Rattle.zs_ids.specs.declared.dataset.DsId.{DsId}
use Rattle.zs_ids.specs.Graph.{Has, Dataset, Graph}
use Rattle.zs_ids.specs.GraphTree.{is_id, dataset_at, created, children_of, taken_at}
use Rattle.zs_phys.specs.declared.phys.Phys.{Phys}
use Rattle.zs_phys.specs.declared.todos.Todo.{Todo}
use Rattle.zs_phys.specs.Turn.{left, entry, queued_at_end}
use Rattle.zs_graph.proofs.Lists.{from-find}
use Rattle.zs_walk.specs.Walking.{AreHeadsUndated}

-- when a dataset was created, from what a graph answers
pub least_is : (g : Graph) (id : DsId) → AreHeadsUndated g → unwrap_or (taken_at (dataset_at g id)) 0 ≡ created (dataset_at g id)
least_is g id heads = go (dataset_at g id) (λ d e. (from-find (λ (x : Dataset). is_id x.id id) g d e).0)
  where
    by_head : (d : Dataset) → Has g d → (b : Bool) → d.head ≡ b → unwrap_or (if b then None else Some d.creation) 0 ≡ d.creation
    by_head d here true is = sym (heads d here is)
    by_head d here false is = refl

    go : (o : Option Dataset) → ((d : Dataset) → o ≡ Some d → Has g d) → unwrap_or (taken_at o) 0 ≡ created o
    go None here = refl
    go (Some d) here = by_head d (here d refl) d.head refl

-- the state after it
pub end_is : (g : Graph) (s t : Phys) (id : DsId) (least : ℕ) (todo : List Todo) → s.again ≡ false → least ≡ created (dataset_at g id) → t ≡ left s → todo ≡ t.todo ++ map (entry least) (children_of g id) → record t { todo = todo } ≡ record (left s) { todo = s.todo ++ queued_at_end g s id }
end_is g s t id least todo whole is left_is put =
    let queued : queued_at_end g s id ≡ map (entry least) (children_of g id) = ap (λ (b : Bool). if b then entry s.curmax id ∷ [] else map (entry (created (dataset_at g id))) (children_of g id)) whole ∙ ap (λ (n : ℕ). map (entry n) (children_of g id)) (sym is) in
    ap (λ (x : Phys). record x { todo = todo }) left_is ∙ ap (λ (l : List Todo). record (left s) { todo = l }) (put ∙ ap (λ (x : Phys). x.todo ++ map (entry least) (children_of g id)) left_is ∙ ap (λ (l : List Todo). s.todo ++ l) (sym queued))
