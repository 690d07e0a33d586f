-- Each turn of the walk leaves fewer turns, until nothing is left.
use Rattle.std.proofs.Common.{◌≡◌, ◌<◌, ◌≤◌, ◌+◌, ◌++◌, ℕ, Bool, false, List, refl, sym, ap, subst, ◌∙◌, arith}
use Rattle.std.specs.Prelude.{drop, IsTrue, Option, if◌then◌else◌}
use Rattle.std.specs.Ordering.{is_le}
use Rattle.zs_ids.specs.declared.key.Key.{Key}
use Rattle.zs_ids.specs.declared.block.Bp.{Bp}
use Rattle.zs_ids.specs.declared.dataset.DsId.{DsId}
use Rattle.zs_ids.specs.Key.{key_cmp, root_key}
use Rattle.zs_ids.specs.Graph.{Has, Dataset, Graph}
use Rattle.zs_ids.specs.GraphTree.{dataset_at, entries_of}
use Rattle.zs_ids.specs.GraphValid.{IsTree}
use Rattle.zs_phys.specs.declared.phys.At.{At}
use Rattle.zs_phys.specs.declared.phys.At.TheVariants.{Nowhere, Destroyed}
use Rattle.zs_phys.specs.declared.phys.At.TheVariants as ats
use Rattle.zs_phys.specs.declared.todos.Todo.{Todo}
use Rattle.zs_phys.specs.Turn.{skipped, behind, queued_at_end}
use Rattle.zs_phys.specs.Turn.Comes.{rests, leaves, skips, enters, meets, ends}
use Rattle.zs_graph.proofs.Graphs.{dataset_is}
use Rattle.zs_graph.proofs.Keys.{found_from}
use Rattle.zs_walk.specs.Left.{weight, turns_of, turns_below, turns_at, turns_queued, turns_from, turns_here, turns_left}
use Rattle.zs_walk.specs.Laws.{LeftLaw}
use Rattle.zs_walk.proofs.Sums.{at_most}
use Rattle.zs_walk.proofs.Passed.{some_weight, turns_fall}
use Rattle.zs_walk.proofs.Subtrees.{queued_both, queued_first, queued_end}

-- a dataset that was entered has fewer turns left than one that was not
entered : (g : Graph) (id : DsId) → turns_here g false (ats.Dataset id root_key) < turns_at g id
entered g id =
    let most : turns_from (entries_of (dataset_at g id)) root_key ≤ turns_of (entries_of (dataset_at g id)) = at_most (λ (e : Key × Bp). weight e.1) (λ (e : Key × Bp). is_le (key_cmp root_key e.0)) (entries_of (dataset_at g id)) in
    omega (arith, most)

-- behind a block that the pass has met there are fewer
met : (g : Graph) (n : ℕ) → IsTree g n → (again : Bool) (d : Dataset) (from : Key) (e : Key × Bp) → Has g d → Has d.entries e → IsTrue (is_le (key_cmp from e.0)) → turns_here g again (ats.Dataset d.id (record e.0 { depth = e.0.depth + 1 })) < turns_here g again (ats.Dataset d.id from)
met g n tree again d from e here holds at =
    let fall : turns_from (entries_of (dataset_at g d.id)) (record e.0 { depth = e.0.depth + 1 }) + weight e.1 ≤ turns_from (entries_of (dataset_at g d.id)) from = subst (λ (o : Option Dataset). turns_from (entries_of o) (record e.0 { depth = e.0.depth + 1 }) + weight e.1 ≤ turns_from (entries_of o) from) (sym (dataset_is g tree.in_order d d.id here refl)) (turns_fall d.entries from e holds at) in
    let some : 1 ≤ weight e.1 = some_weight e.1 in
    omega (arith, fall, some)

-- the law of the turns that are left
pub left_falls : LeftLaw
unfolding turns_left
left_falls g scope s _ may (rests no_work) some = absurd (some refl)
left_falls g scope s _ may (leaves w at) some =
    let after : turns_left g (skipped s.at s) ≡ 0 + turns_queued g s.todo = ap (λ (a : At). turns_left g (skipped a s)) at in
    let before : turns_here g s.again s.at ≡ 1 = ap (λ (a : At). turns_here g s.again a) at in
    omega (arith, after, before)
left_falls g scope s _ may (skips q qs w at todo over) some =
    let after : turns_left g (skipped s.at s) ≡ turns_here g s.again s.at + turns_queued g (drop 1 s.todo) = ap (λ (a : At). turns_left g (skipped a s)) at in
    let rest : turns_queued g (drop 1 s.todo) ≡ turns_queued g qs = ap (λ (l : List Todo). turns_queued g (drop 1 l)) todo in
    let first : turns_queued g s.todo ≡ turns_at g q.id + turns_queued g qs = ap (λ (l : List Todo). turns_queued g l) todo ∙ queued_first g q qs in
    omega (arith, after, rest, first)
left_falls g scope s _ may (enters q qs w at todo under) some =
    let rest : turns_queued g (drop 1 s.todo) ≡ turns_queued g qs = ap (λ (l : List Todo). turns_queued g (drop 1 l)) todo in
    let first : turns_queued g s.todo ≡ turns_at g q.id + turns_queued g qs = ap (λ (l : List Todo). turns_queued g l) todo ∙ queued_first g q qs in
    let less : turns_here g false (ats.Dataset q.id root_key) < turns_at g q.id = entered g q.id in
    omega (arith, rest, first, less)
left_falls g scope s _ may (meets d k e w here at found) some =
    let f = found_from d.entries k s.curmin e found in
    let after : turns_here g s.again (behind s.at e.0) ≡ turns_here g s.again (ats.Dataset d.id (record e.0 { depth = e.0.depth + 1 })) = ap (λ (a : At). turns_here g s.again (behind a e.0)) at in
    let before : turns_here g s.again s.at ≡ turns_here g s.again (ats.Dataset d.id k) = ap (λ (a : At). turns_here g s.again a) at in
    let less : turns_here g s.again (ats.Dataset d.id (record e.0 { depth = e.0.depth + 1 })) < turns_here g s.again (ats.Dataset d.id k) = met g may.n may.valid.graph.tree s.again d k e here f.0 f.1 in
    omega (arith, after, before, less)
left_falls g scope s _ may (ends d k w here at none) some =
    let both : turns_queued g (s.todo ++ queued_at_end g s d.id) ≡ turns_queued g s.todo + turns_queued g (queued_at_end g s d.id) = queued_both g s.todo (queued_at_end g s d.id) in
    let before : turns_here g s.again s.at ≡ turns_here g s.again (ats.Dataset d.id k) = ap (λ (a : At). turns_here g s.again a) at in
    let most : turns_queued g (queued_at_end g s d.id) ≤ (if s.again then turns_at g d.id else turns_below g d.id) = queued_end g may.n may.valid.graph.tree s d.id in
    omega (arith, both, before, most)
