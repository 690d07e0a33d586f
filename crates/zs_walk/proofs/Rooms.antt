-- The state after a turn belongs to the graph; so its pending datasets are distinct ones, and the queue has room.
use Rattle.std.proofs.Common.{◌≡◌, ◌<◌, ◌≤◌, ◌+◌, ◌++◌, Bool, true, false, not, cond, List, [], ◌∷◌, refl, sym, ap, subst, arith}
use Rattle.std.specs.Prelude.{map, filter, length}
use Rattle.std.proofs.lemmas.Bool.{false_from_ne_true}
use Rattle.std.proofs.lemmas.List.{length-map, length-append}
use Rattle.zs_ids.specs.declared.block.Piece.{Piece}
use Rattle.zs_ids.specs.declared.dataset.DsId.{DsId}
use Rattle.zs_ids.specs.Graph.{Has, Dataset, Graph}
use Rattle.zs_ids.specs.GraphTree.{is_id}
use Rattle.zs_phys.specs.declared.scope.Scope.{Scope}
use Rattle.zs_phys.specs.declared.phys.Phys.{Phys}
use Rattle.zs_phys.specs.declared.step.Step.{Step}
use Rattle.zs_phys.specs.declared.step.Step.TheVariants as steps
use Rattle.zs_phys.specs.declared.todos.Todo.{Todo}
use Rattle.zs_phys.specs.Sound.{AreDistinct}
use Rattle.zs_phys.specs.Turn.{Comes, advanced, put_by, queued_at_end}
use Rattle.zs_cover.specs.Laws.{IsCovered}
use Rattle.zs_graph.proofs.Lists.{has-filter, has-map}
use Rattle.zs_graph.proofs.Graphs.{id_is, is_id-same}
use Rattle.zs_cover.proofs.Rests.{later_keeps}
use Rattle.zs_cover.proofs.Turns.{turn_keeps}
use Rattle.zs_walk.specs.Walking.{MayWalk}
use mathlib.Core.Logic.{inl, inr}

-- a filter keeps at most all, and less where it takes one out
filter_most : (test : DsId → Bool) (xs : List DsId) → length (filter test xs) ≤ length xs
filter_most test [] = omega arith
filter_most test (x ∷ xs) = go (test x) (filter_most test xs)
  where
    go : (b : Bool) → length (filter test xs) ≤ length xs → length (cond b (x ∷ filter test xs) (filter test xs)) ≤ length (x ∷ xs)
    go true more = omega (arith, more)
    go false more = omega (arith, more)

filter_less : (test : DsId → Bool) (xs : List DsId) (x : DsId) → Has xs x → test x ≡ false → length (filter test xs) < length xs
filter_less test [] x h off = absurd h
filter_less test (y ∷ ys) x (inl e) off =
    let most : length (filter test ys) ≤ length ys = filter_most test ys in
    let is : length (filter test (y ∷ ys)) ≡ length (filter test ys) = ap (λ (b : Bool). length (cond b (y ∷ filter test ys) (filter test ys))) (subst (λ (z : DsId). test z ≡ false) (sym e) off) in
    omega (arith, most, is)
filter_less test (y ∷ ys) x (inr h) off = go (test y) (filter_less test ys x h off)
  where
    go : (b : Bool) → length (filter test ys) < length ys → length (cond b (y ∷ filter test ys) (filter test ys)) < length (y ∷ ys)
    go true more = omega (arith, more)
    go false more = omega (arith, more)

-- the ids other than this one
abbrev is_other : DsId → DsId → Bool
is_other x y = not (is_id y x)

not_false : (b : Bool) → b ≡ false → not b ≡ true
not_false b e = ap not e

-- distinct ids, each of a list, are at most as many as that has
pub distinct_few : (xs ys : List DsId) → AreDistinct xs → ((x : DsId) → Has xs x → Has ys x) → length xs ≤ length ys
distinct_few [] ys once within = omega arith
distinct_few (x ∷ xs) ys once within =
    let fewer : length (filter (is_other x) ys) < length ys = filter_less (is_other x) ys x (within x (inl refl)) (ap not (is_id-same x x refl)) in
    let rest : length xs ≤ length (filter (is_other x) ys) = distinct_few xs (filter (is_other x) ys) once.1 (λ y h. has-filter (is_other x) ys y (within y (inr h)) (not_false (is_id y x) (false_from_ne_true (is_id y x) (λ t. once.0 (subst (λ (z : DsId). Has xs z) (id_is y x t) h))))) in
    omega (arith, fewer, rest)

-- where all is done a state that belongs to the graph covers
all_done : (g : Graph) (scope : Scope) (s : Phys) (may : MayWalk g scope s) → IsCovered may.room g may.n may.h scope s (λ (p : Piece). true)
all_done g scope s may = record {
  early = may.early;
  valid = may.valid;
  sound = may.sound;
  covers = record { covered = λ claim d e p home piece in_range. inl refl };
}

-- the state after a turn belongs to the graph
pub may_more : (g : Graph) (scope : Scope) (s : Phys) (step : Step) → MayWalk g scope s → Comes g scope s step → MayWalk g scope (advanced g scope s step)
may_more g scope s step may comes =
    let k = may.h + scope.max in
    let later : IsCovered may.room g may.n (may.h + scope.max) scope s (λ (p : Piece). true) = later_keeps may.room g may.n may.h (may.h + scope.max) scope s (λ (p : Piece). true) (λ (p : Piece). true) (all_done g scope s may) (omega arith) (λ p live y. y) in
    let after : IsCovered may.room g may.n (may.h + scope.max) scope (advanced g scope s step) (λ (p : Piece). true) = turn_keeps may.room g may.n (may.h + scope.max) scope s (advanced g scope s step) (λ (p : Piece). true) (λ (p : Piece). true) (put_by scope (λ (p : Piece). true) s step) later (omega arith) (record { step = step; comes = comes; becomes = refl; puts = refl }) (λ p live y. y) (λ p i. refl) in
    record { room = may.room; n = may.n; h = may.h + scope.max; early = after.early; valid = after.valid; sound = after.sound }

-- the queue after the end of a pass has at most as many datasets as there are
pub end_room : (g : Graph) (scope : Scope) (s : Phys) (id : DsId) → MayWalk g scope s → Comes g scope s (steps.End id) → length s.todo + length (queued_at_end g s id) ≤ 255
end_room g scope s id may comes =
    let after : MayWalk g scope (advanced g scope s (steps.End id)) = may_more g scope s (steps.End id) may comes in
    let sound = after.sound in
    let few : length (map (λ (q : Todo). q.id) (s.todo ++ queued_at_end g s id)) ≤ length (map (λ (d : Dataset). d.id) g) = distinct_few (map (λ (q : Todo). q.id) (s.todo ++ queued_at_end g s id)) (map (λ (d : Dataset). d.id) g) sound.once (λ x h. let o = sound.exist x h in subst (λ (y : DsId). Has (map (λ (d : Dataset). d.id) g) y) o.named (has-map (λ (d : Dataset). d.id) g o.dataset o.here)) in
    let a = length-map (s.todo ++ queued_at_end g s id) (λ (q : Todo). q.id) in
    let b = length-map g (λ (d : Dataset). d.id) in
    let c = length-append s.todo (queued_at_end g s id) in
    let most : length g ≤ 255 = may.valid.graph.tree.few in
    omega (arith, few, a, b, c, most)

-- and so does each state that is the one after it
pub turned : (g : Graph) (scope : Scope) (s t : Phys) (step is : Step) → MayWalk g scope s → Comes g scope s step → step ≡ is → t ≡ advanced g scope s is → MayWalk g scope t
turned g scope s t step is may comes same after =
    subst (λ (x : Phys). MayWalk g scope x) (sym after) (may_more g scope s is may (subst (λ (x : Step). Comes g scope s x) same comes))
