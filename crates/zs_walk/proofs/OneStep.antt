-- One turn comes at most: it is a function of the state.
use Rattle.std.proofs.Common.{◌≡◌, ◌&&◌, max, Bool, true, false, not, List, [], ◌∷◌, refl, sym, ap, ◌∙◌}
use Rattle.std.specs.Prelude.{Option, Some, None, nat_le, if◌then◌else◌}
use Rattle.std.proofs.lemmas.Bool.{le-leb, lt-leb}
use Rattle.zs_ids.specs.declared.key.Key.{Key}
use Rattle.zs_ids.specs.declared.block.Bp.{Bp}
use Rattle.zs_ids.specs.declared.dataset.DsId.{DsId}
use Rattle.zs_ids.specs.Blocks.{first_from}
use Rattle.zs_ids.specs.Graph.{Dataset, Graph}
use Rattle.zs_phys.specs.declared.scope.Scope.{Scope}
use Rattle.zs_phys.specs.declared.phys.Phys.{Phys}
use Rattle.zs_phys.specs.declared.phys.At.{At}
use Rattle.zs_phys.specs.declared.phys.At.TheVariants.{Nowhere, Destroyed}
use Rattle.zs_phys.specs.declared.phys.At.TheVariants as ats
use Rattle.zs_phys.specs.declared.phys.Status.{Status}
use Rattle.zs_phys.specs.declared.phys.Status.TheVariants.{Never, Scanning, Finished, Canceled}
use Rattle.zs_phys.specs.declared.step.Step.{Step}
use Rattle.zs_phys.specs.declared.step.Step.TheVariants as steps
use Rattle.zs_phys.specs.declared.todos.Todo.{Todo}
use Rattle.zs_phys.specs.Turn.{Comes, IsWalking, HasNoWork}
use Rattle.zs_phys.specs.Turn.Comes.{rests, leaves, skips, enters, meets, ends}
use Rattle.zs_phys.specs.Turn.HasNoWork.{no_scan, paused, none_left}
use Rattle.zs_graph.proofs.Graphs.{dataset_is}
use Rattle.zs_ids.specs.GraphTree.{entries_of, next_in}
use Rattle.zs_walk.specs.Walking.{MayWalk, is_walking, runs}
use Rattle.zs_walk.specs.Laws.{OneStepLaw}

-- the turn at the head of the queue, at a block or at the end of a dataset, and in any state
abbrev queue_step : Scope → List Todo → Step
queue_step scope [] = steps.Nothing
queue_step scope (q ∷ qs) = if nat_le scope.max (max scope.min q.min) then steps.Skip else steps.Enter q.id q.min

abbrev block_step : DsId → Option (Key × Bp) → Step
block_step id None = steps.End id
block_step id (Some e) = steps.At e.0 e.1

abbrev at_step : Graph → Scope → Phys → At → Step
at_step g scope s Nowhere = queue_step scope s.todo
at_step g scope s Destroyed = steps.Skip
at_step g scope s (ats.Dataset id k) = block_step id (next_in g id k s.curmin)

abbrev step_of : Graph → Scope → Phys → Step
step_of g scope s = if is_walking s then at_step g scope s s.at else steps.Nothing

-- whether the walk may go on
no_run : (s : Phys) → (s.status ≡ Scanning → ⊥) → runs s.status ≡ false
no_run s ne = go s.status refl
  where
    go : (a : Status) → s.status ≡ a → runs a ≡ false
    go Never is = refl
    go Scanning is = absurd (ne is)
    go Finished is = refl
    go Canceled is = refl

and_false : (b : Bool) → (b && false) ≡ false
and_false true = refl
and_false false = refl

on : (s : Phys) → IsWalking s → is_walking s ≡ true
on s w = ap (λ (a : Status). runs a && not s.paused) w.scans ∙ ap (λ (b : Bool). true && not b) w.goes_on

nothing_both : (b : Bool) (x : Step) → x ≡ steps.Nothing → (if b then x else steps.Nothing) ≡ steps.Nothing
nothing_both true x e = e
nothing_both false x e = refl

module _ (g : Graph) (scope : Scope) (s : Phys) (may : MayWalk g scope s) where
  walking_is : (at : At) (step : Step) → IsWalking s → s.at ≡ at → at_step g scope s at ≡ step → step_of g scope s ≡ step
  walking_is at step w here is =
      ap (λ (b : Bool). if b then at_step g scope s s.at else steps.Nothing) (on s w) ∙ ap (λ (a : At). at_step g scope s a) here ∙ is

  nothing_is : HasNoWork s → step_of g scope s ≡ steps.Nothing
  nothing_is (no_scan ne) =
      ap (λ (b : Bool). if b && not s.paused then at_step g scope s s.at else steps.Nothing) (no_run s ne)
  nothing_is (paused is) =
      ap (λ (b : Bool). if runs s.status && not b then at_step g scope s s.at else steps.Nothing) is ∙ ap (λ (b : Bool). if b then at_step g scope s s.at else steps.Nothing) (and_false (runs s.status))
  nothing_is (none_left at todo) =
      nothing_both (is_walking s) (at_step g scope s s.at) (ap (λ (a : At). at_step g scope s a) at ∙ ap (λ (l : List Todo). queue_step scope l) todo)

  found_is : (d : Dataset) (k : Key) (r : Option (Key × Bp)) → next_in g d.id k s.curmin ≡ r → at_step g scope s (ats.Dataset d.id k) ≡ block_step d.id r
  found_is d k r e = ap (λ (o : Option (Key × Bp)). block_step d.id o) e

  step_is : (step : Step) → Comes g scope s step → step_of g scope s ≡ step
  step_is _ (rests no_work) = nothing_is no_work
  step_is _ (leaves w at) = walking_is Destroyed steps.Skip w at refl
  step_is _ (skips q qs w at todo over) =
      walking_is Nowhere steps.Skip w at (ap (λ (l : List Todo). queue_step scope l) todo ∙ ap (λ (b : Bool). if b then steps.Skip else steps.Enter q.id q.min) (le-leb scope.max (max scope.min q.min) over))
  step_is _ (enters q qs w at todo under) =
      walking_is Nowhere (steps.Enter q.id q.min) w at (ap (λ (l : List Todo). queue_step scope l) todo ∙ ap (λ (b : Bool). if b then steps.Skip else steps.Enter q.id q.min) (lt-leb scope.max (max scope.min q.min) under))
  step_is _ (meets d k e w here at found) =
      walking_is (ats.Dataset d.id k) (steps.At e.0 e.1) w at (found_is d k (Some e) (ap (λ (o : Option Dataset). first_from (entries_of o) k s.curmin) (dataset_is g may.valid.graph.tree.in_order d d.id here refl) ∙ found))
  step_is _ (ends d k w here at none) =
      walking_is (ats.Dataset d.id k) (steps.End d.id) w at (found_is d k None (ap (λ (o : Option Dataset). first_from (entries_of o) k s.curmin) (dataset_is g may.valid.graph.tree.in_order d d.id here refl) ∙ none))

-- the law of the one turn
pub one_step : OneStepLaw
one_step g scope s a b may first second = sym (step_is g scope s may a first) ∙ step_is g scope s may b second
