-- The turn that is computed is the one that comes.
use Rattle.std.proofs.Common.{◌≡◌, ◌<◌, ◌≤◌, max, Bool, true, false, not, cond, List, [], ◌∷◌, refl, sym, ap, subst, ◌∙◌, Option, Some, None, MatchOption, option_map}
use Rattle.std.specs.Prelude.{nat_le}
use Rattle.std.specs.Bool.{Decides}
use Rattle.std.proofs.lemmas.Bool.{true≢false, cond-true, cond-false, leb-true, leb-false, le-leb, lt-leb, not-true, not_from_false, and_parts, and_from}
use Rattle.zs_ids.specs.declared.key.Key.{Key}
use Rattle.zs_ids.specs.declared.block.Bp.{Bp}
use Rattle.zs_ids.specs.declared.dataset.DsId.{DsId}
use Rattle.zs_ids.specs.Blocks.{first_from}
use Rattle.zs_ids.specs.Graph.{Has, Dataset, Graph}
use Rattle.zs_ids.specs.GraphTree.{is_id, dataset_at}
use Rattle.zs_ids.specs.GraphValid.{IsInIdOrder}
use Rattle.zs_phys.specs.declared.scope.Scope.{Scope}
use Rattle.zs_phys.specs.declared.phys.Phys.{Phys}
use Rattle.zs_phys.specs.declared.phys.At.{At}
use Rattle.zs_phys.specs.declared.phys.At.TheVariants.{Nowhere, Destroyed}
use Rattle.zs_phys.specs.declared.phys.At.TheVariants as ats
use Rattle.zs_phys.specs.declared.phys.Status.{Status}
use Rattle.zs_phys.specs.declared.phys.Status.TheVariants.{Never, Scanning, Finished, Canceled}
use Rattle.zs_phys.specs.declared.step.Step.{Step}
use Rattle.zs_phys.specs.declared.step.Step.TheVariants as steps
use Rattle.zs_phys.specs.declared.todos.Todo.{Todo}
use Rattle.zs_phys.specs.Turn.{IsWalking, HasNoWork, Comes}
use Rattle.zs_phys.specs.Turn.HasNoWork.{no_scan, paused, none_left}
use Rattle.zs_phys.specs.Turn.Comes.{rests, leaves, skips, enters, meets, ends}
use Rattle.zs_graph.proofs.Lists.{from-find, none-find, some_is, some≢none}
use Rattle.zs_graph.proofs.Graphs.{id_is, is_id-same, dataset_is}
use Rattle.zs_plain.specs.TurnTests.{is_scanning, is_walking, queue_step, block_step, walk_step, next_step}

scanning≢never : Scanning ≡ Never → ⊥
scanning≢never e = true≢false (ap is_scanning e)

scanning≢finished : Scanning ≡ Finished → ⊥
scanning≢finished e = true≢false (ap is_scanning e)

scanning≢canceled : Scanning ≡ Canceled → ⊥
scanning≢canceled e = true≢false (ap is_scanning e)

-- a scan runs
pub scanning_is : (x : Status) → Decides (is_scanning x) (x ≡ Scanning)
scanning_is Never = (λ e. absurd (true≢false (sym e)), λ e. absurd (scanning≢never (sym e)))
scanning_is Scanning = (λ e. refl, λ e. refl)
scanning_is Finished = (λ e. absurd (true≢false (sym e)), λ e. absurd (scanning≢finished (sym e)))
scanning_is Canceled = (λ e. absurd (true≢false (sym e)), λ e. absurd (scanning≢canceled (sym e)))

-- the walk may go on
walking_is : (s : Phys) → Decides (is_walking s) (IsWalking s)
walking_is s =
    (λ t. let p = and_parts (is_scanning s.status) (not s.paused) t in record { scans = (scanning_is s.status).0 p.0; goes_on = not-true s.paused p.1 }, λ w. and_from (is_scanning s.status) (not s.paused) ((scanning_is s.status).1 w.scans) (not_from_false s.paused w.goes_on))

-- where it may not, there is no work
stops : (s : Phys) → is_walking s ≡ false → HasNoWork s
stops s is = go s.paused refl
  where
    go : (b : Bool) → s.paused ≡ b → HasNoWork s
    go true p = paused p
    go false p =
        no_scan (λ e. true≢false (sym ((walking_is s).1 (record { scans = e; goes_on = p })) ∙ is))

none≢some : {A : Type 0} (x : A) → None ≡ Some x → ⊥
none≢some x e = some≢none x (sym e)

module _ (g : Graph) (scope : Scope) (s : Phys) where
  queue_comes : IsWalking s → s.at ≡ Nowhere → (todo : List Todo) → s.todo ≡ todo → Comes g scope s (queue_step scope todo)
  queue_comes w at [] is = rests (none_left at is)
  queue_comes w at (q ∷ qs) is = go (nat_le scope.max (max scope.min q.min)) refl
    where
      go : (b : Bool) → nat_le scope.max (max scope.min q.min) ≡ b → Comes g scope s (cond b steps.Skip (steps.Enter q.id q.min))
      go true t = skips q qs w at is (leb-true scope.max (max scope.min q.min) t)
      go false t = enters q qs w at is (leb-false scope.max (max scope.min q.min) t)

  block_comes : IsWalking s → (d : Dataset) (id : DsId) (k : Key) → Has g d → d.id ≡ id → s.at ≡ ats.Dataset id k → (o : Option (Key × Bp)) → first_from d.entries k s.curmin ≡ o → Comes g scope s (block_step id o)
  block_comes w d id k here named at None is =
      subst (λ (x : DsId). Comes g scope s (steps.End x)) named (ends d k w here (at ∙ ap (λ (x : DsId). ats.Dataset x k) (sym named)) is)
  block_comes w d id k here named at (Some e) is =
      meets d k e w here (at ∙ ap (λ (x : DsId). ats.Dataset x k) (sym named)) is

  dataset_comes : IsWalking s → (id : DsId) (k : Key) → s.at ≡ ats.Dataset id k → (step : Step) (o : Option Dataset) → dataset_at g id ≡ o → option_map (λ (d : Dataset). block_step id (first_from d.entries k s.curmin)) o ≡ Some step → Comes g scope s step
  dataset_comes w id k at step None is e = absurd (none≢some step e)
  dataset_comes w id k at step (Some d) is e =
      let r = from-find (λ (x : Dataset). is_id x.id id) g d is in
      subst (λ (x : Step). Comes g scope s x) (some_is (block_step id (first_from d.entries k s.curmin)) step e) (block_comes w d id k r.0 (id_is d.id id r.1) at (first_from d.entries k s.curmin) refl)

  walk_comes : IsWalking s → (at : At) → s.at ≡ at → (step : Step) → walk_step g scope s at ≡ Some step → Comes g scope s step
  walk_comes w Nowhere is step e =
      subst (λ (x : Step). Comes g scope s x) (some_is (queue_step scope s.todo) step e) (queue_comes w is s.todo refl)
  walk_comes w Destroyed is step e =
      subst (λ (x : Step). Comes g scope s x) (some_is steps.Skip step e) (leaves w is)
  walk_comes w (ats.Dataset id k) is step e = dataset_comes w id k is step (dataset_at g id) refl e

  -- the turn that is computed comes
  pub step_comes : (step : Step) → next_step g scope s ≡ Some step → Comes g scope s step
  step_comes step e = go (is_walking s) refl e
    where
      go : (b : Bool) → is_walking s ≡ b → cond b (walk_step g scope s s.at) (Some steps.Nothing) ≡ Some step → Comes g scope s step
      go true w e2 = walk_comes ((walking_is s).0 w) s.at refl step e2
      go false w e2 =
          subst (λ (x : Step). Comes g scope s x) (some_is steps.Nothing step e2) (rests (stops s w))

  walked : IsWalking s → (at : At) → s.at ≡ at → next_step g scope s ≡ walk_step g scope s at
  walked w at is =
      cond-true (is_walking s) (walk_step g scope s s.at) (Some steps.Nothing) ((walking_is s).1 w) ∙ ap (λ (x : At). walk_step g scope s x) is

  -- with nothing to walk, none is made
  rested : HasNoWork s → next_step g scope s ≡ Some steps.Nothing
  rested n = go (is_walking s) refl n
    where
      go : (b : Bool) → is_walking s ≡ b → HasNoWork s → next_step g scope s ≡ Some steps.Nothing
      go false w n2 = cond-false (is_walking s) (walk_step g scope s s.at) (Some steps.Nothing) w
      go true w (no_scan not_running) = absurd (not_running ((walking_is s).0 w).scans)
      go true w (paused p) = absurd (true≢false (sym p ∙ ((walking_is s).0 w).goes_on))
      go true w (none_left at empty) =
          walked ((walking_is s).0 w) Nowhere at ∙ ap (λ (l : List Todo). Some (queue_step scope l)) empty

  module _ (step : Step) where
    skipped_is : (q : Todo) (qs : List Todo) → IsWalking s → s.at ≡ Nowhere → s.todo ≡ q ∷ qs → scope.max ≤ max scope.min q.min → next_step g scope s ≡ Some steps.Skip
    skipped_is q qs w at todo le =
        walked w Nowhere at ∙ ap (λ (l : List Todo). Some (queue_step scope l)) todo ∙ ap Some (cond-true (nat_le scope.max (max scope.min q.min)) steps.Skip (steps.Enter q.id q.min) (le-leb scope.max (max scope.min q.min) le))

    entered_is : (q : Todo) (qs : List Todo) → IsWalking s → s.at ≡ Nowhere → s.todo ≡ q ∷ qs → max scope.min q.min < scope.max → next_step g scope s ≡ Some (steps.Enter q.id q.min)
    entered_is q qs w at todo lt =
        walked w Nowhere at ∙ ap (λ (l : List Todo). Some (queue_step scope l)) todo ∙ ap Some (cond-false (nat_le scope.max (max scope.min q.min)) steps.Skip (steps.Enter q.id q.min) (lt-leb scope.max (max scope.min q.min) lt))

    block_is : IsInIdOrder g → (d : Dataset) (k : Key) (o : Option (Key × Bp)) → IsWalking s → Has g d → s.at ≡ ats.Dataset d.id k → first_from d.entries k s.curmin ≡ o → next_step g scope s ≡ Some (block_step d.id o)
    block_is order d k o w here at is =
        walked w (ats.Dataset d.id k) at ∙ ap (λ (x : Option Dataset). option_map (λ (y : Dataset). block_step d.id (first_from y.entries k s.curmin)) x) (dataset_is g order d d.id here refl) ∙ ap (λ (x : Option (Key × Bp)). Some (block_step d.id x)) is

  -- in a list in order of id no other turn comes
  pub only_step : IsInIdOrder g → (step : Step) → Comes g scope s step → next_step g scope s ≡ Some step
  only_step order _ (rests n) = rested n
  only_step order _ (leaves w at) = walked w Destroyed at
  only_step order _ (skips q qs w at todo le) = skipped_is steps.Skip q qs w at todo le
  only_step order _ (enters q qs w at todo lt) = entered_is steps.Skip q qs w at todo lt
  only_step order _ (meets d k e w here at is) = block_is steps.Skip order d k (Some e) w here at is
  only_step order _ (ends d k w here at is) = block_is steps.Skip order d k None w here at is

  -- a dataset that is not found is not there
  not_there : (d : Dataset) (k : Key) → IsWalking s → Has g d → s.at ≡ ats.Dataset d.id k → next_step g scope s ≡ None → ⊥
  not_there d k w here at none = go (dataset_at g d.id) refl
    where
      go : (o : Option Dataset) → dataset_at g d.id ≡ o → ⊥
      go None is =
          true≢false (sym (is_id-same d.id d.id refl) ∙ none-find (λ (x : Dataset). is_id x.id d.id) g d is here)
      go (Some x) is =
          some≢none (block_step d.id (first_from x.entries k s.curmin)) (ap (λ (y : Option Dataset). option_map (λ (z : Dataset). block_step d.id (first_from z.entries k s.curmin)) y) (sym is) ∙ sym (walked w (ats.Dataset d.id k) at) ∙ none)

  -- where no turn is computed, none comes
  pub no_step : next_step g scope s ≡ None → (step : Step) → Comes g scope s step → ⊥
  no_step none _ (rests n) = some≢none steps.Nothing (sym (rested n) ∙ none)
  no_step none _ (leaves w at) = some≢none steps.Skip (sym (walked w Destroyed at) ∙ none)
  no_step none _ (skips q qs w at todo le) =
      some≢none steps.Skip (sym (skipped_is steps.Skip q qs w at todo le) ∙ none)
  no_step none _ (enters q qs w at todo lt) =
      some≢none (steps.Enter q.id q.min) (sym (entered_is steps.Skip q qs w at todo lt) ∙ none)
  no_step none _ (meets d k e w here at is) = not_there d k w here at none
  no_step none _ (ends d k w here at is) = not_there d k w here at none

  -- as the function has it
  pub comes_from : (r : Option Step) → r ≡ next_step g scope s → MatchOption r ((step : Step) → Comes g scope s step → ⊥) (λ (step : Step). Comes g scope s step)
  comes_from None is = no_step (sym is)
  comes_from (Some step) is = step_comes step (sym is)
