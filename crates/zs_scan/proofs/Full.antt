-- Where a turn would put an item and the queue is full, the turn that comes is that one.
use Rattle.std.proofs.Common.{◌≡◌, ◌≢◌, ℕ, sym, true, length, is_some, ap, subst, ◌∙◌, inl, inr}
use Rattle.std.specs.Prelude.{Option, Result, Ok, Err, OnErr, ◌⊎◌}
use Rattle.zs_ids.specs.declared.block.Item.{Item}
use Rattle.zs_ids.specs.Graph.{Graph}
use Rattle.zs_phys.specs.declared.step.Step.{Step}
use Rattle.zs_phys.specs.Turn.{Comes}
use Rattle.zs_walk.specs.Walking.{MayWalk}
use Rattle.zs_walk.proofs.OneStep.{one_step}
use Rattle.zs_scan.specs.View.{ScanView}
use Rattle.zs_scan.specs.Walks.{item_put, is_due, turn_of, IsDraining, IsFull}
use Rattle.zs_scan.specs.declared.batch.Turn.TheVariants as turns
use Rattle.zs_scan.specs.declared.batch.ScanFault.{ScanFault}
use Rattle.zs_scan.specs.declared.batch.ScanFault.TheVariants as faults

pub full_is : (g : Graph) (synced : ℕ) (inside v : ScanView) (step : Step) (item : Option Item) → inside ≡ v → MayWalk g v.scope v.run → Comes g inside.scope inside.run step → item ≡ item_put v step → IsFull g synced v → (is_some item ≡ true) × (length v.waiting ≡ v.limit)
full_is g synced inside v step item one may comes is full =
    let here : Comes g v.scope v.run step = subst (λ (x : ScanView). Comes g x.scope x.run step) one comes in
    let same : step ≡ full.step = one_step g v.scope v.run step full.step may here full.comes in
    (ap (λ (o : Option Item). is_some o) (is ∙ ap (λ (s : Step). item_put v s) same) ∙ full.puts, full.none_left)

-- what fails as full, or for want of memory, does not fail because a checkpoint is due
pub not_drained : {T : Type 0} (r : Result T ScanFault) → OnErr r ((r ≡ Err faults.Full) ⊎ (r ≡ Err faults.Memory)) → r ≡ Err faults.Draining → ⊥
not_drained (Ok x) why is = cc
not_drained (Err e) why is = elim why [ inl full ↦ (let no : Err faults.Full ≡ Err faults.Draining = sym full ∙ is in cc) | inr memory ↦ (let no : Err faults.Memory ≡ Err faults.Draining = sym memory ∙ is in cc) ]

-- where a turn is not made because a checkpoint is due, the turn that comes is none that does nothing
pub draining_is : (g : Graph) (synced : ℕ) (inside v : ScanView) (step : Step) → inside ≡ v → MayWalk g v.scope v.run → Comes g inside.scope inside.run step → IsDraining g synced v → (turn_of step ≢ turns.Nothing) × (is_due synced v ≡ true)
draining_is g synced inside v step one may comes drains =
    let here : Comes g v.scope v.run step = subst (λ (x : ScanView). Comes g x.scope x.run step) one comes in
    let same : step ≡ drains.step = one_step g v.scope v.run step drains.step may here drains.comes in
    (subst (λ (s : Step). turn_of s ≢ turns.Nothing) (sym same) drains.some, drains.due)
