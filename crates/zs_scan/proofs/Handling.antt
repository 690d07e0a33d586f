-- What the handlers of dataset events leave is the datasets' own again, and so it is where the scan is told nothing.
use Rattle.std.proofs.Common.{◌≡◌, Option, refl, sym, subst}
use Rattle.zs_ids.specs.declared.dataset.DsId.{DsId}
use Rattle.zs_ids.specs.GraphChange.{cloned, with_snapshot, destroyed, swapped, applied}
use Rattle.zs_phys.specs.Handlers.{Handled, Event, Event as events}
use Rattle.zs_cover.proofs.Applies.{apply_keeps}
use Rattle.zs_cover.proofs.Clones.{clone_keeps}
use Rattle.zs_cover.proofs.Drops.{destroy_keeps}
use Rattle.zs_cover.proofs.Snapshots.{snapshot_keeps}
use Rattle.zs_cover.proofs.Swaps.{swap_keeps}
use Rattle.zs_scan.specs.View.{ScanView, is_done, is_stored}
use Rattle.zs_scan.specs.Changes.{KeepsAtSnapshot, KeepsAtDestroy, KeepsAtSwap, CloneLaw, ApplyLaw}
use Rattle.zs_scan.proofs.Changed.{scan_but, scan_kept}

-- the scan was told of an event by its two states alone
pub record IsTold (e : Event) (old new : ScanView) : Type 0 where
  pub run : Handled old.run e new.run
  pub kept : Handled old.kept e new.kept
  pub rest : new ≡ record old { run = new.run; kept = new.kept }

-- the event of another name
named : (x y : DsId) (e : DsId → Event) (old new : ScanView) → x ≡ y → IsTold (e y) old new → IsTold (e x) old new
named x y e old new same told = subst (λ (z : DsId). IsTold (e z) old new) (sym same) told

-- of a snapshot that was taken
pub snapshot_told : (old new : ScanView) (head snap : DsId) → IsTold (events.snapshot_taken head snap) old new → KeepsAtSnapshot head snap old new
snapshot_told old new head snap is room g n h of label same may kept scan =
    let told : IsTold (events.snapshot_taken of.id snap) old new = named of.id head (λ (x : DsId). events.snapshot_taken x snap) old new same is in
    scan_kept room g (with_snapshot g of snap label h) n h old new told.rest (snapshot_keeps room g n h old.scope old.run new.run (is_done old) (is_done old) of snap label scan.covered may told.run (λ p live done. done))
    (snapshot_keeps room g n h old.scope old.kept new.kept (is_stored old) (is_stored old) of snap label scan.stored may told.kept (λ p live done. done)) scan kept

-- of a dataset that was destroyed
pub destroy_told : (old new : ScanView) (id : DsId) (next : Option DsId) → IsTold (events.destroyed id next) old new → KeepsAtDestroy id next old new
destroy_told old new id next is room g n h gone items same may freed scan =
    let told : IsTold (events.destroyed gone.id next) old new = named gone.id id (λ (x : DsId). events.destroyed x next) old new same is in
    scan_but room g (destroyed g gone) n h old new told.rest (destroy_keeps room g n h old.scope old.run new.run (is_done old) (is_done old) gone next scan.covered may told.run (λ p live done. done))
    (destroy_keeps room g n h old.scope old.kept new.kept (is_stored old) (is_stored old) gone next scan.stored may told.kept (λ p live done. done)) scan items freed

-- of two heads that were swapped
pub swap_told : (old new : ScanView) (a b : DsId) → IsTold (events.swapped a b) old new → KeepsAtSwap a b old new
swap_told old new a b is room g n h first second same_a same_b may kept scan =
    let one : IsTold (events.swapped first.id b) old new = named first.id a (λ (x : DsId). events.swapped x b) old new same_a is in
    let told : IsTold (events.swapped first.id second.id) old new = named second.id b (λ (x : DsId). events.swapped first.id x) old new same_b one in
    scan_kept room g (swapped g first second) n h old new told.rest (swap_keeps room g n h old.scope old.run new.run (is_done old) (is_done old) first second scan.covered may told.run (λ p live done. done))
    (swap_keeps room g n h old.scope old.kept new.kept (is_stored old) (is_stored old) first second scan.stored may told.kept (λ p live done. done)) scan kept

-- a clone is made: the scan is told nothing
pub clone_untold : CloneLaw
clone_untold room g n h v snap id name scan may kept =
    scan_kept room g (cloned g snap id name) n h v v refl (clone_keeps room g n h v.scope v.run (is_done v) (is_done v) snap id name scan.covered may (λ p live done. done))
    (clone_keeps room g n h v.scope v.kept (is_stored v) (is_stored v) snap id name scan.stored may (λ p live done. done)) scan kept

-- blocks are applied: it still has to be told of the pieces that were freed
pub apply_untold : ApplyLaw
apply_untold room g n h v head changes items scan may freed =
    scan_but room g (applied g head changes) n h v v refl (apply_keeps room g n h v.scope v.run (is_done v) (is_done v) head changes scan.covered may (λ p live done. done))
    (apply_keeps room g n h v.scope v.kept (is_stored v) (is_stored v) head changes scan.stored may (λ p live done. done)) scan items freed
