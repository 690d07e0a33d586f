-- A scan that finishes, or makes a checkpoint, stays the datasets' own; one that finishes has checked each live piece in
-- scope.
use Rattle.std.proofs.Common.{◌≡◌, ℕ, ◌||◌, Bool, true, false, List, [], take, length, refl, sym, ◌∙◌, ap, subst, is_some}
use Rattle.std.specs.Prelude.{IsTrue}
use Rattle.zs_ids.specs.declared.block.Piece.{Piece}
use Rattle.zs_ids.specs.Graph.{Graph}
use Rattle.zs_ids.specs.GraphValid.{Room}
use Rattle.zs_ledger.specs.Kept.{has_piece}
use Rattle.zs_phys.specs.declared.phys.Phys.{Phys}
use Rattle.zs_phys.specs.declared.phys.Status.{Status}
use Rattle.zs_phys.specs.declared.phys.Status.TheVariants.{Finished}
use Rattle.zs_phys.specs.Ahead.{claims}
use Rattle.std.proofs.Math.Nat.{le_refl}
use Rattle.std.proofs.lemmas.List.{take_all}
use Rattle.zs_ledger.specs.declared.entry.Entry.{Entry}
use Rattle.zs_phys.specs.Sound.{IsAtRest}
use Rattle.zs_cover.specs.Laws.{IsCovered}
use Rattle.zs_cover.proofs.Rests.{rest_is, end_keeps, later_keeps}
use Rattle.zs_scan.specs.View.{Mark, ScanView, mark_of, is_done}
use Rattle.zs_scan.specs.Kept.{IsOrderly}
use Rattle.zs_scan.specs.Covered.{IsScanOf, Keeps, AllAreChecked}
use Rattle.zs_scan.specs.Steps.{IsComplete, IsDrained, checkpointed, finished}
use Rattle.zs_scan.proofs.Orderly.{nothing_marked}

-- where nothing waits or flies, what is done is checked
done_checked : (v : ScanView) → IsOrderly v → v.waiting ≡ [] → v.flight ≡ [] → (p : Piece) → is_done v p ≡ true → has_piece v.checked p ≡ true
done_checked v orderly drained landed p done =
    let bare : v.marks ≡ [] = nothing_marked v orderly drained landed in
    checked (has_piece v.checked p) (ap (λ (l : List (Piece × Mark)). has_piece v.checked p || is_some (mark_of l p)) (sym bare) ∙ done)
  where
    checked : (b : Bool) → (b || false) ≡ true → b ≡ true
    checked true h = refl
    checked false h = h

-- and so it is stored, where all entries are
done_stored : (v : ScanView) → IsOrderly v → v.waiting ≡ [] → v.flight ≡ [] → (p : Piece) → is_done v p ≡ true → has_piece (take (length v.checked) v.checked) p ≡ true
done_stored v orderly drained landed p done =
    subst (λ (l : List Entry). has_piece l p ≡ true) (sym (take_all (length v.checked) v.checked (le_refl (length v.checked)))) (done_checked v orderly drained landed p done)

-- at a checkpoint the state that a crash leaves becomes that of the walk, and covers with what is checked
checkpoint_covers : (v : ScanView) → IsOrderly v → v.waiting ≡ [] → v.flight ≡ [] → (own : Room) (g : Graph) (n h : ℕ) → IsScanOf own g n h v → IsCovered own g n h v.scope v.run (λ p. has_piece (take (length v.checked) v.checked) p)
checkpoint_covers v orderly drained landed own g n h is =
    later_keeps own g n h h v.scope v.run (is_done v) (λ p. has_piece (take (length v.checked) v.checked) p) is.covered (le_refl h) (λ p live done. done_stored v orderly drained landed p done)

-- a checkpoint leaves the scan the datasets' own
checkpointed_keeps : (v : ScanView) (t : ℕ) → IsOrderly v → IsDrained v → Keeps v (checkpointed t v)
checkpointed_keeps v t orderly rest own g n h is = record {
  covered = is.covered;
  stored = checkpoint_covers v orderly rest.drained rest.landed own g n h is;
  live = record { waiting = is.live.waiting; flying = is.live.flying };
  in_room = is.in_room;
}

-- the same, where the scan is another's view
pub checkpoint_keeps : (v now : ScanView) (kept : Phys) (stored t : ℕ) → v ≡ now → IsOrderly v → IsDrained now → kept ≡ v.run → stored ≡ length v.checked → Keeps now (record v { kept = kept; stored = stored; saved = t })
checkpoint_keeps v now kept stored t same orderly rest copied all = rw (copied, all) (subst (λ (o : ScanView). Keeps now (checkpointed t o)) (sym same) (checkpointed_keeps now t (subst IsOrderly same orderly) rest))

-- a complete scan finishes and stays the datasets' own
finished_keeps : (v : ScanView) → IsOrderly v → IsComplete v → Keeps v (finished v)
finished_keeps v orderly complete own g n h is = record {
  covered = end_keeps own g n h v.scope v.run (is_done v) is.covered complete.scans at_rest;
  stored = end_keeps own g n h v.scope v.run (λ p. has_piece (take (length v.checked) v.checked) p) (checkpoint_covers v orderly complete.drained complete.landed own g n h is) complete.scans at_rest;
  live = record { waiting = is.live.waiting; flying = is.live.flying };
  in_room = is.in_room;
}
  where
    at_rest : IsAtRest v.run
    at_rest = record { nowhere = complete.nowhere; empty = complete.walked; goes_on = complete.goes_on }

-- the same, where the scan is another's view
pub finish_keeps : (v now : ScanView) (kept : Phys) (stored : ℕ) → v ≡ now → IsOrderly v → IsComplete now → kept ≡ record v.run { status = Finished } → stored ≡ length v.checked → Keeps now (record v { run = record v.run { status = Finished }; kept = kept; stored = stored })
finish_keeps v now kept stored same orderly complete copied all = rw (copied, all) (subst (λ (o : ScanView). Keeps now (finished o)) (sym same) (finished_keeps now (subst IsOrderly same orderly) complete))

-- a complete scan has checked each live piece in scope
pub complete_checked : (v now : ScanView) → v ≡ now → IsOrderly v → IsComplete now → (own : Room) (g : Graph) (n h : ℕ) → IsScanOf own g n h now → AllAreChecked g now.scope now.checked
complete_checked v now same orderly complete own g n h is p live wanted =
    let running : IsTrue (claims now.run.status) = subst (λ (x : Status). IsTrue (claims x)) (sym complete.scans) refl in
    let done : is_done now p ≡ true = rest_is own g n h now.scope now.run (is_done now) is.covered running complete.nowhere complete.walked p live wanted in
    done_checked now (subst IsOrderly same orderly) complete.drained complete.landed p done
