-- A batch in flight lies on the devices, and its entries are those of checks.
use Rattle.std.proofs.Common.{List, refl, sym, subst, ap}
use Rattle.zs_ids.specs.declared.block.Item.{Item}
use Rattle.zs_machine.specs.declared.shape.Shape.{Shape}
use Rattle.zs_core.specs.View.{CoreView}
use Rattle.zs_scan.specs.View.{ScanView}
use Rattle.zs_session.specs.Devices.{LieOn}
use Rattle.zs_session.proofs.Checks.{are_of, same_checks}
use Rattle.zs_session.proofs.Judged.{had, went_judged}
use Rattle.zs_session.proofs.Rooms.{flights_lie_on}
use Rattle.zs_session.proofs.batches.judge.Goals as goal

pub check_items-requires : goal.check_items-requires
check_items-requires g c = record {
  lie = subst (λ (items : List Item). LieOn (g.C.Children.count c.args.rig.now.set) c.shape.result.now.width items (g.C.Children.device c.args.rig.now.set)) (sym c.as_slice.ensures)
      (subst (λ (s : Shape). LieOn (g.C.Children.count c.args.rig.now.set) s.width c.args.batch.now.items (g.C.Children.device c.args.rig.now.set)) (sym c.shape.ensures)
      (flights_lie_on c.args.pool.now.core _ (g.C.Children.device c.args.rig.now.set) c.args.batch.now c.facts.ensures.safe c.requires.devices c.requires.flies));
}

pub returns-clause-goes_on : goal.returns-clause-goes_on
returns-clause-goes_on g c =
    went_judged _ _ _ _ _ _ _ _ _ c.in_ok-verdict.ensures.judged c.requires.flies refl
    (same_checks _ _ _ _ _ _ _ _ c.as_slice.ensures c.from_vec.ensures c.in_ok-entries.ensures.checks)
    (ap (λ (s : Shape). s.width) c.shape.ensures) (ap (λ (v : CoreView). v.shape) c.verdict.ensures.core) c.facts.ensures.flight

pub returns-clause-verdict : goal.returns-clause-verdict
returns-clause-verdict g c =
    had _ _ _ _ _ _ c.in_ok-verdict.ensures.judged c.requires.flies refl
    (are_of _ _ _ _ _ _ (same_checks _ _ _ _ _ _ _ _ c.as_slice.ensures c.from_vec.ensures c.in_ok-entries.ensures.checks))

pub returns-clause-time : goal.returns-clause-time
returns-clause-time g c =
    let judged = (returns-clause-verdict g c).judged.rest in
    record {
      applied = ap (λ (v : CoreView). v.state.applied) c.verdict.ensures.core;
      saved = ap (λ (v : ScanView). v.saved) judged;
      every = ap (λ (v : ScanView). v.every) judged;
      tasks = ap (λ (v : CoreView). v.state.open_txg.tasks) c.verdict.ensures.core;
    }
