-- Where a sync leaves a scan at work of which nothing waited or flew, a second round of a `finish` may begin.
use Rattle.std.proofs.Common.{◌≡◌, ℕ, ◌≤◌, ◌-◌, ◌&&◌, Bool, true, false, List, [], refl, sym, ◌∙◌, ap, subst, arith, nat_le, not, inl, inr}
use Rattle.std.proofs.lemmas.Bool.{lt-leb}
use Rattle.zs_phys.specs.Turn.{IsWalking}
use Rattle.zs_walk.specs.Walking.{runs}
use Rattle.zs_scan.proofs.Pauses.{scanning}
use Rattle.zs_ids.specs.declared.block.Item.{Item}
use Rattle.zs_machine.specs.Steps.{DataStep}
use Rattle.zs_machine.specs.Machine.{PoolState, ScanState, is_at_work, is_running}
use Rattle.zs_core.specs.View.{CoreView}
use Rattle.zs_core.specs.Safe.{IsSafe}
use Rattle.zs_session.specs.Finish.{MayFinish}

both : (a b : Bool) → (a && b) ≡ true → (a ≡ true) × (b ≡ true)
both true b h = (refl, h)
both false b h = cc

unpaused : (b : Bool) → not b ≡ true → b ≡ false
unpaused true h = cc
unpaused false h = refl

-- a checkpoint that was just made is not due
not_due : (every applied saved : ℕ) (s : Bool) → 1 ≤ every → saved ≡ applied → (s && nat_le every (applied - saved)) ≡ false
not_due every applied saved false some same = refl
not_due every applied saved true some same = rw same (lt-leb every (applied - applied) (omega (arith, some)))

-- a scan at work walks
pub at_work_walks : (v : CoreView) → IsSafe v → is_at_work v.state.scan ≡ true → IsWalking v.scan.run
at_work_walks v safe works =
    let on = both (is_running v.state.scan) (not v.state.scan.paused) works in
    record {
      scans = scanning v.scan.run.status (ap is_running (sym safe.machine) ∙ on.0);
      goes_on = ap (λ (s : ScanState). s.paused) (sym safe.machine) ∙ unpaused v.state.scan.paused on.1;
    }

pub may_finish : (v : CoreView) → IsSafe v → v.scan.flight ≡ [] → v.scan.saved ≡ v.state.applied → is_at_work v.state.scan ≡ true → v.state.open_txg.tasks ≡ [] → MayFinish v
may_finish v safe landed saved works untasked = record {
  runs = at_work_walks v safe works;
  landed = landed;
  in_time = not_due v.scan.every v.state.applied v.scan.saved (runs v.scan.run.status) (subst (λ (n : ℕ). 1 ≤ n) (sym safe.every) safe.shaped.shape.every.0) saved;
  untasked = untasked;
}

-- what is open stays so where the closed group is applied
pub data_open : (s : PoolState) (items : List Item) (t : PoolState) → DataStep s items t → t.open_txg ≡ s.open_txg
data_open s items t is = elim is.ended [
  | inl f ↦ ap (λ (x : PoolState). x.open_txg) f.finished
  | inr other ↦ elim other [
    | inl f ↦ ap (λ (x : PoolState). x.open_txg) f.saved
    | inr none ↦ ap (λ (x : PoolState). x.open_txg) none
  ]
]
