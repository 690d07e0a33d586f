use Rattle.std.proofs.Common.{sym, ap, refl, subst, ◌∙◌}
use Rattle.zs_scan.specs.Steps.{IsComplete, IsDrained}
use Rattle.zs_machine.specs.Machine.{PoolState}
use Rattle.zs_core.specs.View.{CoreView, tasks_in}
use Rattle.zs_session.proofs.Phases.{ends_round}
use Rattle.zs_session.specs.Devices.{journals}
use Rattle.zs_session.specs.Plays.{PutsBlocks}
use Rattle.zs_session.proofs.Histories.{handed, passes_event, passes_same, stops_so, stops_behind}
use Rattle.zs_session.proofs.Sets.{longer_of, longer_none}
use Rattle.zs_session.proofs.Putting.{all_online, staged_writable, staged_put}
use Rattle.zs_session.proofs.Written.{adds_sync, went_synced}
use Rattle.zs_session.proofs.finishing.sync.Given.{Over}
use Rattle.zs_session.proofs.finishing.sync.Goals as goal

pub put_blocks-requires-clause-writable : goal.put_blocks-requires-clause-writable
put_blocks-requires-clause-writable g c =
    staged_writable _ c.shape.result.now _ (g.C.Children.device c.args.rig.now.set) _ _ c.in-Ok.staged.blocks c.as_slice.result.now c.shape.ensures c.as_slice.ensures c.facts.ensures.safe c.requires.devices
    c.in-Ok.ensures.blocks c.in-Ok.ensures.within

pub put_blocks-requires-clause-online : goal.put_blocks-requires-clause-online
put_blocks-requires-clause-online g c = all_online _ c.shape.result.now c.in-Ok.staged.online c.facts.ensures.safe.shaped c.shape.ensures c.in-Ok.ensures.online

pub returns-in-Err-Memory-clause-stops : goal.returns-in-Err-Memory-clause-stops
returns-in-Err-Memory-clause-stops g c = stops_so _ _ _ _ _ (passes_same _ _ _ _ _ (c.begin_sync.ensures.memory cc) (longer_none _))

pub returns-in_err-marks-clause-stops : goal.returns-in_err-marks-clause-stops
returns-in_err-marks-clause-stops g c =
    stops_so _ _ _ _ c.from_residual.result (passes_event 0 _ c.args.pool.now c.begin_sync.new.self _ _ _ refl c.in-Ok.ensures.event (ap (λ (v : CoreView). v.shape) c.in-Ok.ensures.rest) refl
    (longer_of _ _ _ _ c.put_blocks.ensures.calls.set))

-- the blocks of the sync were put
put : (g : Over) (c : goal.After-drop-staged-2 g)
    → PutsBlocks c.begin_sync.new.self.core.shape.width c.in-Ok.staged.blocks c.in_ok-marks.marks.places (journals (g.C.Children.device c.args.rig.now.set)) (journals (g.C.Children.device c.put_blocks.new.set))
put g c =
    staged_put _ c.begin_sync.new.self.core c.shape.result.now _ (g.C.Children.device c.args.rig.now.set) _ _ c.in-Ok.staged.blocks c.as_slice.result.now c.in_ok-marks.marks.places
    (journals (g.C.Children.device c.args.rig.now.set)) (journals (g.C.Children.device c.put_blocks.new.set))
    c.shape.ensures (ap (λ (v : CoreView). v.shape) c.in-Ok.ensures.rest) c.as_slice.ensures c.facts.ensures.safe c.requires.devices
    c.in-Ok.ensures.blocks c.in-Ok.ensures.within c.in-Ok.ensures.apart c.in_ok-marks.ensures.put

-- also where the commit fails
put_still : (g : Over) (c : goal.After-drop-staged-in_err-commit g)
    → PutsBlocks c.begin_sync.new.self.core.shape.width c.in-Ok.staged.blocks c.in_ok-marks.marks.places (journals (g.C.Children.device c.args.rig.now.set)) (journals (g.C.Children.device c.put_blocks.new.set))
put_still g c =
    staged_put _ c.begin_sync.new.self.core c.shape.result.now _ (g.C.Children.device c.args.rig.now.set) _ _ c.in-Ok.staged.blocks c.as_slice.result.now c.in_ok-marks.marks.places
    (journals (g.C.Children.device c.args.rig.now.set)) (journals (g.C.Children.device c.put_blocks.new.set))
    c.shape.ensures (ap (λ (v : CoreView). v.shape) c.in-Ok.ensures.rest) c.as_slice.ensures c.facts.ensures.safe c.requires.devices
    c.in-Ok.ensures.blocks c.in-Ok.ensures.within c.in-Ok.ensures.apart c.in_ok-marks.ensures.put

pub returns-clause-told : goal.returns-clause-told
returns-clause-told g c =
    (adds_sync c.args.pool.now.history c.begin_sync.new.self.history c.commit.new.pool.history _ c.in-Ok.ensures.event) c.in_ok-commit.ensures.told

pub returns-clause-goes_on : goal.returns-clause-goes_on
returns-clause-goes_on g c =
    (went_synced c.args.pool.now c.begin_sync.new.self c.commit.new.pool c.in-Ok.staged.blocks c.in_ok-marks.marks
    (journals (g.C.Children.device c.args.rig.now.set)) (journals (g.C.Children.device c.put_blocks.new.set)) _
    c.in-Ok.ensures.event (ap (λ (v : CoreView). v.shape) c.in-Ok.ensures.rest) c.in-Ok.ensures.pointers (put g c)) c.in_ok-commit.ensures.goes_on

pub returns-in_err-commit-clause-stops : goal.returns-in_err-commit-clause-stops
returns-in_err-commit-clause-stops g c =
    let stops = c.in_err-commit.ensures.stops c.in-Ok.staged.blocks (journals (g.C.Children.device c.args.rig.now.set)) (journals (g.C.Children.device c.put_blocks.new.set)) (sym c.in-Ok.ensures.pointers) (put_still g c) in
    stops_behind 0 _ c.args.pool.now c.begin_sync.new.self c.commit.new.pool (journals (g.C.Children.device c.args.rig.now.set)) (journals (g.C.Children.device c.put_blocks.new.set))
    (journals (g.C.Children.device c.put_blocks.new.set)) c.from_residual-in_err-commit.result refl c.in-Ok.ensures.event (ap (λ (v : CoreView). v.shape) c.in-Ok.ensures.rest) refl
    (longer_of _ _ _ _ c.put_blocks.ensures.calls.set) (handed _ stops.silent) (handed _ stops.went_on)

pub returns-clause-round : goal.returns-clause-round
returns-clause-round g c = λ made. ends_round c.args.pool.now.history c.begin_sync.new.self.history c.commit.new.pool.history _ c.in-Ok.ensures.event c.in_ok-commit.ensures.told

pub returns-clause-ends : goal.returns-clause-ends
returns-clause-ends g c = λ made complete untasked. c.in_ok-commit.ensures.ends (subst (λ (v : CoreView). IsComplete v.scan) (sym c.in-Ok.ensures.rest) complete) (ap (λ (s : PoolState). tasks_in s.closed) c.in-Ok.ensures.begun ∙ untasked)

pub returns-clause-again : goal.returns-clause-again
returns-clause-again g c = λ made drained works. c.in_ok-commit.ensures.again (subst (λ (v : CoreView). IsDrained v.scan) (sym c.in-Ok.ensures.rest) drained) works (ap (λ (s : PoolState). s.open_txg.tasks) c.in-Ok.ensures.begun)
