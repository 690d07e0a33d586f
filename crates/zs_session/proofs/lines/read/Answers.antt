-- A read that was begun has its command in the history, and ends by the bytes that were read.
use Rattle.std.proofs.Common.{rules, ◌≡◌, length, refl, ap, subst, ◌∙◌, Err, None}
use Rattle.zs_machine.specs.declared.shape.Shape.{Shape}
use Rattle.zs_machine.specs.declared.event.ReadPlan.{ReadPlan}
use Rattle.zs_core.specs.View.{CoreView}
use Rattle.zs_mirror.specs.Mirror.{size_of}
use Rattle.zs_session.specs.Devices.{journals}
use Rattle.zs_session.specs.OpenReads.{AwaitsRead}
use Rattle.zs_session.proofs.OpenReads.{awaits, went_both, read_none, read_found, read_lost, plan_first, part_same, read_stops, read_ends}
use Rattle.zs_session.proofs.Histories.{went_one}
use Rattle.zs_session.proofs.LineSteps.{ready_after}
use Rattle.zs_session.proofs.Sets.{longer_of, longer_none, set_left, calls_none}
use Rattle.zs_session.proofs.lines.read.Goals as goal

-- a read that was refused changes nothing but the history
pub returns-in-Err-Refused-clause-ready : goal.returns-in-Err-Refused-clause-ready
returns-in-Err-Refused-clause-ready g c =
    let told = c.in-Err-Refused.ensures.told _ (ap Err c.in-Err-Refused.field-0-is) in
    let core = c.in-Err-Refused.ensures.refused _ (ap Err c.in-Err-Refused.field-0-is) in
    ready_after c.read_begin.new.self _ _ _ c.args.pool.now.history told.1 refl refl
    (ap (λ (v : CoreView). v.state.stage) core ∙ c.requires.ready.between)
    (ap (λ (v : CoreView). v.state.suspended) core ∙ c.requires.ready.up)
    (ap (λ (v : CoreView). v.state.reads) core ∙ c.requires.ready.unread)

pub returns-in-Err-Refused-clause-goes_on : goal.returns-in-Err-Refused-clause-goes_on
returns-in-Err-Refused-clause-goes_on g c =
    let told = c.in-Err-Refused.ensures.told _ (ap Err c.in-Err-Refused.field-0-is) in
    let core = c.in-Err-Refused.ensures.refused _ (ap Err c.in-Err-Refused.field-0-is) in
    went_one _ _ _ c.args.pool.now c.read_begin.new.self _ _ told.1 (ap (λ (v : CoreView). v.shape) core) refl

pub returns-in-Err-Memory-clause-stops : goal.returns-in-Err-Memory-clause-stops
returns-in-Err-Memory-clause-stops g c = record {
  went_on = part_same _ _ _ _ _ (c.in-Err-Memory.ensures.memory (ap Err c.in-Err-Memory.field-0-is)) (longer_none (journals (g.C.Children.device c.args.rig.now.set)));
}

pub end_read-requires : goal.end_read-requires
end_read-requires g c = record { got = tt; begun = awaits c.args.pool.now c.read_begin.new.self _ c.requires.ready c.in-Ok.ensures.begun }

pub returns-in-Staged : goal.returns-in-Staged
returns-in-Staged g c = record {
  ready = c.end_read.ensures.ready;
  goes_on = went_both _ _ _ _ None _ _ _ _ _ _ _ c.end_read.result c.in-Ok.ensures.event c.in-Ok.ensures.begun c.end_read.ensures.ended
      (read_none _ _ _ (journals (g.C.Children.device c.args.rig.now.set)) c.in-Staged.is);
  stops = read_ends _ _ _ c.args.pool.now c.read_begin.new.self c.end_read.new.pool _ _ _ c.end_read.result c.in-Ok.ensures.event c.in-Ok.ensures.begun c.end_read.ensures.err
      (longer_none (journals (g.C.Children.device c.args.rig.now.set)));
  memory = c.end_read.ensures.memory;
  calls = calls_none c.end_read.result _ _ c.end_read.ensures.memory;
}

pub returns-in_err-copy-in-Pinned-clause-stops : goal.returns-in_err-copy-in-Pinned-clause-stops
returns-in_err-copy-in-Pinned-clause-stops g c =
    read_stops _ _ _ c.args.pool.now c.read_begin.new.self c.read_begin.new.self _ _ _ c.from_residual.result c.in-Ok.ensures.event c.in-Ok.ensures.begun refl
    (longer_none (journals (g.C.Children.device c.args.rig.now.set)))

pub end_read-requires-in-Ok-read_any-clause-begun : goal.end_read-requires-in-Ok-read_any-clause-begun
end_read-requires-in-Ok-read_any-clause-begun g c =
    subst (λ (p : ReadPlan). AwaitsRead c.args.by p c.read_begin.new.self) c.in-Pinned.is (awaits c.args.pool.now c.read_begin.new.self _ c.requires.ready c.in-Ok.ensures.begun)

pub returns-in-Ok-read_any-clause-goes_on : goal.returns-in-Ok-read_any-clause-goes_on
returns-in-Ok-read_any-clause-goes_on g c =
    let width = ap (λ (s : Shape). s.width) c.shape.ensures ∙ ap (λ (v : CoreView). v.shape.width) c.in-Ok.ensures.begun in
    let long : length c.deref_mut.result.now ≡ size_of c.in-Pinned.item = search rules in
    went_both _ _ _ _ _ _ _ _ _ _ _ _ c.end_read-in-Ok-read_any.result c.in-Ok.ensures.event c.in-Ok.ensures.begun c.end_read-in-Ok-read_any.ensures.ended
    (read_found _ _ _ _ _ _ _ c.as_slice.result.now _ _ _ width long (plan_first c.args.pool.now.core _ _ _ c.in-Pinned.is c.in-Ok.ensures.within) c.in-Ok-read_any.ensures.found c.read_any.ensures.leaves)

pub returns-in-Ok-read_any-clause-stops : goal.returns-in-Ok-read_any-clause-stops
returns-in-Ok-read_any-clause-stops g c =
    read_ends _ _ _ c.args.pool.now c.read_begin.new.self c.end_read-in-Ok-read_any.new.pool _ _ _ c.end_read-in-Ok-read_any.result c.in-Ok.ensures.event c.in-Ok.ensures.begun
    c.end_read-in-Ok-read_any.ensures.err (longer_of _ _ _ _ (set_left _ _ _ _ _ _ c.read_any.ensures.leaves))

pub end_read-requires-in-Err-Lost-clause-begun : goal.end_read-requires-in-Err-Lost-clause-begun
end_read-requires-in-Err-Lost-clause-begun g c =
    subst (λ (p : ReadPlan). AwaitsRead c.args.by p c.read_begin.new.self) c.in-Pinned.is (awaits c.args.pool.now c.read_begin.new.self _ c.requires.ready c.in-Ok.ensures.begun)

pub returns-in-Err-Lost-clause-goes_on : goal.returns-in-Err-Lost-clause-goes_on
returns-in-Err-Lost-clause-goes_on g c =
    let width = ap (λ (s : Shape). s.width) c.shape.ensures ∙ ap (λ (v : CoreView). v.shape.width) c.in-Ok.ensures.begun in
    let long : length c.deref_mut.result.now ≡ size_of c.in-Pinned.item = search rules in
    went_both _ _ _ _ None _ _ _ _ _ _ _ c.end_read-in-Err-Lost.result c.in-Ok.ensures.event c.in-Ok.ensures.begun c.end_read-in-Err-Lost.ensures.ended
    (read_lost _ _ _ _ _ _ _ _ _ _ _ width long (plan_first c.args.pool.now.core _ _ _ c.in-Pinned.is c.in-Ok.ensures.within) c.in-Err-Lost.field-0-is c.in-Err-Lost.ensures.lost c.read_any.ensures.leaves)

pub returns-in-Err-Lost-clause-stops : goal.returns-in-Err-Lost-clause-stops
returns-in-Err-Lost-clause-stops g c =
    read_ends _ _ _ c.args.pool.now c.read_begin.new.self c.end_read-in-Err-Lost.new.pool _ _ _ c.end_read-in-Err-Lost.result c.in-Ok.ensures.event c.in-Ok.ensures.begun
    c.end_read-in-Err-Lost.ensures.err (longer_of _ _ _ _ (set_left _ _ _ _ _ _ c.read_any.ensures.leaves))

pub returns-clause-stops : goal.returns-clause-stops
returns-clause-stops g c =
    read_stops _ _ _ c.args.pool.now c.read_begin.new.self c.read_begin.new.self _ _ _ _ c.in-Ok.ensures.event c.in-Ok.ensures.begun refl
    (longer_of _ _ _ _ (set_left _ _ _ _ _ _ c.read_any.ensures.leaves))
