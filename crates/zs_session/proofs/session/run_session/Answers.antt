use Rattle.std.proofs.Common.{Err, ap, arith, ◌∙◌}
use Rattle.zs_session.proofs.Running.{counts_run, keeps_run, puts_cut, puts_done, puts_stopped, runs_all, runs_none, runs_part, sink_kept, sink_rose}
use Rattle.zs_session.proofs.Sets.{set_none}
use Rattle.zs_session.proofs.Texts.{part_none}
use Rattle.zs_session.proofs.session.run_session.Goals as goal

pub returns-in_default-clause-text : goal.returns-in_default-clause-text
returns-in_default-clause-text g c = puts_cut _ c.with.result _ _ c.with.ensures.session 7 (omega arith) c.with.ensures.status (part_none (g.K.Sink.told c.args.out.now) _)

pub returns-in_default-clause-lines : goal.returns-in_default-clause-lines
returns-in_default-clause-lines g c = runs_none g.D.Device c.args.session c.args.lines.now c.with.result c.with.ensures.session (λ done. omega (arith, done, c.with.ensures.status))

pub returns-in_default-clause-lanes : goal.returns-in_default-clause-lanes
returns-in_default-clause-lanes g c = keeps_run g.D.Device c.args.session.lanes.items _ c.with.result c.with.ensures.session (set_none _ _)

pub returns-in_default-clause-devices : goal.returns-in_default-clause-devices
returns-in_default-clause-devices g c =
    counts_run g.D.Device c.args.session.lanes.items _ c.with.result c.with.ensures.session (set_none _ _) c.requires.counted (λ a b d seven. seven c.with.ensures.status)
    (λ four. absurd (omega (arith, four, c.with.ensures.status)))

pub returns-in-Ok-outcome-clause-text : goal.returns-in-Ok-outcome-clause-text
returns-in-Ok-outcome-clause-text g c =
    puts_done _ c.with-in-Ok-outcome.result _ _ c.with-in-Ok-outcome.ensures.session c.with-in-Ok-outcome.ensures.status c.in-Ok-outcome.ensures.text.told

pub returns-in-Ok-outcome-clause-lines : goal.returns-in-Ok-outcome-clause-lines
returns-in-Ok-outcome-clause-lines g c =
    runs_all g.D.Device c.args.session _ c.args.lines.now c.with-in-Ok-outcome.result c.with-in-Ok-outcome.ensures.session c.in-Ok-outcome.ensures.goes_on

pub returns-in-Ok-outcome-clause-lanes : goal.returns-in-Ok-outcome-clause-lanes
returns-in-Ok-outcome-clause-lanes g c =
    keeps_run g.D.Device c.args.session.lanes.items _ c.with-in-Ok-outcome.result c.with-in-Ok-outcome.ensures.session c.run_pool-outcome.ensures.calls.set

pub returns-in-Ok-outcome-clause-devices : goal.returns-in-Ok-outcome-clause-devices
returns-in-Ok-outcome-clause-devices g c =
    counts_run g.D.Device c.args.session.lanes.items _ c.with-in-Ok-outcome.result c.with-in-Ok-outcome.ensures.session c.run_pool-outcome.ensures.calls.set c.requires.counted (λ done b d f. done c.with-in-Ok-outcome.ensures.status)
    (λ four. absurd (omega (arith, four, c.with-in-Ok-outcome.ensures.status)))

pub returns-in-Err-Device-clause-text : goal.returns-in-Err-Device-clause-text
returns-in-Err-Device-clause-text g c =
    puts_stopped _ c.with-in-Err-Device.result _ _ c.with-in-Err-Device.ensures.session c.with-in-Err-Device.ensures.status (c.run_pool-outcome.ensures.text.whole (c.in-Err-Device.is ∙ ap Err (rw c.in-Err-Device.is at c.in-Err-Device.field-0-is)))

pub returns-in-Err-Device-clause-lines : goal.returns-in-Err-Device-clause-lines
returns-in-Err-Device-clause-lines g c =
    runs_part g.D.Device c.args.session _ c.args.lines.now c.with-in-Err-Device.result c.with-in-Err-Device.ensures.session (λ done. omega (arith, done, c.with-in-Err-Device.ensures.status)) (rw c.in-Err-Device.is at c.run_pool-outcome.ensures.went_on)

pub returns-in-Err-Device-clause-lanes : goal.returns-in-Err-Device-clause-lanes
returns-in-Err-Device-clause-lanes g c =
    keeps_run g.D.Device c.args.session.lanes.items _ c.with-in-Err-Device.result c.with-in-Err-Device.ensures.session c.run_pool-outcome.ensures.calls.set

pub returns-in-Err-Device-clause-devices : goal.returns-in-Err-Device-clause-devices
returns-in-Err-Device-clause-devices g c =
    counts_run g.D.Device c.args.session.lanes.items _ c.with-in-Err-Device.result c.with-in-Err-Device.ensures.session c.run_pool-outcome.ensures.calls.set c.requires.counted (λ a four d f. four c.with-in-Err-Device.ensures.status)
    (λ four. (c.run_pool-outcome.ensures.calls.cause.device (c.in-Err-Device.is ∙ ap Err (rw c.in-Err-Device.is at c.in-Err-Device.field-0-is))).0)

pub returns-in-Err-Device-clause-sink : goal.returns-in-Err-Device-clause-sink
returns-in-Err-Device-clause-sink g c =
    sink_kept _ 4 _ _ c.with-in-Err-Device.ensures.status (λ six. omega (arith, six)) (c.run_pool-outcome.ensures.calls.cause.device (c.in-Err-Device.is ∙ ap Err (rw c.in-Err-Device.is at c.in-Err-Device.field-0-is))).1

pub returns-in-Err-Sink-clause-text : goal.returns-in-Err-Sink-clause-text
returns-in-Err-Sink-clause-text g c =
    puts_cut _ c.with-in-Err-Sink.result _ _ c.with-in-Err-Sink.ensures.session 6 (omega arith) c.with-in-Err-Sink.ensures.status c.run_pool-outcome.ensures.text.part

pub returns-in-Err-Sink-clause-lines : goal.returns-in-Err-Sink-clause-lines
returns-in-Err-Sink-clause-lines g c =
    runs_part g.D.Device c.args.session _ c.args.lines.now c.with-in-Err-Sink.result c.with-in-Err-Sink.ensures.session (λ done. omega (arith, done, c.with-in-Err-Sink.ensures.status)) (rw c.in-Err-Sink.is at c.run_pool-outcome.ensures.went_on)

pub returns-in-Err-Sink-clause-lanes : goal.returns-in-Err-Sink-clause-lanes
returns-in-Err-Sink-clause-lanes g c =
    keeps_run g.D.Device c.args.session.lanes.items _ c.with-in-Err-Sink.result c.with-in-Err-Sink.ensures.session c.run_pool-outcome.ensures.calls.set

pub returns-in-Err-Sink-clause-devices : goal.returns-in-Err-Sink-clause-devices
returns-in-Err-Sink-clause-devices g c =
    counts_run g.D.Device c.args.session.lanes.items _ c.with-in-Err-Sink.result c.with-in-Err-Sink.ensures.session c.run_pool-outcome.ensures.calls.set c.requires.counted (λ a b six f. six c.with-in-Err-Sink.ensures.status)
    (λ four. absurd (omega (arith, four, c.with-in-Err-Sink.ensures.status)))

pub returns-in-Err-Sink-clause-sink : goal.returns-in-Err-Sink-clause-sink
returns-in-Err-Sink-clause-sink g c =
    sink_rose _ _ _ c.with-in-Err-Sink.ensures.status (c.run_pool-outcome.ensures.calls.cause.sink (c.in-Err-Sink.is ∙ ap Err (rw c.in-Err-Sink.is at c.in-Err-Sink.field-0-is)))

pub returns-clause-text : goal.returns-clause-text
returns-clause-text g c =
    puts_cut _ c.with-in-Err-Memory.result _ _ c.with-in-Err-Memory.ensures.session 7 (omega arith) c.with-in-Err-Memory.ensures.status c.run_pool-outcome.ensures.text.part

pub returns-clause-lines : goal.returns-clause-lines
returns-clause-lines g c =
    runs_part g.D.Device c.args.session _ c.args.lines.now c.with-in-Err-Memory.result c.with-in-Err-Memory.ensures.session (λ done. omega (arith, done, c.with-in-Err-Memory.ensures.status)) (rw c.in-Err-Memory.is at c.run_pool-outcome.ensures.went_on)

pub returns-clause-lanes : goal.returns-clause-lanes
returns-clause-lanes g c =
    keeps_run g.D.Device c.args.session.lanes.items _ c.with-in-Err-Memory.result c.with-in-Err-Memory.ensures.session c.run_pool-outcome.ensures.calls.set

pub returns-clause-devices : goal.returns-clause-devices
returns-clause-devices g c =
    counts_run g.D.Device c.args.session.lanes.items _ c.with-in-Err-Memory.result c.with-in-Err-Memory.ensures.session c.run_pool-outcome.ensures.calls.set c.requires.counted (λ a b d seven. seven c.with-in-Err-Memory.ensures.status)
    (λ four. absurd (omega (arith, four, c.with-in-Err-Memory.ensures.status)))

pub returns-clause-sink : goal.returns-clause-sink
returns-clause-sink g c =
    sink_kept _ 7 _ _ c.with-in-Err-Memory.ensures.status (λ six. omega (arith, six)) (c.run_pool-outcome.ensures.calls.cause.memory (c.in-Err-Memory.is ∙ ap Err (rw c.in-Err-Memory.is at c.in-Err-Memory.field-0-is)))
