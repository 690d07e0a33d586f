use Rattle.std.proofs.Common.{◌∙◌}
use Rattle.zs_machine.specs.History.{text_of}
use Rattle.zs_session.specs.Devices.{journals}
use Rattle.zs_session.proofs.Texts.{part_all, put_all}
use Rattle.zs_session.proofs.Commands.{went_next, part_of_lines}
use Rattle.zs_session.proofs.Histories.{went_none}
use Rattle.zs_session.proofs.Rooms.{same_devices}
use Rattle.zs_session.proofs.Running.{calls_put, lines_done, lines_stop, nothing_run}
use Rattle.zs_session.proofs.Sets.{set_none, set_twice}
use Rattle.zs_session.proofs.session.run_lines.Goals as goal

pub loop-line-preserved : goal.loop-line-preserved
loop-line-preserved g c = record {
  ready = c.in-Ok-take_line.ensures.ready;
  goes_on = went_next c.args.pool.now c.loop-line.pool c.take_line.new.pool (journals (g.C.Children.device c.args.rig.now.set)) (journals (g.C.Children.device c.loop-line.rig.set))
      (journals (g.C.Children.device c.take_line.new.rig.set)) c.args.lines.now c.loop-line.line-index _ c.loop-line-test.true c.loop-line.invariant.goes_on c.in-Ok-take_line.ensures.goes_on;
  told = c.in-Ok-take_line.ensures.text.told _ c.loop-line.invariant.told;
  set = set_twice _ _ _ _ _ _ c.loop-line.invariant.set c.take_line.ensures.calls.set;
  faults = c.in-Ok-take_line.ensures.calls.cause.ok ∙ c.loop-line.invariant.faults;
}

pub loop-line-init : goal.loop-line-init
loop-line-init g c = record {
  ready = c.requires.ready;
  goes_on = went_none c.args.pool.now (journals (g.C.Children.device c.args.rig.now.set));
  told = put_all (g.K.Sink.told c.args.out.now) (g.K.Sink.told c.put_events.new.out) c.history.result.now c.args.pool.now.history c.history.ensures c.in-Ok.ensures.told;
  set = set_none (g.C.Children.count c.args.rig.now.set) (g.C.Children.device c.args.rig.now.set);
  faults = c.in-Ok.ensures.cause.ok;
}

pub take_line-requires-clause-devices : goal.take_line-requires-clause-devices
take_line-requires-clause-devices g c = same_devices _ _ _ _ _ _ c.loop-line.invariant.goes_on.shape c.loop-line.invariant.set c.requires.devices

pub returns-clause-text : goal.returns-clause-text
returns-clause-text g c = record {
  told = c.loop-line.invariant.told;
  part = part_all (g.K.Sink.told c.args.out.now) (g.K.Sink.told c.loop-line.out) (text_of c.loop-line.pool.history) c.loop-line.invariant.told;
  whole = λ is. c.loop-line.invariant.told;
}

pub returns-clause-calls : goal.returns-clause-calls
returns-clause-calls g c = lines_done _ _ _ _ _ _ _ c.loop-line.invariant.set c.loop-line.invariant.faults

pub returns-in-Err-clause-went_on : goal.returns-in-Err-clause-went_on
returns-in-Err-clause-went_on g c = nothing_run c.args.pool.now (journals (g.C.Children.device c.args.rig.now.set)) c.args.lines.now

pub returns-in-Err-clause-calls : goal.returns-in-Err-clause-calls
returns-in-Err-clause-calls g c = calls_put _ _ _ _ _ _ _ (set_none (g.C.Children.count c.args.rig.now.set) (g.C.Children.device c.args.rig.now.set)) c.in-Err.ensures.cause

pub returns-in-Err-take_line-clause-went_on : goal.returns-in-Err-take_line-clause-went_on
returns-in-Err-take_line-clause-went_on g c =
    part_of_lines c.args.pool.now c.loop-line.pool c.take_line.new.pool (journals (g.C.Children.device c.args.rig.now.set)) (journals (g.C.Children.device c.loop-line.rig.set))
    (journals (g.C.Children.device c.take_line.new.rig.set)) c.args.lines.now c.loop-line.line-index _ c.loop-line-test.true c.loop-line.invariant.goes_on c.in-Err-take_line.ensures.went_on

pub returns-in-Err-take_line-clause-text : goal.returns-in-Err-take_line-clause-text
returns-in-Err-take_line-clause-text g c = record {
  told = tt;
  part = c.in-Err-take_line.ensures.text.part _ c.loop-line.invariant.told;
  whole = λ is. c.in-Err-take_line.ensures.text.whole is _ c.loop-line.invariant.told;
}

pub returns-in-Err-take_line-clause-calls : goal.returns-in-Err-take_line-clause-calls
returns-in-Err-take_line-clause-calls g c = lines_stop _ _ _ _ _ _ _ _ _ _ c.loop-line.invariant.set c.loop-line.invariant.faults c.in-Err-take_line.ensures.calls
