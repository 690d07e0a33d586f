use Rattle.std.proofs.Common.{arith}
use Rattle.zs_session.proofs.Texts.{part_of_event}
use Rattle.zs_session.proofs.session.put_events.Goals as goal

pub returns-in-Err-clause-part : goal.returns-in-Err-clause-part
returns-in-Err-clause-part g c =
    part_of_event c.args.events.now c.loop-event.event-index c.event-item.result (g.K.Sink.told c.args.out.now) (g.K.Sink.told c.loop-event.out) (g.K.Sink.told c.put_event.new.out) c.event-item.is (omega arith) c.loop-event.invariant.told c.in-Err.ensures.part
