use Rattle.std.proofs.Common.{◌≡◌, ◌++◌, take, option_map}
use Rattle.zs_machine.specs.History.{text_of}
use Rattle.zs_session.proofs.session.put_events.Given as goal

abbrev pub invariant-loop-event : goal.invariant-loop-event
invariant-loop-event g l = record {
  told : g.K.Sink.told l.out ≡ option_map (λ b. b ++ text_of (take l.event-index l.events)) (g.K.Sink.told l.initial.out);
  faults : g.K.Sink.faults l.out ≡ g.K.Sink.faults l.initial.out;
}
