use Rattle.std.proofs.Common.{◌≡◌, ◌++◌, take, option_map}
use Rattle.zs_machine.specs.History.{text_of}
use Rattle.zs_session.specs.Devices.{SetGoesOn, journals}
use Rattle.zs_session.specs.Plays.{Went}
use Rattle.zs_session.specs.Session.{IsReady, commands_in}
use Rattle.zs_session.proofs.session.run_lines.Given as goal

abbrev pub invariant-loop-line : goal.invariant-loop-line
invariant-loop-line g l = record {
  ready : IsReady l.pool;
  goes_on : Went l.fn.pool l.pool (journals (g.C.Children.device l.fn.rig.set)) (journals (g.C.Children.device l.rig.set)) (commands_in (take l.line-index l.lines));
  told : g.K.Sink.told l.out ≡ option_map (λ b. b ++ text_of l.pool.history) (g.K.Sink.told l.fn.out);
  set : SetGoesOn (g.C.Children.count l.fn.rig.set) (g.C.Children.count l.rig.set) (g.C.Children.device l.fn.rig.set) (g.C.Children.device l.rig.set);
  faults : g.K.Sink.faults l.out ≡ g.K.Sink.faults l.fn.out;
}
