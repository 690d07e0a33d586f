use Rattle.std.proofs.Common.{List}
use Rattle.std.specs.Prelude.{Result}
use Rattle.std.proofs.lemmas.Result.{on_err_weaker}
use Rattle.zs_io.specs.declared.fault.BayFault.{BayFault}
use Rattle.zs_script.specs.declared.command.Command.{Command}
use Rattle.zs_core.specs.View.{PoolView}
use Rattle.zs_session.specs.Devices.{Journals}
use Rattle.zs_session.specs.Session.{StopsLine, StopsIn, WantsMemory}
use Rattle.zs_session.proofs.Histories.{part_none}
use Rattle.zs_session.proofs.Sets.{longer_none}
use Rattle.zs_session.proofs.Rotten.{stops_told}
use Rattle.zs_session.proofs.lines.run_line.Goals as goal

-- a line that stops has none of its commands
stops_in : {T : Type 0} (r : Result T BayFault) (old new : PoolView) (before after : Journals) (cs : List Command) → StopsLine old new before after r → StopsIn old new before after cs r
stops_in r old new before after cs stops = record { went_on = on_err_weaker r (part_none old new before after cs) stops.went_on }

-- so has one that calls no device
wants_in : {T : Type 0} (r : Result T BayFault) (old new : PoolView) (js : Journals) (cs : List Command) → WantsMemory old new r → StopsIn old new js js cs r
wants_in r old new js cs wants = stops_in r old new js js cs (stops_told r old new js js (longer_none js) wants)

pub returns-in-Sync-clause-stops : goal.returns-in-Sync-clause-stops
returns-in-Sync-clause-stops g c = stops_in _ _ _ _ _ _ c.end_sync.ensures.stops

pub returns-in-Walk-clause-stops : goal.returns-in-Walk-clause-stops
returns-in-Walk-clause-stops g c = wants_in _ _ _ _ _ c.walk.ensures.stops

pub returns-in-Hold-clause-stops : goal.returns-in-Hold-clause-stops
returns-in-Hold-clause-stops g c = wants_in _ _ _ _ _ c.hold.ensures.stops

pub returns-in-Issue-clause-stops : goal.returns-in-Issue-clause-stops
returns-in-Issue-clause-stops g c = stops_in _ _ _ _ _ _ c.issue.ensures.stops

pub returns-in-Land-clause-stops : goal.returns-in-Land-clause-stops
returns-in-Land-clause-stops g c = stops_in _ _ _ _ _ _ c.land.ensures.stops

pub returns-in-Finish-clause-stops : goal.returns-in-Finish-clause-stops
returns-in-Finish-clause-stops g c = stops_in _ _ _ _ _ _ c.finish.ensures.stops

pub returns-in-Rot-clause-stops : goal.returns-in-Rot-clause-stops
returns-in-Rot-clause-stops g c = stops_in _ _ _ _ _ _ c.rot.ensures.stops

pub returns-in-Fs-clause-stops : goal.returns-in-Fs-clause-stops
returns-in-Fs-clause-stops g c = wants_in _ _ _ _ _ c.command.ensures.stops
