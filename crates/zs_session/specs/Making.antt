-- A pool that was made of the images of a session.
use Rattle.std.specs.Prelude.{◌≡◌, List, [], ◌∷◌, length}
use Rattle.zs_io.specs.declared.device.Device.{Ghosts}
use Rattle.zs_lane.specs.Lane.{LaneView}
use Rattle.zs_script.specs.declared.command.Command.{Command}
use Rattle.zs_machine.specs.Commands.{commands_of}
use Rattle.zs_core.specs.View.{PoolView}
use Rattle.zs_session.specs.Devices.{AreDevicesOf}
use Rattle.zs_session.specs.Images.{views_of}
use Rattle.zs_session.specs.Plays.{IsMade}

-- a pool was made by this command of the devices of these lanes, which are its one mirror
pub record MakesPool {D : Type 0} (dev : Ghosts D) (command : Command) (lanes : List (LaneView D)) (p : PoolView) : Type 0 where
  pub commands : commands_of p.history ≡ command ∷ []
  pub made : IsMade p
  pub devices : AreDevicesOf p.core.shape (length lanes) (views_of dev lanes)
  pub width : length lanes ≡ p.core.shape.width
