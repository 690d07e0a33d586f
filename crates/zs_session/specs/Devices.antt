-- What calls leave of the set of a session's devices.
use Rattle.std.specs.Prelude.{◌≡◌, ◌<◌, ◌/◌, ℕ, List, [], ◌++◌, slice_index, Option, Some, None, option_map, Result, IsErrOf}
use Rattle.zs_ids.specs.declared.block.Item.{Item}
use Rattle.zs_ids.specs.Graph.{Has}
use Rattle.zs_io.specs.Faults.{Rose}
use Rattle.zs_io.specs.declared.fault.BayFault.{BayFault}
use Rattle.zs_io.specs.declared.fault.BayFault.TheVariants.{Failed}
use Rattle.zs_lane.specs.declared.mark.Mark.{Mark}
use Rattle.zs_lane.specs.Children.{DeviceView, GoesOn}
use Rattle.zs_mirror.specs.Mirror.{IsMirror, size_of}
use Rattle.zs_machine.specs.declared.shape.Shape.{Shape}

-- the journals of a set, by the device's number, where they are told
abbrev pub Journals : Type 0
Journals = ℕ → Option (List Mark)

-- the journals of the devices of a set
abbrev pub journals : (ℕ → DeviceView) → Journals
journals devices dev = (devices dev).journal

-- the marks of a journal; none where it is not told
abbrev pub marks_in : Option (List Mark) → List Mark
marks_in None = []
marks_in (Some marks) = marks

-- the marks of the device of that number
abbrev pub marks_of : Journals → ℕ → List Mark
marks_of j dev = marks_in (j dev)

-- the count of some device rose
abbrev pub SomeRose : (ℕ → DeviceView) → (ℕ → DeviceView) → Type 0
SomeRose old new = (dev : ℕ) × Rose (old dev).faults (new dev).faults

-- What calls leave of a set, one after another: as many devices, of their sizes. The journal of each goes on, a lawful one
-- lawfully, and a count of faults rises just where a mark tells of it.
pub record SetGoesOn (count_old count_new : ℕ) (old new : ℕ → DeviceView) : Type 0 where
  pub count : count_new ≡ count_old
  pub sizes : (dev : ℕ) → (new dev).size ≡ (old dev).size
  pub each : (dev : ℕ) → GoesOn (old dev) (new dev)

-- the same, where the calls fail only where the count of a device rose
pub record Calls {T : Type 0} (count_old count_new : ℕ) (old new : ℕ → DeviceView) (result : Result T BayFault) : Type 0 where
  pub set : SetGoesOn count_old count_new old new
  pub failed : IsErrOf result Failed → SomeRose old new

-- devices of these sizes in bytes are those of a pool with this shape
pub record AreDevicesOf (s : Shape) (count : ℕ) (devices : ℕ → DeviceView) : Type 0 where
  pub count_is : count ≡ s.devices
  pub sectors : (k : ℕ) → k < count → slice_index s.sectors k ≡ (devices k).size / 512

-- each journal has these marks or more
abbrev pub AreLonger : Journals → Journals → Type 0
AreLonger old new = (dev : ℕ) → (more : List Mark) × (new dev ≡ option_map (λ j. j ++ more) (old dev))

-- an item lies on the devices of the one mirror
pub record LiesOn (count width : ℕ) (item : Item) (devices : ℕ → DeviceView) : Type 0 where
  pub lies : IsMirror count width item.piece.place (size_of item) devices
  pub first : item.piece.place.vdev ≡ 0

-- so does each of some items
abbrev pub LieOn : ℕ → ℕ → List Item → (ℕ → DeviceView) → Type 0
LieOn count width items devices = (i : Item) → Has items i → LiesOn count width i devices
