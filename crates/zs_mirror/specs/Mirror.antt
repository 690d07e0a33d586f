-- A block on the devices of its mirror, and what calls on them leave of each.
use Rattle.std.specs.Prelude.{◌≡◌, ◌≢◌, ◌⊎◌, ◌==◌, ◌-◌, ◌^◌, ℕ, ◌+◌, ◌*◌, ◌<◌, ◌≤◌, Bool, true, false, List, ◌++◌, length, Option, option_map}
use Rattle.std.specs.Int.{bit_at}
use Rattle.zs_ids.specs.declared.block.Item.{Item}
use Rattle.zs_ids.specs.declared.block.Place.{Place}
use Rattle.zs_ids.specs.declared.limits.TheConstants.{BLOCK_SECTORS, DEVICES, SECTOR, WIDTH}
use Rattle.zs_io.specs.Told.{Told, BothTold, Torn, over}
use Rattle.zs_io.specs.Crash.{Only}
use Rattle.zs_io.specs.Faults.{Rose}
use Rattle.zs_lane.specs.declared.mark.Mark.{Mark}
use Rattle.zs_lane.specs.Children.{DeviceView, Stays, GoesOn}

-- no place in a journal
abbrev pub nowhere : ℕ
nowhere = 2 ^ 64 - 1

-- the first byte of a block's copies
abbrev pub start_of : Place → ℕ
start_of place = SECTOR * place.sector

-- how many bytes an item has
abbrev pub size_of : Item → ℕ
size_of item = SECTOR * item.sectors

-- the first device of a mirror
abbrev pub first_of : ℕ → ℕ → ℕ
first_of vdev width = vdev * width

-- the mask has the device's bit
abbrev pub has_bit : ℕ → ℕ → Bool
has_bit mask dev = bit_at mask dev == 1

-- A block of that many bytes lies on each device of its mirror, and these are in the set.
pub record IsMirror (count width : ℕ) (place : Place) (len : ℕ) (devices : ℕ → DeviceView) : Type 0 where
  pub most : count ≤ DEVICES
  pub some : 1 ≤ width
  pub few : width ≤ WIDTH
  -- the devices of mirror v are v * width, v * width + 1 and so on
  pub within : first_of place.vdev width + width ≤ count
  pub sectors : ℕ
  pub whole : len ≡ SECTOR * sectors
  pub not_empty : 1 ≤ sectors
  pub greatest : sectors ≤ BLOCK_SECTORS
  pub fits : (k : ℕ) → k < width → start_of place + len ≤ (devices (first_of place.vdev width + k)).size

-- the device holds none of the first copies of the mirror
abbrev pub IsOther : ℕ → ℕ → ℕ → Type 0
IsOther first copies dev = (k : ℕ) → k < copies → dev ≢ first + k

-- What calls on the first copies leave of the set: the number of devices, every size, and the devices that hold none
-- of them. Each journal goes on, a lawful one lawfully, and a count of faults rises only where a mark tells of it.
pub record Leaves (first copies count_old count_new : ℕ) (old new : ℕ → DeviceView) : Type 0 where
  pub count : count_new ≡ count_old
  pub sizes : (e : ℕ) → (new e).size ≡ (old e).size
  pub others : (e : ℕ) → IsOther first copies e → Stays (old e) (new e)
  pub goes_on : (e : ℕ) → GoesOn (old e) (new e)

-- What calls did to the bytes of a device: nothing, a write of these from there on, or such a write that failed.
pub data Change : Type 0 where
  Kept : Change
  Put : ℕ → List ℕ → Change
  Opened : ℕ → List ℕ → Change

-- what it tells then: what it told; with the written bytes over it; or with their range left open
abbrev pub Tells : Change → Option (List ℕ) → Option (List ℕ) → Type 0
Tells Kept old new = new ≡ old
Tells (Put at bytes) old new = new ≡ option_map (over at bytes) old
Tells (Opened at bytes) old new = BothTold (Torn at bytes) old new

-- the images that a crash may leave of it then: those that it could leave before, with the range of a write open
abbrev pub Reaches : Change → (List ℕ → Type 0) → List ℕ → Type 0
Reaches Kept old c = old c
Reaches (Put at bytes) old c = (d : List ℕ) × old d × Torn at bytes d c
Reaches (Opened at bytes) old c = (d : List ℕ) × old d × Torn at bytes d c

-- What a crash may leave after calls, and might have left at a moment since an earlier one.
pub record Crashes (change : Change) (old new : DeviceView) : Type 0 where
  pub now : (c : List ℕ) → new.may_leave c → Reaches change old.may_leave c
  pub later : old.moment ≤ new.moment
  pub since : (t : ℕ) (c : List ℕ) → t ≤ old.moment → new.left_since t c → old.left_since t c ⊎ Reaches change old.may_leave c

-- the count of faults rose just where a call failed
abbrev pub Counts : Bool → ℕ → ℕ → Type 0
Counts false old new = new ≡ old
Counts true old new = Rose old new

-- What calls on a copy left of its device: the marks that the journal gained, the place of the last of them, and
-- what became of bytes and count.
pub record Went (change : Change) (marks : List Mark) (failed : Bool) (place : ℕ) (old new : DeviceView) : Type 0 where
  pub journal : new.journal ≡ option_map (λ j. j ++ marks) old.journal
  pub last : Told old.journal (λ j. place + 1 ≡ length j + length marks)
  pub told : Tells change old.told new.told
  pub crash : Crashes change old new
  pub faults : Counts failed old.faults new.faults

-- a crash leaves what a read gives
abbrev pub IsDurable : DeviceView → Type 0
IsDurable device = Told device.told (λ b. Only b device.may_leave)

-- There was no call on a copy.
pub record Uncalled (place : ℕ) (old new : DeviceView) : Type 0 where
  pub place_is : place ≡ nowhere
  pub stays : Stays old new

-- Nothing was written.
pub record Untouched (old new : DeviceView) : Type 0 where
  pub told : new.told ≡ old.told
  pub crash : Crashes Kept old new

-- At most a write of these bytes was made or begun: outside of its range all is as it was.
pub record Touched (at : ℕ) (bytes : List ℕ) (old new : DeviceView) : Type 0 where
  pub told : BothTold (Torn at bytes) old.told new.told
  pub crash : Crashes (Opened at bytes) old new
