-- A set of devices with journals: what it tells of each of them, what a call on one of them leaves, and a list of lanes as such a set.
use Rattle.std.specs.Prelude.{◌≡◌, ◌≢◌, ◌⊎◌, ◌≤◌, ℕ, List, [], ◌∷◌, ◌++◌, Option, None, Some, option_map, Result, IfErr, OnOk, OnErr}
use Rattle.zs_ids.specs.Graph.{Has}
use Rattle.zs_io.specs.Told.{Told, BothTold, Torn, over}
use Rattle.zs_io.specs.Faults.{Rose}
use Rattle.zs_io.specs.Crash.{Follows, NoMore, Elapses}
use Rattle.zs_io.specs.declared.device.Device.{Ghosts}
use Rattle.zs_lane.specs.declared.mark.Mark.{Mark}
use Rattle.zs_lane.specs.declared.mark.Mark.TheVariants.{Failed}
use Rattle.zs_lane.specs.declared.fault.LaneFault.{LaneFault}
use Rattle.zs_lane.specs.Journal.{Keeps}
use Rattle.zs_lane.specs.Lane.{LaneView, Refused, HasLaneCause}

-- what a set tells of one device
pub record DeviceView : Type 1 where
  -- in bytes
  pub size : ℕ
  -- its marks, and its bytes as they read, where they are told
  pub journal : Option (List Mark)
  pub told : Option (List ℕ)
  -- the images that a crash may leave at this moment
  pub may_leave : List ℕ → Type 0
  -- a number that does not fall
  pub moment : ℕ
  -- the images that a crash might have left at some moment from that one on
  pub left_since : ℕ → List ℕ → Type 0
  -- how often a call on it has failed
  pub faults : ℕ

-- The device is as it was, and so is what a crash may leave of it and might have left since a moment.
pub record Stays (old new : DeviceView) : Type 0 where
  pub journal : new.journal ≡ old.journal
  pub told : new.told ≡ old.told
  pub faults : new.faults ≡ old.faults
  pub moment : new.moment ≡ old.moment
  pub no_more : NoMore old.may_leave new.may_leave
  pub no_less : NoMore new.may_leave old.may_leave
  pub since_no_more : (t : ℕ) (c : List ℕ) → new.left_since t c → old.left_since t c
  pub since_no_less : (t : ℕ) (c : List ℕ) → old.left_since t c → new.left_since t c

-- What a call on one device leaves of the set: the number of devices, every size, and the other devices.
pub record OnlyOn (dev count_old count_new : ℕ) (old new : ℕ → DeviceView) : Type 0 where
  pub count : count_new ≡ count_old
  pub sizes : (e : ℕ) → (new e).size ≡ (old e).size
  pub others : (e : ℕ) → e ≢ dev → Stays (old e) (new e)

-- What calls leave of a device, whatever came of them. Its journal goes on; one that was lawful is so still, whatever bytes the
-- device was opened with. Its count of faults rises just where a call failed, which one of the marks that came tells.
pub record GoesOn (old new : DeviceView) : Type 0 where
  pub more : List Mark
  pub journal : new.journal ≡ option_map (λ j. j ++ more) old.journal
  pub lawful : (o : Option (List ℕ)) → Told old.journal (λ j. Keeps o j old.told) → Told new.journal (λ j. Keeps o j new.told)
  pub later : old.faults ≤ new.faults
  pub counted : (new.faults ≡ old.faults) ⊎ Has more Failed
  pub rose : Has more Failed → Rose old.faults new.faults

-- What each call leaves of its own device, whether it is done or refused.
pub record Called {T : Type 0} (old new : DeviceView) (result : Result T LaneFault) : Type 0 where
  pub err : IfErr result (λ e. BothTold (Refused e) old.journal new.journal)
  pub cause : HasLaneCause old.faults new.faults result
  pub time : Elapses old.moment new.moment old.left_since new.left_since new.may_leave
  pub goes_on : GoesOn old new

-- the journal has this mark more, where it is told
abbrev pub Marked : Mark → DeviceView → DeviceView → Type 0
Marked mark old new = new.journal ≡ option_map (λ j. j ++ mark ∷ []) old.journal

-- A call that writes nothing: the bytes stay, and a crash leaves nothing that it could not leave before.
pub record Unwritten (old new : DeviceView) : Type 0 where
  pub told : new.told ≡ old.told
  pub crash : NoMore old.may_leave new.may_leave

-- A call that writes these bytes from `at` on.
pub record Written {T : Type 0} (at : ℕ) (bytes : List ℕ) (old new : DeviceView) (result : Result T LaneFault) : Type 0 where
  pub done : OnOk result (new.told ≡ option_map (over at bytes) old.told)
  pub torn : OnErr result (BothTold (Torn at bytes) old.told new.told)
  -- either way
  pub crash : Follows (Torn at bytes) old.may_leave new.may_leave

-- a lane as one device of a set
abbrev pub of_lane : {D : Type 0} → Ghosts D → LaneView D → DeviceView
of_lane dev lane = record {
  size = dev.size lane.device;
  journal = Some lane.journal;
  told = dev.told lane.device;
  may_leave = dev.may_leave lane.device;
  moment = dev.moment lane.device;
  left_since = dev.left_since lane.device;
  faults = dev.faults lane.device;
}

-- what is told of a device that is not there
abbrev pub absent : DeviceView
absent = record { size = 0; journal = None; told = None; may_leave = λ c. ⊥; moment = 0; left_since = λ t c. ⊥; faults = 0 }

-- the lane as a device, where there is one
abbrev pub device_at : {L : Type 0} → (L → DeviceView) → Option L → DeviceView
device_at view None = absent
device_at view (Some lane) = view lane

-- what holds of each lane, and of a device that is not there
pub at_each : {L : Type 0} {view : L → DeviceView} (P : DeviceView → Type 0) → P absent → ((l : L) → P (view l))
    → (o : Option L) → P (device_at view o)
at_each P none each None = none
at_each P none each (Some l) = each l
