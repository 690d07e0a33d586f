-- The images of a pool: which can be made a new one, seen as the list of their sizes and the list of what each tells; and what the
-- calls that test them leave of their lanes.
use Rattle.std.specs.Prelude.{◌≡◌, ◌≢◌, ◌==◌, ℕ, ◌+◌, ◌*◌, ◌/◌, ◌++◌, ◌<◌, ◌≤◌, min, Bool, true, false, List, [], ◌∷◌, Option, None, option_map, length, map, take}
use Rattle.std.specs.Prelude.{slice_get, slice_index, slice_index_or, slice_range, Result, Err, OnOk, IsErrOf}
use Rattle.std.specs.List.{list_all}
use Rattle.zs_io.specs.Told.{Told}
use Rattle.zs_io.specs.declared.device.Device.{Ghosts}
use Rattle.zs_io.specs.declared.fault.BayFault.{BayFault}
use Rattle.zs_io.specs.declared.fault.BayFault.TheVariants.{Failed}
use Rattle.zs_ids.specs.Graph.{Has}
use Rattle.zs_lane.specs.declared.mark.Mark.{Mark}
use Rattle.zs_lane.specs.declared.mark.Mark.TheVariants.{Read}
use Rattle.zs_lane.specs.Children.{DeviceView, of_lane, device_at}
use Rattle.zs_lane.specs.Lane.{LaneView}
use Rattle.zs_script.specs.declared.refusal.Refusal.{Refusal}
use Rattle.zs_script.specs.declared.refusal.Refusal.TheVariants.{Shape, NotBlank, TooSmall, TooLarge}
use Rattle.zs_session.specs.declared.images.ImageFault.{ImageFault}
use Rattle.zs_session.specs.declared.images.ImageFault.TheVariants.{Unread}
use Rattle.zs_session.specs.Devices.{SetGoesOn, SomeRose}

-- what each lane's device has
abbrev pub of_each : {D A : Type 0} → (D → A) → List (LaneView D) → List A
of_each f lanes = map (λ l. f l.device) lanes

-- the devices of lanes
abbrev pub devices_of : {D : Type 0} → List (LaneView D) → List D
devices_of lanes = of_each (λ d. d) lanes

-- lanes as a set of devices
abbrev pub views_of : {D : Type 0} → Ghosts D → List (LaneView D) → ℕ → DeviceView
views_of dev lanes k = device_at (of_lane dev) (slice_get lanes k)

-- what k of a list of devices tells; nothing where there is no such device
abbrev pub told_at : List (Option (List ℕ)) → ℕ → Option (List ℕ)
told_at told k = slice_index_or told k None

-- the bytes that a label could lie in: the first 2,048, or all where there are fewer
abbrev pub head_of : ℕ → List ℕ → List ℕ
head_of size bytes = slice_range bytes 0 (0 + min size 2048)

-- these bytes are all zero
abbrev pub is_zero : List ℕ → Bool
is_zero bytes = list_all (λ b. b == 0) bytes

-- the least number of sectors of an image: the labels, two record slots and 32 sectors of space
abbrev pub least_sectors : ℕ → ℕ
least_sectors blocks = 8 + 2 * (128 + blocks / 4) + 32

-- the greatest number of sectors of an image, which are 1 GiB
abbrev pub most_sectors : ℕ
most_sectors = 2097152

-- the images are one mirror of that width, their heads are blank, and each has enough sectors and not too many
pub record AreFit (width blocks : ℕ) (sizes : List ℕ) (told : List (Option (List ℕ))) : Type 0 where
  pub count : length sizes ≡ width
  pub blank : (k : ℕ) → k < width → Told (told_at told k) (λ bytes. is_zero (head_of (slice_index sizes k) bytes) ≡ true)
  pub least : (k : ℕ) → k < width → least_sectors blocks ≤ slice_index sizes k / 512
  pub most : (k : ℕ) → k < width → slice_index sizes k / 512 ≤ most_sectors

-- each head is blank, where it is told
abbrev pub AreBlank : List ℕ → List (Option (List ℕ)) → Type 0
AreBlank sizes told = (k : ℕ) → k < length sizes → Told (told_at told k) (λ bytes. is_zero (head_of (slice_index sizes k) bytes) ≡ true)

-- some head is not blank, where it is told
abbrev pub SomeWritten : List ℕ → List (Option (List ℕ)) → Type 0
SomeWritten sizes told = (k : ℕ) × (k < length sizes) × Told (told_at told k) (λ bytes. is_zero (head_of (slice_index sizes k) bytes) ≡ false)

-- each image has enough sectors
abbrev pub AreEnough : ℕ → List ℕ → Type 0
AreEnough blocks sizes = (k : ℕ) → k < length sizes → least_sectors blocks ≤ slice_index sizes k / 512

-- why images of these sizes are refused; the first of these that holds
abbrev pub IsSizeFault : ℕ → List ℕ → Refusal → Type 0
IsSizeFault blocks sizes TooSmall = (k : ℕ) × (k < length sizes) × (slice_index sizes k / 512 < least_sectors blocks)
IsSizeFault blocks sizes TooLarge = AreEnough blocks sizes × ((k : ℕ) × (k < length sizes) × (most_sectors < slice_index sizes k / 512))
IsSizeFault blocks sizes _ = ⊥

-- why the images are refused; the first of these that holds
abbrev pub IsImageFault : ℕ → ℕ → List ℕ → List (Option (List ℕ)) → Refusal → Type 0
IsImageFault width blocks sizes told Shape = length sizes ≢ width
IsImageFault width blocks sizes told NotBlank = (length sizes ≡ width) × SomeWritten sizes told
IsImageFault width blocks sizes told fault = (length sizes ≡ width) × AreBlank sizes told × IsSizeFault blocks sizes fault

-- as many sectors as images of these sizes, each the whole sectors of its image, of which none has too few and none too many
pub record AreSectors (width blocks images : ℕ) (sizes sectors : List ℕ) : Type 0 where
  pub count : length sectors ≡ width
  pub devices : images ≡ width
  pub are : (k : ℕ) → k < images → slice_index sectors k ≡ slice_index sizes k / 512
  pub least : (k : ℕ) → k < length sectors → least_sectors blocks ≤ slice_index sectors k
  pub most : (k : ℕ) → k < length sectors → slice_index sectors k ≤ most_sectors

-- the one mark of the read of the head of an image of that size
abbrev pub IsHeadRead : ℕ → List Mark → Type 0
IsHeadRead size marks = (sum : List ℕ) × (marks ≡ Read 0 (min size 2048) sum ∷ [])

-- the journal has the mark of the read of a head of that size more
abbrev pub ReadsHead : ℕ → Option (List Mark) → Option (List Mark) → Type 0
ReadsHead size old new = (marks : List Mark) × IsHeadRead size marks × (new ≡ option_map (λ j. j ++ marks) old)

-- the head of each of the first devices was read, and no other call was made
pub record ReadsHeads (count : ℕ) (old new : ℕ → DeviceView) : Type 0 where
  pub each : (k : ℕ) → k < count → ReadsHead (old k).size (old k).journal (new k).journal
  pub others : (k : ℕ) → count ≤ k → (new k).journal ≡ (old k).journal

-- what calls that write nothing leave of lanes: each device keeps its size and what it tells, and goes on
pub record Unwritten {D : Type 0} (dev : Ghosts D) (old new : List (LaneView D)) : Type 0 where
  pub set : SetGoesOn (length old) (length new) (views_of dev old) (views_of dev new)
  pub sizes : of_each dev.size new ≡ of_each dev.size old
  pub told : of_each dev.told new ≡ of_each dev.told old

-- the heads of the first lanes were read, and no call failed
pub record ReadsFirst {D : Type 0} (dev : Ghosts D) (count : ℕ) (old new : List (LaneView D)) : Type 0 where
  pub kept : Unwritten dev old new
  pub counts : of_each dev.faults new ≡ of_each dev.faults old
  pub heads : ReadsHeads count (views_of dev old) (views_of dev new)

-- what the read of the head of one lane leaves: the count of its device rises just where it fails
pub record HeadCalls {D T : Type 0} (dev : Ghosts D) (k : ℕ) (old new : List (LaneView D)) (result : Result T BayFault) : Type 0 where
  pub kept : Unwritten dev old new
  pub failed : IsErrOf result Failed → SomeRose (views_of dev old) (views_of dev new)
  pub counts : result ≢ Err Failed → of_each dev.faults new ≡ of_each dev.faults old
  pub head : OnOk result (ReadsHead (views_of dev old k).size (views_of dev old k).journal (views_of dev new k).journal)
  pub others : OnOk result ((e : ℕ) → e ≢ k → (views_of dev new e).journal ≡ (views_of dev old e).journal)

-- what the reads of heads leave of lanes: the count of a device rises just where its head can't be read
pub record BlankCalls {D T : Type 0} (dev : Ghosts D) (old new : List (LaneView D)) (result : Result T BayFault) : Type 0 where
  pub kept : Unwritten dev old new
  pub failed : IsErrOf result Failed → SomeRose (views_of dev old) (views_of dev new)
  pub counts : result ≢ Err Failed → of_each dev.faults new ≡ of_each dev.faults old

-- what the calls that test images leave of their lanes: the same; and where the images fit, each head was read
pub record TestCalls {D T : Type 0} (dev : Ghosts D) (old new : List (LaneView D)) (result : Result T ImageFault) : Type 0 where
  pub kept : Unwritten dev old new
  pub unread : IsErrOf result Unread → SomeRose (views_of dev old) (views_of dev new)
  pub counts : result ≢ Err Unread → of_each dev.faults new ≡ of_each dev.faults old
  pub heads : OnOk result (ReadsHeads (length old) (views_of dev old) (views_of dev new))

-- no call has failed yet on any device
abbrev pub AreFresh : List ℕ → Type 0
AreFresh counts = (k : ℕ) → slice_index counts k ≡ 0

-- a call has failed on some device
abbrev pub HasFailed : List ℕ → Type 0
HasFailed counts = (k : ℕ) × (0 < slice_index counts k)

-- a bay was asked for these names, in order, and for no other
abbrev pub AsksAll : List (List ℕ) → Option (List (List ℕ)) → Option (List (List ℕ)) → Type 0
AsksAll names before now = now ≡ option_map (λ asked. asked ++ names) before

-- a bay was asked for the first of these names, in order, and for no other
pub record AsksFirst (names : List (List ℕ)) (before now : Option (List (List ℕ))) : Type 0 where
  pub many : ℕ
  pub asked : AsksAll (take many names) before now

-- no lane's journal has a mark, and no call of its device has failed yet
pub record AreNew {D : Type 0} (faults : D → ℕ) (lanes : List (LaneView D)) : Type 0 where
  pub empty : (l : LaneView D) → Has lanes l → l.journal ≡ []
  pub fresh : (l : LaneView D) → Has lanes l → faults l.device ≡ 0

-- these are the first images of a bay, where it tells them
abbrev pub AreFirstOf : {D : Type 0} → Option (List D) → List D → Type 0
AreFirstOf bay devices = Told bay (λ images. devices ≡ take (length devices) images)
