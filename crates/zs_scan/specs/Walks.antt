-- What a turn of the walk makes of a scan.
use Rattle.std.specs.Prelude.{◌≡◌, ◌≢◌, ◌<◌, ◌-◌, ◌&&◌, ℕ, Bool, nat_le, true, false, not, List, [], ◌∷◌, length, Option, Some, None, is_some, if◌then◌else◌}
use Rattle.zs_ids.specs.declared.block.Bp.{Bp}
use Rattle.zs_ids.specs.declared.block.Item.{Item}
use Rattle.zs_ids.specs.declared.block.Place.{Place}
use Rattle.zs_ids.specs.Graph.{Graph}
use Rattle.zs_phys.specs.declared.step.Step.{Step}
use Rattle.zs_phys.specs.declared.step.Step.TheVariants as steps
use Rattle.zs_phys.specs.Scope.{in_scope}
use Rattle.zs_phys.specs.declared.phys.Status.TheVariants.{Scanning}
use Rattle.zs_phys.specs.Turn.{Comes, advanced}
use Rattle.zs_queue.specs.Waiting.{with_item}
use Rattle.zs_walk.specs.Walking.{runs}
use Rattle.zs_scan.specs.declared.batch.Turn.{Turn}
use Rattle.zs_scan.specs.declared.batch.Turn.TheVariants as turns
use Rattle.zs_scan.specs.View.{ScanView, is_done, MarksAs}

-- the first of a block's places
abbrev pub first_place : List Place → Place
first_place [] = record { vdev = 0; sector = 0 }
first_place (p ∷ ps) = p

-- the item of a block's first place
abbrev pub item_of : Bp → Item
item_of bp = record { piece = record { place = first_place bp.places; birth = bp.birth }; sectors = bp.sectors; sum = bp.sum }

-- what a turn is called
abbrev pub turn_of : Step → Turn
turn_of steps.Nothing = turns.Nothing
turn_of steps.Skip = turns.Skip
turn_of (steps.Enter id least) = turns.Enter
turn_of (steps.At k bp) = turns.At
turn_of (steps.End id) = turns.End

-- the item that a turn puts into the queue: that of the block which it meets, where the block is born up to curmax, and
-- its piece is in scope and not done
abbrev pub item_put : ScanView → Step → Option Item
item_put v (steps.At k bp) =
    if nat_le bp.birth v.run.curmax && (in_scope v.scope (item_of bp).piece && not (is_done v (item_of bp).piece)) then Some (item_of bp) else None
item_put v steps.Nothing = None
item_put v steps.Skip = None
item_put v (steps.Enter id least) = None
item_put v (steps.End id) = None

-- a block that a turn meets has a first place
abbrev pub HasPlace : Step → Type 0
HasPlace (steps.At k bp) = 0 < length bp.places
HasPlace steps.Nothing = Unit {0}
HasPlace steps.Skip = Unit {0}
HasPlace (steps.Enter id least) = Unit {0}
HasPlace (steps.End id) = Unit {0}

-- an item may be put: a scan runs, and its piece is in scope and not done
pub record IsWanted (v : ScanView) (item : Item) : Type 0 where
  pub scans : v.run.status ≡ Scanning
  pub wanted : in_scope v.scope item.piece ≡ true
  pub fresh : is_done v item.piece ≡ false

-- an item was put: it waits, and there was room for it
pub record Put (old : ScanView) (item : Item) (new : ScanView) : Type 0 where
  pub room : length old.waiting < old.limit
  pub rest : new ≡ record old { waiting = with_item old.waiting item; marks = new.marks }
  pub marks : MarksAs old.marks new.marks item.piece (Some None)

-- an item was put, if there was one
abbrev pub PutIf : ScanView → Option Item → ScanView → Type 0
PutIf old None new = new ≡ old
PutIf old (Some item) new = Put old item new

-- a turn was made
pub record Walked (g : Graph) (old : ScanView) (turn : Turn) (new : ScanView) : Type 0 where
  pub step : Step
  pub comes : Comes g old.scope old.run step
  pub named : turn ≡ turn_of step
  pub placed : HasPlace step
  pub becomes : new.run ≡ advanced g old.scope old.run step
  pub puts : PutIf old (item_put old step) (record new { run = old.run })

-- a checkpoint is due: a scan is running, and so many transaction groups were synced since the last checkpoint, or since the
-- start. Where none is running, or it is paused, no turn comes that this could refuse
abbrev pub is_due : ℕ → ScanView → Bool
is_due synced v = runs v.run.status && nat_le v.every (synced - v.saved)

-- a turn would put an item
abbrev pub WouldPut : ScanView → Step → Type 0
WouldPut v step = is_some (item_put v step) ≡ true

-- a turn is not made because a checkpoint is due
pub record IsDraining (g : Graph) (synced : ℕ) (v : ScanView) : Type 0 where
  pub step : Step
  pub comes : Comes g v.scope v.run step
  pub some : turn_of step ≢ turns.Nothing
  pub due : is_due synced v ≡ true

-- a turn can't be made: it would put an item, and as many wait as may; and no checkpoint is due
pub record IsFull (g : Graph) (synced : ℕ) (v : ScanView) : Type 0 where
  pub in_time : is_due synced v ≡ false
  pub step : Step
  pub comes : Comes g v.scope v.run step
  pub puts : WouldPut v step
  pub none_left : length v.waiting ≡ v.limit
