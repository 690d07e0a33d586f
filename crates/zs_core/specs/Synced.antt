-- What a sync makes of a pool and its scan.
use Rattle.std.specs.Prelude.{◌≡◌, ◌⊎◌, ℕ, List, map, Some}
use Rattle.zs_ids.specs.declared.block.Bp.{Bp}
use Rattle.zs_ids.specs.declared.block.Item.{Item}
use Rattle.zs_ids.specs.declared.block.Marks.{Marks}
use Rattle.zs_ids.specs.declared.key.Key.{Key}
use Rattle.zs_ids.specs.Graph.{Graph, Has}
use Rattle.zs_scan.specs.View.{ScanView}
use Rattle.zs_scan.specs.Steps.{IsComplete, finished}
use Rattle.zs_scan.specs.Walks.{item_of}
use Rattle.zs_script.specs.declared.reply.Reply.TheVariants as reply
use Rattle.zs_machine.specs.declared.event.Step.TheVariants as step
use Rattle.zs_machine.specs.Machine.{PoolState, Txg}
use Rattle.zs_machine.specs.Steps.{AreWritten, DataStep}
use Rattle.zs_machine.specs.History.{AddsEvent}
use Rattle.zs_core.specs.View.{PoolView, scan_of}
use Rattle.zs_core.specs.Freeing.{HasLost}
use Rattle.zs_core.specs.Ending.{SavesIfDrained}
use Rattle.zs_core.specs.Running.{HaveRun}

-- in the transaction group t the scan ends where it is complete; else it makes a checkpoint where it may
abbrev pub EndsIfComplete : ℕ → ScanView → ScanView → Type 0
EndsIfComplete t old new = (IsComplete old × (new ≡ finished old)) ⊎ ((IsComplete old → ⊥) × SavesIfDrained t old new)

-- the closed transaction group is applied to the datasets: what its blocks replaced is freed, then each of its tasks makes of
-- the scan what it does, and then the scan ends where it is complete, or makes a checkpoint; all else of it is as it was
pub record IsSynced (s : PoolState) (old new : ScanView) : Type 0 where
  pub txg : Txg
  pub was_closed : s.closed ≡ Some txg
  pub graph : Graph
  pub written : AreWritten txg s.graph graph
  pub freed_scan : ScanView
  pub freed : HasLost s.graph graph old freed_scan
  pub ran_scan : ScanView
  pub ran : HaveRun txg.txg (record { graph = graph; next_id = s.next_id; scan = scan_of freed_scan }) txg.tasks freed_scan ran_scan
  pub ends : EndsIfComplete txg.txg ran_scan new

-- each item is that of a block of some pointers
pub record AreItemsOf (pointers : List (Key × Bp)) (items : List Item) : Type 0 where
  pub each : (i : Item) → Has items i → Has (map (λ c. item_of c.1) pointers) i

-- the closed transaction group was applied, which the event tells with the marks of its writes and the items of its blocks
-- that are live
pub record AppliesGroup (marks : Marks) (old new : PoolView) : Type 0 where
  pub items : List Item
  pub event : AddsEvent 0 (step.EndData old.core.state.online marks items) reply.Nothing old.history new.history
  pub are_items : AreItemsOf old.core.pointers items
  pub applied : DataStep old.core.state items new.core.state
