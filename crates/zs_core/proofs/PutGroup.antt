-- A transaction group was applied: its blocks were put, and then its tasks ran.
use Rattle.std.specs.Prelude.{◌≡◌, ℕ, List, map, refl}
use Rattle.std.proofs.Common.{ap}
use Rattle.std.specs.List.Sorted.{IsPermutation}
use Rattle.zs_ids.specs.declared.key.Key.{Key}
use Rattle.zs_ids.specs.declared.block.Bp.{Bp}
use Rattle.zs_ids.specs.declared.block.Item.{Item}
use Rattle.zs_ids.specs.Graph.{Graph}
use Rattle.zs_graph.specs.View.{GraphView}
use Rattle.zs_txg.specs.Txg.{Open}
use Rattle.zs_scan.specs.View.{ScanView}
use Rattle.zs_scan.specs.Walks.{item_of}
use Rattle.zs_core.specs.Placed.{room_of}
use Rattle.zs_core.specs.Applying.{Space, IsTended, HasPut}
use Rattle.zs_core.specs.Running.{RunsOn}
use Rattle.zs_core.specs.Synced.{AreItemsOf}
use Rattle.zs_core.specs.View.{data_of, scan_of}
use Rattle.zs_core.proofs.PutOnce.{has_moved}

-- what was tended is so after the tasks
pub ran_tended : (space : Space) (t : ℕ) (old new : Graph) (before after : ScanView) (items rest : List Item) → IsTended space t old before → RunsOn t old before items new after rest → IsTended space t new after
ran_tended space t old new before after items rest tended ran = record {
  datasets = ran.kept space.start space.next tended.datasets;
  blocks = tended.blocks;
  scan = ran.scanned (room_of space.start space.end tended.blocks) tended.scan;
}

-- the items that are left are those of some blocks, as all were
pub ran_items : (t : ℕ) (pointers : List (Key × Bp)) (old new : Graph) (before after : ScanView) (items rest : List Item) → IsPermutation (map (λ (c : Key × Bp). item_of c.1) pointers) items → RunsOn t old before items new after rest → AreItemsOf pointers rest
ran_items t pointers old new before after items rest same ran =
    record { each = λ i h. has_moved (map (λ (c : Key × Bp). item_of c.1) pointers) items i same (ran.fewer i h) }

-- the data on which the tasks run: the machine sees nothing of what was freed
pub put_data : (o : Open) (old : GraphView) (before : ScanView) (new : GraphView) (after : ScanView) → HasPut o old before new after → data_of new after ≡ record { graph = new.sets; next_id = old.next; scan = scan_of before }
put_data o old before new after put = rw (put.next, ap (λ (v : ScanView). scan_of v) put.lost.freed.rest) refl
