-- What applying a transaction group makes of the datasets and the scan.
use Rattle.std.specs.Prelude.{◌≡◌, ◌≢◌, ℕ, ◌≤◌, ◌<◌, true, List, [], map, Option}
use Rattle.std.specs.List.Sorted.{IsSortedByKey, IsPermutation}
use Rattle.zs_ids.specs.declared.key.Key.{Key}
use Rattle.zs_ids.specs.declared.block.Bp.{Bp}
use Rattle.zs_ids.specs.declared.block.Item.{Item}
use Rattle.zs_ids.specs.Graph.{Has, Dataset, Graph}
use Rattle.zs_ids.specs.GraphTree.{start_of}
use Rattle.zs_ids.specs.GraphValid.{Room, IsWithin}
use Rattle.zs_ids.specs.Piece.{piece_cmp}
use Rattle.zs_graph.specs.declared.freed.Freed.{Freed}
use Rattle.zs_graph.specs.Made.{IsApplied}
use Rattle.zs_graph.specs.View.{GraphView}
use Rattle.zs_txg.specs.Txg.{Open}
use Rattle.zs_scan.specs.View.{ScanView, pieces_in}
use Rattle.zs_scan.specs.Covered.{IsScanOf}
use Rattle.zs_scan.specs.Walks.{item_of}
use Rattle.zs_script.specs.declared.refusal.Refusal.{Refusal}
use Rattle.zs_machine.specs.Born.{AreBornItems}
use Rattle.zs_machine.specs.Replies.{after_tasks, task_answers}
use Rattle.zs_machine.specs.Shapes.{data_start}
use Rattle.zs_machine.specs.Steps.{AreWritten}
use Rattle.zs_core.specs.declared.parts.Changes.{Changes}
use Rattle.zs_core.specs.declared.parts.Closed.{Closed}
use Rattle.zs_core.specs.Datasets.{AreDatasets}
use Rattle.zs_core.specs.Placed.{room_of}
use Rattle.zs_core.specs.Kept.{AreChangesOf}
use Rattle.zs_core.specs.Freeing.{FreesAll, HasLost}
use Rattle.zs_core.specs.Running.{HaveRun}
use Rattle.zs_core.specs.Synced.{AreItemsOf}
use Rattle.zs_core.specs.View.{CoreView, data_of, txg_of, pointers_of_all}

-- the space that was handed out, from `start` to `next`, and where the whole space ends
pub record Space : Type 0 where
  pub start : ℕ
  pub next : ℕ
  pub end : ℕ

-- that of a pool
abbrev pub space_in : CoreView → Space
space_in v = record { start = data_start v.shape.blocks; next = v.next_sector; end = v.end_sector }

-- a scan is that of the datasets, with their blocks born by t and nothing staged
pub record IsTended (space : Space) (t : ℕ) (g : Graph) (v : ScanView) : Type 0 where
  pub datasets : AreDatasets g t space.start space.next []
  pub blocks : ℕ
  pub scan : IsScanOf (room_of space.start space.end blocks) g t t v

-- the changes are those that are staged in the transaction group, of which no dataset has a block yet, and in which no parent of a
-- head was created; the scan is the datasets' own
pub record IsReady (space : Space) (o : Open) (changes : List Changes) (g : Graph) (v : ScanView) : Type 0 where
  pub datasets : AreDatasets g o.txg space.start space.next o.staged
  pub in_space : space.next ≤ space.end
  pub older : (d : Dataset) (e : Key × Bp) → Has g d → Has d.entries e → e.1.birth < o.txg
  pub later : (d : Dataset) → Has g d → d.head ≡ true → start_of g d.parent < o.txg
  pub made : AreChangesOf g o changes
  pub blocks : ℕ
  pub scan : IsScanOf (room_of space.start space.end blocks) g o.txg o.txg v

-- the blocks of the changes were put over those of their dataset, and what they replaced was freed; the scan stays the datasets'
-- own where these stay in their room
pub record PutsBlocks (t : ℕ) (own : Changes) (old : GraphView) (before : ScanView) (new : GraphView) (after : ScanView) : Type 0 where
  pub freed : Freed
  pub applied : IsApplied old own.ds own.blocks.items t freed new
  pub lost : FreesAll (pieces_in freed.items) before after
  pub scanned : (room : Room) → IsWithin room new.sets → IsScanOf room old.sets t t before → IsScanOf room new.sets t t after

-- so it is where there are any; where there are none nothing changed
pub record PutsOwn (t : ℕ) (own : Changes) (old : GraphView) (before : ScanView) (new : GraphView) (after : ScanView) : Type 0 where
  pub none : own.blocks.items ≡ [] → (new ≡ old) × (after ≡ before)
  pub some : own.blocks.items ≢ [] → PutsBlocks t own old before new after

-- the blocks that were staged were put over the datasets' own, and what they replaced was freed
pub record HasPut (o : Open) (old : GraphView) (before : ScanView) (new : GraphView) (after : ScanView) : Type 0 where
  pub written : AreWritten (txg_of o) old.sets new.sets
  pub next : new.next ≡ old.next
  pub lost : HasLost old.sets new.sets before after

-- the items of the changes, in order of place, are those of the pieces that are born in the transaction group t and live
pub record BringForth (changes : List Changes) (t : ℕ) (g : Graph) : Type 0 where
  pub born : (items : List Item) → IsPermutation (map (λ c. item_of c.1) (pointers_of_all changes)) items
      → IsSortedByKey (λ i. i.piece) piece_cmp items → AreBornItems g t items

-- the transaction group was applied: its blocks were put, and its tasks ran, which were refused as the answers say; the items are
-- those of its blocks that live
pub record HasApplied (c : Closed) (old : GraphView) (before : ScanView) (answers : List (Option Refusal))
    (items : List Item) (new : GraphView) (after : ScanView) : Type 0 where
  pub mid : GraphView
  pub freed : ScanView
  pub put : HasPut c.txg old before mid freed
  pub answered : answers ≡ task_answers c.txg.txg (data_of mid freed) c.txg.tasks
  pub ran : data_of new after ≡ after_tasks c.txg.txg (data_of mid freed) c.txg.tasks
  pub seen : HaveRun c.txg.txg (data_of mid freed) c.txg.tasks freed after
  pub born : AreBornItems new.sets c.txg.txg items
  pub are_items : AreItemsOf (pointers_of_all c.changes.items) items
