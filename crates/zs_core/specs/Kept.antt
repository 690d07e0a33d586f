-- What is true of each pool's present state, and what contracts see of it.
use Rattle.std.specs.Prelude.{◌≡◌, ◌⊎◌, ℕ, ◌+◌, ◌-◌, ◌^◌, ◌<◌, ◌≤◌, false, max, List, [], ◌∷◌, Option, Some, None, is_some, if◌then◌else◌, ◌↔◌}
use Rattle.zs_ids.specs.declared.dataset.DsId.{DsId}
use Rattle.zs_ids.specs.declared.dataset.DsName.{DsName}
use Rattle.zs_ids.specs.Graph.{Dataset, Graph}
use Rattle.zs_ids.specs.declared.limits.TheConstants.{TXG_END}
use Rattle.zs_ids.specs.Key.{root_key, dnode_key, record_key}
use Rattle.zs_script.specs.declared.reply.Reply.{Reply}
use Rattle.zs_script.specs.declared.reply.Reply.TheVariants.{Refused}
use Rattle.zs_script.specs.declared.refusal.Refusal.{Refusal}
use Rattle.zs_script.specs.declared.refusal.Refusal.TheVariants.{NoSpace}
use Rattle.zs_txg.specs.Txg.{Open, staged_for, Slot, staged_at}
use Rattle.zs_txg.specs.declared.staged.Staging.{Staging}
use Rattle.zs_scan.specs.Covered.{IsScanOf}
use Rattle.zs_machine.specs.declared.event.Stage.{Stage}
use Rattle.zs_machine.specs.declared.event.Stage.TheVariants.{Writing}
use Rattle.zs_core.specs.declared.parts.Changes.{Changes}
use Rattle.zs_core.specs.declared.parts.Closed.{Closed}
use Rattle.zs_core.specs.declared.present.Present.TheInside.{Inside}
use Rattle.zs_ids.specs.GraphTree.{dataset_named}
use Rattle.zs_ids.specs.GraphValid.{origin}
use Rattle.zs_machine.specs.Shapes.{IsShape, IsLeast, data_start}
use Rattle.zs_machine.specs.Steps.{AreChanges}
use Rattle.zs_core.specs.Placed.{room_of}
use Rattle.zs_core.specs.Datasets.{AreDatasets}
use Rattle.zs_core.specs.View.{CoreView, txg_of, closed_of, pointers_in, scan_of}

-- what contracts see of the parts
abbrev pub view_of : Inside → CoreView
view_of p = record {
  state = record {
    graph = p.graph.sets;
    next_id = p.graph.next;
    applied = p.applied;
    devices = p.shape.devices;
    online = p.online;
    open_txg = txg_of p.open;
    closed = closed_of p.closed;
    stage = p.stage;
    scan = scan_of p.scan;
    suspended = p.suspended;
    answers = p.answers.items;
    finished = p.finished;
    reads = p.reads.items;
  };
  scan = p.scan;
  pointers = pointers_in p.closed;
  shape = p.shape;
  next_sector = p.next_sector;
  end_sector = p.end_sector;
}

-- what is staged: in the closed transaction group, while there is one, and else in the open one
abbrev pub pending : Option Closed → List (Slot × Staging) → List (Slot × Staging)
pending None staged = staged
pending (Some c) staged = c.txg.staged

-- nothing is staged in the open transaction group while another one is closed
abbrev pub IsOneStaged : Option Closed → List (Slot × Staging) → Type 0
IsOneStaged None staged = Unit {0}
IsOneStaged (Some c) staged = staged ≡ []

-- the pointers to the blocks that are staged in a transaction group, for each dataset in order
abbrev pub AreChangesOf : Graph → Open → List Changes → Type 0
AreChangesOf [] o [] = Unit {0}
AreChangesOf (d ∷ ds) o (c ∷ cs) =
    (c.ds ≡ d.id) × AreChanges d.entries (staged_for o.staged d.id) o.txg c.blocks.items × AreChangesOf ds o cs
AreChangesOf [] o (c ∷ cs) = ⊥
AreChangesOf (d ∷ ds) o [] = ⊥

-- a closed transaction group is the next one to be applied, and its pointers are made
pub record IsClosedOver (g : Graph) (applied open_txg : ℕ) (c : Closed) : Type 0 where
  pub number : c.txg.txg ≡ applied + 1
  pub next : open_txg ≡ applied + 2
  pub changes : AreChangesOf g c.txg c.changes.items

-- a transaction group is closed exactly while the blocks are being written
abbrev pub IsAtStage : Graph → ℕ → ℕ → Option Closed → Stage → Type 0
IsAtStage g applied open_txg (Some c) Writing = IsClosedOver g applied open_txg c
IsAtStage g applied open_txg (Some c) _ = ⊥
IsAtStage g applied open_txg None Writing = ⊥
IsAtStage g applied open_txg None _ = open_txg ≡ applied + 1

-- the transaction group up to which the blocks are born: the origin is of the first
abbrev pub born_by : ℕ → ℕ
born_by applied = max 1 applied

-- what is true of every present state: every device is online; the datasets and what is staged lie in the space, which ends
-- where the least device does; the scan belongs to the datasets, and its scope ends by the transaction group whose tasks come
-- next; the origin is alone until the first transaction group is applied; and the groups follow each other, unless the pool was
-- suspended
pub record Facts (p : Inside) : Type 0 where
  pub shape : IsShape p.shape
  pub online : p.online ≡ 2 ^ p.shape.devices - 1
  pub end : IsLeast p.end_sector p.shape.sectors
  pub width : p.scan.scope.width ≡ p.shape.width
  pub begun : data_start p.shape.blocks ≤ p.next_sector
  pub space : p.next_sector ≤ p.end_sector
  pub datasets : AreDatasets p.graph.sets (born_by p.applied) (data_start p.shape.blocks) p.next_sector (pending p.closed p.open.staged)
  pub one_staged : IsOneStaged p.closed p.open.staged
  pub since : (1 ≤ p.applied) ⊎ (p.graph.sets ≡ origin ∷ [])
  pub blocks : ℕ
  pub scan : IsScanOf (room_of (data_start p.shape.blocks) p.end_sector blocks) p.graph.sets (born_by p.applied) (p.applied + 1) p.scan
  pub range : p.scan.scope.max ≤ p.applied + 1
  pub may_wait : p.scan.limit ≡ p.shape.limit
  pub due : p.scan.every ≡ p.shape.every
  pub at_stage : p.suspended ≡ false → IsAtStage p.graph.sets p.applied p.open.txg p.closed p.stage
  pub limit : p.open.txg ≤ TXG_END

-- how many sectors the record of an object needs with the blocks above it, of those that are not staged yet
abbrev pub sectors_to_stage : List (Slot × Staging) → DsId → ℕ → ℕ → ℕ
sectors_to_stage staged ds object sectors =
    (if is_some (staged_at staged (ds, root_key)) then 0 else 8)
    + (if is_some (staged_at staged (ds, dnode_key object)) then 0 else 8)
    + (if is_some (staged_at staged (ds, record_key object 0)) then 0 else sectors)

-- a command that nothing else refuses is refused for want of space exactly where the blocks that it needs do not end
-- inside the space
abbrev pub IsFullExactly : CoreView → Option Refusal → DsName → ℕ → (Dataset → ℕ) → Reply → Type 0
IsFullExactly v why name object sectors answer =
    (d : Dataset) → dataset_named v.state.graph name ≡ Some d → why ≡ None
    → ((answer ≡ Refused NoSpace) ↔ (v.end_sector < v.next_sector + sectors_to_stage v.state.open_txg.staged d.id object (sectors d)))
