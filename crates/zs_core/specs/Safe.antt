-- What callers may rely on of a pool, also of one that is suspended, and of the places that a command takes.
use Rattle.std.specs.Prelude.{◌≡◌, ◌≤◌, ◌+◌, ◌-◌, ◌/◌, ◌^◌, ℕ, Option, None, Some}
use Rattle.zs_ids.specs.Graph.{Dataset}
use Rattle.zs_scan.specs.Covered.{IsScanOf}
use Rattle.zs_scan.specs.Kept.{IsOrderly}
use Rattle.zs_script.specs.declared.command.Command.{Command}
use Rattle.zs_script.specs.declared.command.Command.TheVariants as command
use Rattle.zs_script.specs.declared.reply.Reply.{Reply}
use Rattle.zs_script.specs.declared.reply.Reply.TheVariants as reply
use Rattle.zs_machine.specs.Machine.{record_sectors}
use Rattle.zs_machine.specs.Steps.{IsHalted}
use Rattle.zs_ids.specs.GraphTree.{dataset_named}
use Rattle.zs_machine.specs.Replies.{make_refusal, write_refusal}
use Rattle.zs_core.specs.Kept.{IsFullExactly, born_by, sectors_to_stage}
use Rattle.zs_machine.specs.Shapes.{IsShape, IsLeast, data_start, room_in}
use Rattle.zs_core.specs.View.{CoreView, scan_of}

-- the pool has the devices and mirrors of its shape, and what was handed out of its space, which ends where its least device does;
-- every device is online: none can be taken offline yet
pub record IsShaped (v : CoreView) : Type 0 where
  pub shape : IsShape v.shape
  pub devices : v.state.devices ≡ v.shape.devices
  pub online : v.state.online ≡ 2 ^ v.state.devices - 1
  pub width : v.scan.scope.width ≡ v.shape.width
  pub end : IsLeast v.end_sector v.shape.sectors
  pub begun : data_start v.shape.blocks ≤ v.next_sector
  pub space : v.next_sector ≤ v.end_sector

-- the datasets are valid, born by the last group that was applied, and lie in the pool's space; the scan is theirs, where the
-- tasks of the next group come next, and covers them; what waits, flies and is checked is disjoint, at most as many pieces
-- wait as may, and at least one may; and the machine's scan is this one. How many blocks may live is not held to yet
pub record IsSafe (v : CoreView) : Type 0 where
  pub shaped : IsShaped v
  pub machine : v.state.scan ≡ scan_of v.scan
  pub blocks : ℕ
  pub scanned : IsScanOf (room_in v.shape v.end_sector blocks) v.state.graph (born_by v.state.applied) (v.state.applied + 1) v.scan
  pub orderly : IsOrderly v.scan
  pub limit : v.scan.limit ≡ v.shape.limit
  pub every : v.scan.every ≡ v.shape.every

-- a pool was suspended because memory was wanting in its sync; it has its shape, its space and its batches in flight still
pub record IsHaltedCore (old new : CoreView) : Type 0 where
  pub state : IsHalted old.state new.state
  pub shape : new.shape ≡ old.shape
  pub next_sector : new.next_sector ≡ old.next_sector
  pub end_sector : new.end_sector ≡ old.end_sector
  pub flight : new.scan.flight ≡ old.scan.flight

-- a `make` or `write` is refused for want of space exactly where its blocks do not end inside the space
abbrev pub IsFullFor : CoreView → Command → Reply → Type 0
IsFullFor v (command.Make ds object levels size fill) answer = IsFullExactly v (make_refusal v.state ds object) ds object (λ d. size / 512) answer
IsFullFor v (command.Write ds object leaf fill) answer =
    IsFullExactly v (write_refusal v.state ds object leaf) ds object (λ d. record_sectors v.state d object) answer
IsFullFor v _ answer = Unit {0}

-- how many sectors a record of a dataset takes with the blocks above it, of those that are not staged yet
abbrev pub sectors_taken : CoreView → ℕ → (Dataset → ℕ) → Option Dataset → ℕ
sectors_taken v object sectors None = 0
sectors_taken v object sectors (Some d) = sectors_to_stage v.state.open_txg.staged d.id object (sectors d)

-- the next sector to be handed out after a command: only a record that was staged takes some
abbrev pub next_after : CoreView → Command → Reply → ℕ
next_after v (command.Make ds object levels size fill) (reply.Wrote name n leaf txg) =
    v.next_sector + sectors_taken v object (λ d. size / 512) (dataset_named v.state.graph ds)
next_after v (command.Write ds object number fill) (reply.Wrote name n leaf txg) =
    v.next_sector + sectors_taken v object (λ d. record_sectors v.state d object) (dataset_named v.state.graph ds)
next_after v c answer = v.next_sector
