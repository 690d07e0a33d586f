-- How a read began, as its event tells it.
use Rattle.std.specs.Prelude.{◌≡◌, ℕ, ◌≤◌, ◌<◌, length, List, ◌∷◌, ◌++◌, Option, Some, None, Result, Ok, Err}
use Rattle.std.specs.Int.{from_be_bytes, w64}
use Rattle.zs_ids.specs.declared.block.Bp.{Bp}
use Rattle.zs_ids.specs.declared.dataset.DsId.{DsId}
use Rattle.zs_ids.specs.declared.dataset.DsName.{DsName}
use Rattle.zs_ids.specs.Graph.{Has, Dataset}
use Rattle.zs_ids.specs.GraphTree.{dataset_at, dataset_named}
use Rattle.zs_ids.specs.GraphValid.{Room}
use Rattle.zs_scan.specs.Covered.{IsInRoom}
use Rattle.zs_script.specs.declared.refusal.Refusal.{Refusal}
use Rattle.zs_script.specs.declared.refusal.Refusal.TheVariants.{ReadLost}
use Rattle.zs_script.specs.declared.reply.Reply.{Reply}
use Rattle.zs_script.specs.declared.reply.Reply.TheVariants as reply
use Rattle.zs_sum.specs.Sum.{sha256}
use Rattle.zs_machine.specs.declared.event.ReadPlan.{ReadPlan}
use Rattle.zs_machine.specs.declared.event.OpenRead.{OpenRead}
use Rattle.zs_machine.specs.declared.event.ReadPlan.TheVariants as plan
use Rattle.zs_machine.specs.Machine.{PoolState}
use Rattle.zs_core.specs.declared.read.Begun.{Begun}
use Rattle.zs_core.specs.declared.read.Begun.TheVariants as begun

-- the plan of a read that was not refused
abbrev pub planned_of : Begun → Option ReadPlan
planned_of (begun.Planned p) = Some p
planned_of (begun.Refused why) = None

-- a refused read has its refusal as reply, another one has none yet
abbrev pub begun_reply : Begun → Reply
begun_reply (begun.Planned p) = reply.Nothing
begun_reply (begun.Refused why) = reply.Refused why

-- the bytes that were got for a plan, if any, are those of the piece that was to be read, and at least eight
abbrev pub IsGotFor : ReadPlan → Option (List ℕ) → Type 0
IsGotFor p None = Unit {0}
IsGotFor (plan.Pinned item online) (Some bytes) = (sha256 bytes ≡ item.sum) × (8 ≤ length bytes)
IsGotFor p (Some bytes) = 8 ≤ length bytes

-- no open read is this client's with this plan
abbrev pub HasNoRead : List OpenRead → ℕ → ReadPlan → Type 0
HasNoRead reads by p = (r : OpenRead) → Has reads r → r.by ≡ by → r.plan ≡ p → ⊥

-- the open read at that place is the first of the client with this plan
pub record IsFirstRead (reads : List OpenRead) (by : ℕ) (p : ReadPlan) (i : ℕ) : Type 0 where
  pub within : i < length reads
  pub before : List OpenRead
  pub read : OpenRead
  pub after : List OpenRead
  pub is : reads ≡ before ++ read ∷ after
  pub many : length before ≡ i
  pub client : read.by ≡ by
  pub same_plan : read.plan ≡ p
  pub first : HasNoRead before by p

-- the reply that the bytes which were got give to a read of a piece
abbrev pub got_reply : OpenRead → Option (List ℕ) → Reply
got_reply r None = reply.Refused ReadLost
got_reply r (Some bytes) = reply.Read r.ds r.object r.leaf (from_be_bytes w64 bytes)

-- the reply that ends a read: the staged fill, `hole`, or the first eight bytes of those that were got for its piece
abbrev pub read_reply : OpenRead → ReadPlan → Option (List ℕ) → Reply
read_reply r (plan.Staged fill) got = reply.Read r.ds r.object r.leaf fill
read_reply r plan.Hole got = reply.ReadHole r.ds r.object r.leaf
read_reply r (plan.Pinned item online) got = got_reply r got

-- the first open read of the client with this plan ended, with the reply that plan and bytes give
pub record EndsRead (by : ℕ) (p : ReadPlan) (got : Option (List ℕ)) (old : List OpenRead) (answer : Reply) (new : List OpenRead) : Type 0 where
  pub before : List OpenRead
  pub read : OpenRead
  pub after : List OpenRead
  pub were : old ≡ before ++ read ∷ after
  pub client : read.by ≡ by
  pub same_plan : read.plan ≡ p
  pub first : HasNoRead before by p
  pub reply : answer ≡ read_reply read p got
  pub are : new ≡ before ++ after

-- a read ended with this reply; or the client has none with this plan
abbrev pub EndsIfRead : ℕ → ReadPlan → Option (List ℕ) → List OpenRead → List OpenRead → Option Reply → Type 0
EndsIfRead by p got old new None = HasNoRead old by p
EndsIfRead by p got old new (Some answer) = EndsRead by p got old answer new

-- a planned read is of a piece that lies in the room, if it is of one, and has the size of a block
abbrev pub IsPlanInRoom : Room → ReadPlan → Type 0
IsPlanInRoom room (plan.Pinned item online) = IsInRoom room item
IsPlanInRoom room _ = Unit {0}

-- a reply that ends a read
abbrev pub IsReadReply : Reply → Type 0
IsReadReply (reply.Read ds object leaf value) = Unit {0}
IsReadReply (reply.ReadHole ds object leaf) = Unit {0}
IsReadReply (reply.Refused why) = Unit {0}
IsReadReply _ = ⊥

-- so is the plan of a read that was not refused
abbrev pub IsBegunInRoom : Room → Option ReadPlan → Type 0
IsBegunInRoom room None = Unit {0}
IsBegunInRoom room (Some p) = IsPlanInRoom room p

-- the block has a first place, if there is one
abbrev pub IsPlacedAt : Option Bp → Type 0
IsPlacedAt None = Unit {0}
IsPlacedAt (Some bp) = 0 < length bp.places

-- a read that is not refused reads the dataset of the name; another one has its refusal
abbrev pub ReadsOr : Option Refusal → PoolState → DsName → Result DsId Refusal → Type 0
ReadsOr refusal s name (Ok id) =
    (refusal ≡ None) × (d : Dataset) × (dataset_named s.graph name ≡ Some d) × (dataset_at s.graph id ≡ Some d)
ReadsOr refusal s name (Err why) = refusal ≡ Some why
