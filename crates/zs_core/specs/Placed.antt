-- A dataset of a pool in which an object has one record: how its blocks are formed, and what may be staged for it, where.
use Rattle.std.specs.Prelude.{◌≡◌, ◌<◌, ◌≤◌, ◌+◌, ◌==◌, ℕ, true, is_some, drop, if◌then◌else◌, List, [], ◌∷◌, Option, Some, None}
use Rattle.zs_ids.specs.declared.key.Key.{Key}
use Rattle.zs_ids.specs.declared.limits.TheConstants.{OBJECTS}
use Rattle.zs_ids.specs.declared.block.Bp.{Bp}
use Rattle.zs_ids.specs.declared.block.Place.{Place}
use Rattle.zs_ids.specs.declared.dataset.DsId.{DsId}
use Rattle.zs_ids.specs.Key.{root_key, dnode_key, record_key, parent_of}
use Rattle.zs_ids.specs.Blocks.{IsInKeyOrder}
use Rattle.zs_ids.specs.Graph.{Has}
use Rattle.zs_ids.specs.GraphValid.{Room, record_sizes}
use Rattle.zs_txg.specs.declared.staged.Staging.{Staging}
use Rattle.zs_txg.specs.Txg.{Slot, staged_at, put_staged, IsInSlotOrder}
use Rattle.zs_objset.specs.Staged.{level_of, no_place}
use Rattle.zs_machine.specs.Steps.{staged_once}

-- the room of a pool of one mirror: its space from `start` to `end`, for that many blocks
abbrev pub room_of : ℕ → ℕ → ℕ → Room
room_of start end blocks = record { start = start; ends = end ∷ []; blocks = blocks }

-- a block of a dataset by its key and its size in sectors, with the record size of each object: the root, a block of
-- dnodes, or the record of an object
pub data IsFormed (size : ℕ → ℕ) (key : Key) (sectors : ℕ) : Type 0 where
  root : key ≡ root_key → sectors ≡ 8 → IsFormed size key sectors
  dnodes : (object : ℕ) → object ≤ OBJECTS → key ≡ dnode_key object → sectors ≡ 8 → IsFormed size key sectors
  leaf : (object : ℕ) → 1 ≤ object → object ≤ OBJECTS → key ≡ record_key object 0 → sectors ≡ size object → IsFormed size key sectors

-- the record sizes with that of one object set
abbrev pub resized : (ℕ → ℕ) → ℕ → ℕ → ℕ → ℕ
resized size object sectors n = if n == object then sectors else size n

-- an entry is a block of a dataset with one place, born by n
pub record IsWhole (size : ℕ → ℕ) (n : ℕ) (e : Key × Bp) : Type 0 where
  pub formed : IsFormed size e.0 e.1.sectors
  pub height : e.1.level ≡ level_of e.0
  pub single : e.1.count ≡ 1
  pub unused : (p : Place) → Has (drop 1 e.1.places) p → p ≡ no_place
  pub born : e.1.birth ≤ n

-- there is an entry at the key, not born before this transaction group
pub record HasAt (entries : List (Key × Bp)) (key : Key) (birth : ℕ) : Type 0 where
  pub entry : Key × Bp
  pub is_entry : Has entries entry
  pub is_key : entry.0 ≡ key
  pub later : birth ≤ entry.1.birth

-- the entries of a dataset: blocks in order of key, each but the root below its parent block, which is not born before it
pub record AreFormed (size : ℕ → ℕ) (n : ℕ) (entries : List (Key × Bp)) : Type 0 where
  pub sizes : (object : ℕ) → Has record_sizes (size object)
  pub in_order : IsInKeyOrder entries
  pub each : (e : Key × Bp) → Has entries e → IsWhole size n e
  pub parents : (e : Key × Bp) → Has entries e → (k : Key) → parent_of e.0 1 ≡ Some k → HasAt entries k e.1.birth

-- what is staged for a dataset: blocks in order of key, each but the root with its parent block; one of pointers, which has no
-- fill, has eight sectors
pub record AreStaged (size : ℕ → ℕ) (id : DsId) (staged : List (Slot × Staging)) : Type 0 where
  pub in_order : IsInSlotOrder staged
  pub for_head : (e : Slot × Staging) → Has staged e → e.0.0 ≡ id
  pub formed : (e : Slot × Staging) → Has staged e → IsFormed size e.0.1 e.1.sectors
  pub sized : (e : Slot × Staging) → Has staged e → e.1.fill ≡ None → e.1.sectors ≡ 8
  pub parents : (e : Slot × Staging) → Has staged e → (k : Key) → parent_of e.0.1 1 ≡ Some k → is_some (staged_at staged (id, k)) ≡ true

-- m sectors from a place on and n from another share a sector
pub record Meet (a : Place) (m : ℕ) (b : Place) (n : ℕ) : Type 0 where
  pub mirror : a.vdev ≡ b.vdev
  pub before : a.sector < b.sector + n
  pub behind : b.sector < a.sector + m

-- the sectors from a place on lie on the first mirror, at or behind `start` and before `next`
pub record LiesBetween (start next : ℕ) (place : Place) (sectors : ℕ) : Type 0 where
  pub mirror : place.vdev ≡ 0
  pub from : start ≤ place.sector
  pub to : place.sector + sectors ≤ next

-- a place on the first mirror
abbrev pub sector_at : ℕ → Place
sector_at sector = record { vdev = 0; sector = sector }

-- the next sector to be handed out once a block is staged, which needs these sectors unless one is staged at its slot
abbrev pub next_after : List (Slot × Staging) → Slot → ℕ → ℕ → ℕ
next_after staged slot sectors next = if is_some (staged_at staged slot) then next else next + sectors

-- the root is staged, unless it is, and the next sector after that
abbrev pub with_root : List (Slot × Staging) → DsId → ℕ → List (Slot × Staging)
with_root staged id next = staged_once staged (id, root_key) (sector_at next)

abbrev pub after_root : List (Slot × Staging) → DsId → ℕ → ℕ
after_root staged id next = next_after staged (id, root_key) 8 next

-- the root and the block with an object's dnode are staged, those that are not staged yet from a sector on, and the
-- next sector after that
abbrev pub with_above : List (Slot × Staging) → DsId → ℕ → ℕ → List (Slot × Staging)
with_above staged id object next = staged_once (with_root staged id next) (id, dnode_key object) (sector_at (after_root staged id next))

abbrev pub after_above : List (Slot × Staging) → DsId → ℕ → ℕ → ℕ
after_above staged id object next = next_after (with_root staged id next) (id, dnode_key object) 8 (after_root staged id next)

-- what is staged at a place
abbrev pub staging : Place → ℕ → Option ℕ → Staging
staging place sectors fill = record { place = place; sectors = sectors; fill = fill }

-- the record of an object is staged behind the blocks above it
abbrev pub staged_with : List (Slot × Staging) → DsId → ℕ → ℕ → Option ℕ → ℕ → List (Slot × Staging)
staged_with staged id object sectors fill next =
    put_staged (with_above staged id object next) (id, record_key object 0) (staging (sector_at (after_above staged id object next)) sectors fill)

-- the place of what is staged, or else another one
abbrev pub place_or : Option Staging → Place → Place
place_or None place = place
place_or (Some e) place = e.place

-- the record of an object is staged behind the blocks above it, or again at its place where it is staged
abbrev pub staged_again : List (Slot × Staging) → DsId → ℕ → ℕ → Option ℕ → ℕ → List (Slot × Staging)
staged_again staged id object sectors fill next =
    let above = with_above staged id object next in
    let place = place_or (staged_at above (id, record_key object 0)) (sector_at (after_above staged id object next)) in
    put_staged above (id, record_key object 0) (staging place sectors fill)
