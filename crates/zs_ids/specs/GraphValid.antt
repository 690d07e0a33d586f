-- When a list of datasets is one that a pool may have.
use Rattle.std.specs.Prelude.{◌≡◌, ◌<◌, ◌≤◌, ◌⊎◌, ◌+◌, ◌-◌, ◌*◌, ◌%◌, ◌^◌, ℕ, true, false, List, [], ◌∷◌, Some, None, drop, length, slice_index, take, if◌then◌else◌}
use Rattle.zs_ids.specs.declared.key.Key.{Key}
use Rattle.zs_ids.specs.declared.block.Bp.{Bp}
use Rattle.zs_ids.specs.declared.block.Place.{Place}
use Rattle.zs_ids.specs.declared.block.Piece.{Piece}
use Rattle.zs_ids.specs.declared.dataset.TheConstants.DsId.{ORIGIN}
use Rattle.zs_ids.specs.declared.dataset.TheConstants.Name.{EMPTY}
use Rattle.zs_ids.specs.Key.{root_key, dnode_key, parent_of}
use Rattle.zs_ids.specs.Blocks.{IsInKeyOrder}
use Rattle.zs_ids.specs.Graph.{Has, Dataset, Graph, pieces_of, IsLive}
use Rattle.zs_ids.specs.GraphTree.{IsHome}

-- the empty snapshot on which every filesystem stands that is no clone of another snapshot
abbrev pub origin : Dataset
origin = record { id = ORIGIN; head = false; owner = EMPTY; label = EMPTY; parent = None; creation = 1; entries = [] }

-- each id is below those after it
abbrev pub IsInIdOrder : Graph → Type 0
IsInIdOrder [] = Unit {0}
IsInIdOrder (d ∷ ds) = ((x : Dataset) → Has ds x → d.id.0 < x.id.0) × IsInIdOrder ds

-- a dataset stands on a snapshot, after which it was created where it is a snapshot itself
pub record StandsOnSnapshot (g : Graph) (d : Dataset) : Type 0 where
  pub below : Dataset
  pub here : Has g below
  pub is_parent : d.parent ≡ Some below.id
  pub is_snapshot : below.head ≡ false
  pub rises : d.head ≡ false → below.creation < d.creation

-- the datasets form a tree with the origin as its root: each other one stands on a snapshot, and creation rises
-- from snapshot to snapshot, up to the transaction group n
pub record IsTree (g : Graph) (n : ℕ) : Type 0 where
  pub root : Has g origin
  pub stands : (d : Dataset) → Has g d → (d ≡ origin) ⊎ StandsOnSnapshot g d
  pub in_order : IsInIdOrder g
  pub few : length g ≤ 255
  pub names : (a b : Dataset) → Has g a → Has g b → a.head ≡ b.head → a.owner ≡ b.owner → a.label ≡ b.label → a.id ≡ b.id
  pub created : (d : Dataset) → Has g d → d.creation ≤ n
  pub heads : (d : Dataset) → Has g d → d.head ≡ true → (d.creation ≡ 0) × (d.label ≡ EMPTY)

-- the last transaction group in which a block of a dataset may be born: n for a head, a snapshot's creation
abbrev pub last_birth : Dataset → ℕ → ℕ
last_birth d n = if d.head then n else d.creation

-- the blocks of that many sectors at two places share a sector
pub record ShareSector (sectors : ℕ) (p q : Place) : Type 0 where
  pub vdev : p.vdev ≡ q.vdev
  pub before : p.sector < q.sector + sectors
  pub behind : q.sector < p.sector + sectors

-- the blocks of that many sectors at the places share no sector
abbrev pub ArePlacesApart : ℕ → List Place → Type 0
ArePlacesApart sectors [] = Unit {0}
ArePlacesApart sectors (p ∷ ps) = ((q : Place) → Has ps q → ShareSector sectors p q → ⊥) × ArePlacesApart sectors ps

-- the pointer has this size in sectors and this level, and uses one to three places, which lie apart
pub record HasForm (bp : Bp) (sectors level : ℕ) : Type 0 where
  pub size : bp.sectors ≡ sectors
  pub height : bp.level ≡ level
  pub some : 1 ≤ bp.count
  pub few : bp.count ≤ 3
  pub apart : ArePlacesApart bp.sectors (take bp.count bp.places)

-- the key of a block at a level of an object with that many levels
pub record IsObjectKey (levels level : ℕ) (k : Key) : Type 0 where
  pub from_one : 1 ≤ k.object
  pub to_last : k.object ≤ 2047
  pub rank : k.rank ≡ 1
  pub first_leaf : k.leaf % 64 ^ level ≡ 0
  pub below_end : k.leaf < 64 ^ (levels - 1)
  pub depth : k.depth + level ≡ 3

-- the blocks of a dataset, with the levels and the record size of their objects: the root with 64 pointers to the
-- blocks of dnodes, those with 32 dnodes each, an object's blocks of 64 pointers, and its records
pub data IsBlock (levels size : ℕ) (e : Key × Bp) : Type 0 where
  root : e.0 ≡ root_key → HasForm e.1 8 1 → IsBlock levels size e
  dnodes : (j : ℕ) → j < 64 → e.0 ≡ dnode_key (32 * j) → HasForm e.1 8 0 → IsBlock levels size e
  inner : (level : ℕ) → 0 < level → level < levels → IsObjectKey levels level e.0 → HasForm e.1 8 level → IsBlock levels size e
  leaf : 0 < levels → IsObjectKey levels 0 e.0 → HasForm e.1 size 0 → IsBlock levels size e

-- the record sizes, in sectors
abbrev pub record_sizes : List ℕ
record_sizes = 1 ∷ 2 ∷ 4 ∷ 8 ∷ 16 ∷ 32 ∷ 64 ∷ 128 ∷ 256 ∷ []

-- the dataset has a block at the key, not born before this transaction group
pub record HasBlock (d : Dataset) (k : Key) (birth : ℕ) : Type 0 where
  pub entry : Key × Bp
  pub is_entry : Has d.entries entry
  pub is_key : entry.0 ≡ k
  pub later : birth ≤ entry.1.birth

-- the blocks of a dataset: in order of key, born up to n, each one of an object whose levels and record size agree
-- over all its blocks, and each but the root below its parent block, which is not born before it
pub record HasBlocks (d : Dataset) (n : ℕ) : Type 0 where
  pub in_order : IsInKeyOrder d.entries
  pub births : (e : Key × Bp) → Has d.entries e → e.1.birth ≤ last_birth d n
  pub levels : ℕ → ℕ
  pub at_most_four : (object : ℕ) → levels object ≤ 4
  pub size : ℕ → ℕ
  pub is_size : (object : ℕ) → Has record_sizes (size object)
  pub blocks : (e : Key × Bp) → Has d.entries e → IsBlock (levels e.0.object) (size e.0.object) e
  pub parents : (e : Key × Bp) → Has d.entries e → (k : Key) → parent_of e.0 (levels e.0.object) ≡ Some k → HasBlock d k e.1.birth

-- what a dataset shares with its parent: it has each of the parent's keys, and what is not its own stands there too
pub record Shares (d parent : Dataset) : Type 0 where
  pub keys : (e : Key × Bp) → Has parent.entries e → HasBlock d e.0 0
  pub shared : (e : Key × Bp) → Has d.entries e → e.1.birth ≤ parent.creation → Has parent.entries e

-- two blocks meet on a mirror
pub record Overlap (a b : Bp) : Type 0 where
  pub first : Piece
  pub second : Piece
  pub is_first : Has (pieces_of a) first
  pub is_second : Has (pieces_of b) second
  pub vdev : first.place.vdev ≡ second.place.vdev
  pub before : first.place.sector < second.place.sector + b.sectors
  pub behind : second.place.sector < first.place.sector + a.sectors

-- the pointer uses one place, and those that it does not use are zero
pub record UsesOnePlace (bp : Bp) : Type 0 where
  pub single : bp.count ≡ 1
  pub unused : (p : Place) → Has (drop 1 bp.places) p → p ≡ record { vdev = 0; sector = 0 }

-- each pointer of the datasets uses one place
pub record HasOnePlace (g : Graph) : Type 0 where
  pub each : (d : Dataset) → Has g d → (e : Key × Bp) → Has d.entries e → UsesOnePlace e.1

-- no two entries at home overlap
abbrev pub AreApart : Graph → Type 0
AreApart g =
    (c d : Dataset) (e f : Key × Bp) → IsHome g c e → IsHome g d f → Overlap e.1 f.1 → (c.id ≡ d.id) × (e.0 ≡ f.0)

-- the datasets are a graph that is whole up to the transaction group n
pub record IsValid (g : Graph) (n : ℕ) : Type 0 where
  pub tree : IsTree g n
  pub holds : (d : Dataset) → Has g d → HasBlocks d n
  pub shares : (d parent : Dataset) → Has g d → Has g parent → d.parent ≡ Some parent.id → Shares d parent
  pub apart : AreApart g

-- the room of a pool: the sector at which the space of each mirror begins, those at which they end, and the number
-- of blocks that the pool may hold
pub record Room : Type 0 where
  pub start : ℕ
  pub ends : List ℕ
  pub blocks : ℕ

-- the block lies in the space of its mirror
pub record LiesIn (room : Room) (place : Place) (sectors : ℕ) : Type 0 where
  pub mirror : place.vdev < length room.ends
  pub from : room.start ≤ place.sector
  pub to : place.sector + sectors ≤ slice_index room.ends place.vdev

-- there are at most so many live pieces: a list of at most that length has them all
pub record HasAtMost (g : Graph) (most : ℕ) : Type 0 where
  pub all : List Piece
  pub few : length all ≤ most
  pub each : (p : Piece) → IsLive g p → Has all p

-- the blocks lie in the room of the pool
pub record IsWithin (room : Room) (g : Graph) : Type 0 where
  pub places : (d : Dataset) → Has g d → (e : Key × Bp) → Has d.entries e → (p : Piece) → Has (pieces_of e.1) p → LiesIn room p.place e.1.sectors
  pub few : HasAtMost g room.blocks

-- a valid graph of a pool with this room
pub record Valid (room : Room) (g : Graph) (n : ℕ) : Type 0 where
  pub graph : IsValid g n
  pub within : IsWithin room g
