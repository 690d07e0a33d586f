-- The changes of a list of datasets, with what each asks.
use Rattle.std.specs.Prelude.{◌≡◌, ◌≢◌, ◌<◌, ◌++◌, ◌⊎◌, ℕ, true, false, not, List, [], ◌∷◌, Option, Some, map, filter, length, option_to_list, if◌then◌else◌}
use Rattle.std.specs.List.Sorted.{IsStrictlySortedBy}
use Rattle.zs_ids.specs.declared.key.Key.{Key}
use Rattle.zs_ids.specs.declared.block.Bp.{Bp}
use Rattle.zs_ids.specs.declared.block.Item.{Item}
use Rattle.zs_ids.specs.declared.block.Piece.{Piece}
use Rattle.zs_ids.specs.declared.dataset.DsId.{DsId}
use Rattle.zs_ids.specs.declared.dataset.Name.{Name}
use Rattle.zs_ids.specs.declared.dataset.TheConstants.DsId.{ORIGIN}
use Rattle.zs_ids.specs.declared.dataset.TheConstants.Name.{EMPTY}
use Rattle.zs_ids.specs.Blocks.{entries_with, IsInKeyOrder}
use Rattle.zs_ids.specs.Graph.{Has, Dataset, Graph, IsLive, IsOfBlock}
use Rattle.zs_ids.specs.Piece.{piece_cmp}
use Rattle.zs_ids.specs.GraphTree.{is_id, start_of, stands_on, children_of}
use Rattle.zs_ids.specs.GraphValid.{origin, HasBlocks, AreApart, IsWithin, Room}

-- a new id: ids are given in rising order and never again
abbrev pub IsNewId : Graph → DsId → Type 0
IsNewId g id = (d : Dataset) → Has g d → d.id.0 < id.0

-- a head on a snapshot, with what the snapshot holds
abbrev pub head_on : Dataset → DsId → Name → Dataset
head_on snap id name = record { id = id; head = true; owner = name; label = EMPTY; parent = Some snap.id; creation = 0; entries = snap.entries }

-- a head may be made on a snapshot: its name is free, and there is room
pub record MayClone (g : Graph) (snap : Dataset) (id : DsId) (name : Name) : Type 0 where
  pub here : Has g snap
  pub is_snapshot : snap.head ≡ false
  pub free : (d : Dataset) → Has g d → d.head ≡ true → d.owner ≢ name
  pub fresh : IsNewId g id
  pub room : length g < 255

-- a head is made on a snapshot
abbrev pub cloned : Graph → Dataset → DsId → Name → Graph
cloned g snap id name = g ++ head_on snap id name ∷ []

-- a filesystem is a clone of the origin
abbrev pub with_fs : Graph → DsId → Name → Graph
with_fs g id name = cloned g origin id name

-- a snapshot of a head: what the head holds, on the head's parent
abbrev pub snapshot_of : Dataset → DsId → Name → ℕ → Dataset
snapshot_of head id label t = record { id = id; head = false; owner = head.owner; label = label; parent = head.parent; creation = t; entries = head.entries }

-- a snapshot of a head may be taken at t: its name is free, the head's parent is of another transaction group, and
-- there is room
pub record MaySnapshot (g : Graph) (head : Dataset) (id : DsId) (label : Name) (t : ℕ) : Type 0 where
  pub here : Has g head
  pub is_head : head.head ≡ true
  pub free : (d : Dataset) → Has g d → d.head ≡ false → d.owner ≡ head.owner → d.label ≢ label
  pub other_txg : start_of g head.parent ≢ t
  pub fresh : IsNewId g id
  pub room : length g < 255

-- the dataset with this id, put on another parent
abbrev pub moved_onto : DsId → Option DsId → Dataset → Dataset
moved_onto id parent d = if is_id d.id id then record d { parent = parent } else d

-- a snapshot is taken: it stands between the head and the head's parent
abbrev pub with_snapshot : Graph → Dataset → DsId → Name → ℕ → Graph
with_snapshot g head id label t = map (moved_onto head.id (Some id)) g ++ snapshot_of head id label t ∷ []

-- a dataset may be destroyed: it is not the origin, and has at most the one child `next`, none where it is a head
pub record MayDestroy (g : Graph) (d : Dataset) (next : Option DsId) : Type 0 where
  pub here : Has g d
  pub not_origin : d.id ≢ ORIGIN
  pub only : children_of g d.id ≡ option_to_list next

-- the datasets but the one with this id
abbrev pub without : DsId → Graph → Graph
without id g = filter (λ d. not (is_id d.id id)) g

-- what stood on a dataset, put on the parent of that dataset
abbrev pub off : Dataset → Dataset → Dataset
off gone d = if stands_on gone.id d.parent then record d { parent = gone.parent } else d

-- a dataset is destroyed: its child gets its parent
abbrev pub destroyed : Graph → Dataset → Graph
destroyed g gone = map (off gone) (without gone.id g)

-- two heads may be swapped: they are two, on one parent
pub record MaySwap (g : Graph) (a b : Dataset) : Type 0 where
  pub first : Has g a
  pub second : Has g b
  pub first_head : a.head ≡ true
  pub second_head : b.head ≡ true
  pub two : a.id ≢ b.id
  pub siblings : a.parent ≡ b.parent

-- the dataset with this id, with other entries
abbrev pub holding : DsId → List (Key × Bp) → Dataset → Dataset
holding id entries d = if is_id d.id id then record d { entries = entries } else d

-- two heads are swapped: each holds what the other held
abbrev pub swapped : Graph → Dataset → Dataset → Graph
swapped g a b = map (λ d. holding a.id b.entries (holding b.id a.entries d)) g

-- blocks are applied to a head
abbrev pub applied : Graph → Dataset → List (Key × Bp) → Graph
applied g head changes = map (holding head.id (entries_with head.entries changes)) g

-- blocks written in t may be put over those of a head: its parent and its blocks are older, the new ones are born in t, and
-- with them the head is in order and all blocks lie apart
pub record MayPut (g : Graph) (head : Dataset) (changes : List (Key × Bp)) (t : ℕ) : Type 0 where
  pub here : Has g head
  pub is_head : head.head ≡ true
  pub later : start_of g head.parent < t
  pub older : (e : Key × Bp) → Has head.entries e → e.1.birth < t
  pub born : (e : Key × Bp) → Has changes e → e.1.birth ≡ t
  pub in_order : IsInKeyOrder changes
  pub blocks : HasBlocks (record head { entries = entries_with head.entries changes }) t
  pub apart : AreApart (applied g head changes)

-- they may be applied: they lie in the room of the pool besides
pub record MayApply (room : Room) (g : Graph) (head : Dataset) (changes : List (Key × Bp)) (t : ℕ) : Type 0 where
  pub put : MayPut g head changes t
  pub within : IsWithin room (applied g head changes)

-- the blocks of the one are blocks of the other, each with its size and sum: nothing is freed
pub record AreBlocksKept (old new : Graph) : Type 0 where
  pub kept : (p : Piece) (sectors : ℕ) (sum : List ℕ) → IsOfBlock old p sectors sum → IsOfBlock new p sectors sum

-- the items are those of the pieces that are live in the one and not in the other, with their sizes and sums, in order of
-- place; each other piece that was live is one of a block still, with its size and sum
pub record AreFreed (old new : Graph) (items : List Item) : Type 0 where
  pub in_order : IsStrictlySortedBy piece_cmp (map (λ i. i.piece) items)
  pub was_live : (i : Item) → Has items i → IsOfBlock old i.piece i.sectors i.sum
  pub is_gone : (i : Item) → Has items i → IsLive new i.piece → ⊥
  pub rest : (p : Piece) (sectors : ℕ) (sum : List ℕ) → IsOfBlock old p sectors sum → Has (map (λ i. i.piece) items) p ⊎ IsOfBlock new p sectors sum
