-- How the datasets of a list stand on each other, and which entries are a dataset's own.
use Rattle.std.specs.Prelude.{◌≡◌, ◌<◌, ℕ, Bool, true, false, not, ◌==◌, ◌&&◌, nat_lt, List, [], Option, Some, None, map, filter, find, if◌then◌else◌}
use Rattle.std.specs.Cmp.Lexicographic.{pointwise}
use Rattle.zs_ids.specs.declared.key.Key.{Key}
use Rattle.zs_ids.specs.declared.block.Bp.{Bp}
use Rattle.zs_ids.specs.declared.block.Piece.{Piece}
use Rattle.zs_ids.specs.declared.dataset.DsId.{DsId}
use Rattle.zs_ids.specs.declared.dataset.DsName.{DsName}
use Rattle.zs_ids.specs.declared.dataset.Name.{Name}
use Rattle.zs_ids.specs.Blocks.{first_from}
use Rattle.zs_ids.specs.Graph.{Has, Dataset, Graph, pieces_of}

-- the two ids are one
abbrev pub is_id : DsId → DsId → Bool
is_id a b = a.0 == b.0

-- the dataset with this id
abbrev pub dataset_at : Graph → DsId → Option Dataset
dataset_at g id = find (λ d. is_id d.id id) g

-- the transaction group in which it was created: 0 for a head, and where there is none
abbrev pub created : Option Dataset → ℕ
created None = 0
created (Some d) = d.creation

-- the transaction group after which a block is a dataset's own: the creation of its parent
abbrev pub start_of : Graph → Option DsId → ℕ
start_of g None = 0
start_of g (Some parent) = created (dataset_at g parent)

-- an entry of a dataset at home there: it is born after the dataset's parent was created
pub record IsHome (g : Graph) (d : Dataset) (e : Key × Bp) : Type 0 where
  pub here : Has g d
  pub holds : Has d.entries e
  pub born : start_of g d.parent < e.1.birth

-- a dataset `c` stands on `a`
pub record IsParent (g : Graph) (a c : DsId) : Type 0 where
  pub child : Dataset
  pub here : Has g child
  pub named : child.id ≡ c
  pub stands : child.parent ≡ Some a

-- `a` is a strict ancestor: the parent, or a strict ancestor of the parent
pub data Above (g : Graph) (a : DsId) : DsId → Type 0 where
  direct : (c : DsId) → IsParent g a c → Above g a c
  up : (c m : DsId) → IsParent g m c → Above g a m → Above g a c

-- the dataset stands on this one
abbrev pub stands_on : DsId → Option DsId → Bool
stands_on a None = false
stands_on a (Some b) = is_id a b

-- the ids of the datasets that stand on this one, in order
abbrev pub children_of : Graph → DsId → List DsId
children_of g id = map (λ d. d.id) (filter (λ d. stands_on id d.parent) g)

-- an entry at home in a dataset of this id has the piece
pub record IsHomeOf (g : Graph) (id : DsId) (e : Key × Bp) (p : Piece) : Type 0 where
  pub holder : Dataset
  pub named : holder.id ≡ id
  pub home : IsHome g holder e
  pub is_piece : Has (pieces_of e.1) p

-- the names are the same
abbrev pub same_name : Name → Name → Bool
same_name a b = (a.len == b.len) && pointwise ◌==◌ a.bytes b.bytes

-- the dataset has this name; the origin has none
abbrev pub is_named : DsName → Dataset → Bool
is_named name d = not (d.id.0 == 0) && (same_name d.owner name.owner && same_name d.label name.label)

-- the dataset of that name
abbrev pub dataset_named : Graph → DsName → Option Dataset
dataset_named g name = find (is_named name) g

-- the entries of a dataset, where there is one
abbrev pub entries_of : Option Dataset → List (Key × Bp)
entries_of None = []
entries_of (Some d) = d.entries

-- a dataset's first block at or after the key that is born after `above`
abbrev pub next_in : Graph → DsId → Key → ℕ → Option (Key × Bp)
next_in g id from above = first_from (entries_of (dataset_at g id)) from above

-- the transaction group in which a snapshot was taken; none for a head
abbrev pub taken_at : Option Dataset → Option ℕ
taken_at None = None
taken_at (Some d) = if d.head then None else Some d.creation

-- the id is above the other one, where there is one
abbrev pub is_above : Option DsId → DsId → Bool
is_above None id = true
is_above (Some other) id = nat_lt other.0 id.0
