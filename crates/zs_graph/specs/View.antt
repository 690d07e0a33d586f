-- What contracts see of the datasets of a pool, and what is true of them.
use Rattle.std.specs.Prelude.{◌==◌, ◌&&◌, Bool, false, not, ◌≡◌, ◌≤◌, ◌<◌, ◌+◌, ◌++◌, ◌∷◌, [], ℕ, List, Option, Some, None, length, slice_get}
use Rattle.zs_ids.specs.declared.key.Key.{Key}
use Rattle.zs_ids.specs.declared.block.Bp.{Bp}
use Rattle.zs_ids.specs.declared.dataset.DsId.{DsId}
use Rattle.zs_ids.specs.declared.dataset.Name.{Name}
use Rattle.zs_ids.specs.declared.dataset.DsName.{DsName}
use Rattle.zs_ids.specs.Graph.{Has, Dataset, Graph}
use Rattle.zs_ids.specs.GraphTree.{dataset_at, same_name}
use Rattle.zs_ids.specs.GraphValid.{Room, Valid, IsValid}
use Rattle.zs_graph.specs.declared.graph.Set.{Set}

-- a dataset with its map, as contracts see it
abbrev pub dataset_of : {T : Type 0} → (T → List (Key × Bp)) → Set T → Dataset
dataset_of entries s =
    record { id = s.id; head = s.head; owner = s.owner; label = s.label; parent = s.parent; creation = s.creation; entries = entries s.map }

-- the datasets, in order of id, and the id that the next one gets
pub record GraphView : Type 0 where
  pub sets : Graph
  pub next : ℕ

-- the datasets are valid up to some transaction group, and their ids are below the next one
pub record IsGraph (v : GraphView) : Type 0 where
  pub last : ℕ
  pub valid : IsValid v.sets last
  pub below : (d : Dataset) → Has v.sets d → d.id.0 < v.next

-- a graph that was valid is so after a change of the transaction group t
abbrev pub StaysValid : ℕ → Graph → Graph → Type 0
StaysValid t old new = (room : Room) (n h : ℕ) → n ≤ h → t ≤ h → Valid room old n → Valid room new h

-- the dataset with this id stands at this index, or there is none
abbrev pub IsIndexOf : Graph → DsId → Option ℕ → Type 0
IsIndexOf g id None = dataset_at g id ≡ None
IsIndexOf g id (Some i) = (i < length g) × (slice_get g i ≡ dataset_at g id)

-- the parent of a dataset, where there is one
abbrev pub parent_id : Option Dataset → Option DsId
parent_id None = None
parent_id (Some d) = d.parent

-- there is a dataset, and it is a head
abbrev pub is_head : Option Dataset → Bool
is_head None = false
is_head (Some d) = d.head

-- with a dataset behind the others, and the next id
abbrev pub with_dataset : GraphView → Dataset → GraphView
with_dataset v d = record { sets = v.sets ++ d ∷ []; next = v.next + 1 }

-- a dataset with this id, owner and label has the name; the origin has none
abbrev pub has_name : DsId → Name → Name → DsName → Bool
has_name id owner label name = not (id.0 == 0) && (same_name owner name.owner && same_name label name.label)
