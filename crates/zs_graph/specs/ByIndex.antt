-- Changes of datasets that are named by their index in the list.
use Rattle.std.specs.Prelude.{◌≡◌, ◌+◌, ◌++◌, ◌∷◌, [], ℕ, false, List, Option, Some, None, slice_get, slice_set}
use Rattle.std.specs.List.{remove}
use Rattle.zs_ids.specs.declared.key.Key.{Key}
use Rattle.zs_ids.specs.declared.block.Bp.{Bp}
use Rattle.zs_ids.specs.declared.dataset.DsId.{DsId}
use Rattle.zs_ids.specs.declared.dataset.Name.{Name}
use Rattle.zs_ids.specs.Blocks.{entries_with}
use Rattle.zs_ids.specs.Graph.{Dataset, Graph}
use Rattle.zs_graph.specs.View.{GraphView, IsIndexOf}

-- a snapshot of the dataset at this index stands behind the others, with these entries, and that one on it
abbrev pub below_at : Graph → ℕ → DsId → Name → ℕ → List (Key × Bp) → Graph
below_at g at id label t entries = below (slice_get g at)
  where
    below : Option Dataset → Graph
    below None = g
    below (Some d) =
        slice_set g at (record d { parent = Some id })
        ++ record { id = id; head = false; owner = d.owner; label = label; parent = d.parent; creation = t; entries = entries } ∷ []

abbrev pub with_snapshot_at : GraphView → ℕ → DsId → Name → ℕ → List (Key × Bp) → GraphView
with_snapshot_at v at id label t entries = record { sets = below_at v.sets at id label t entries; next = v.next + 1 }

-- the datasets at these two indices, each with the entries of the other
abbrev pub swapped_at : Graph → ℕ → ℕ → Graph
swapped_at g i j = exchange (slice_get g i) (slice_get g j)
  where
    exchange : Option Dataset → Option Dataset → Graph
    exchange None second = g
    exchange (Some a) None = g
    exchange (Some a) (Some b) = slice_set (slice_set g j (record b { entries = a.entries })) i (record a { entries = b.entries })

-- the dataset at this index, with these blocks over its own
abbrev pub applied_at : Graph → ℕ → List (Key × Bp) → Graph
applied_at g at changes = put (slice_get g at)
  where
    put : Option Dataset → Graph
    put None = g
    put (Some d) = slice_set g at (record d { entries = entries_with d.entries changes })

-- the dataset at this index, where one is given, put on another parent
abbrev pub adopted_at : Graph → Option ℕ → Option DsId → Graph
adopted_at g None parent = g
adopted_at g (Some i) parent = adopt (slice_get g i)
  where
    adopt : Option Dataset → Graph
    adopt None = g
    adopt (Some d) = slice_set g i (record d { parent = parent })

-- without the dataset at this index, whose child, where it has one, gets its parent
abbrev pub removed_at : Graph → ℕ → Option ℕ → Graph
removed_at g at child = out (slice_get g at)
  where
    out : Option Dataset → Graph
    out None = g
    out (Some gone) = remove (adopted_at g child gone.parent) at

-- where the dataset with this id stands, where an id is given
abbrev pub IsPlaceOf : Graph → Option DsId → Option ℕ → Type 0
IsPlaceOf g None place = place ≡ None
IsPlaceOf g (Some id) place = IsIndexOf g id place
