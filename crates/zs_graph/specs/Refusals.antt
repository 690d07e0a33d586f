-- Why a change of the datasets is refused: of the reasons that hold, the one that stands first here.
use Rattle.std.specs.Prelude.{◌≡◌, ℕ, ◌==◌, ◌&&◌, ◌||◌, not, nat_lt, Bool, true, false, length, Option, Some, None, Result, Ok, Err, if◌then◌else◌}
use Rattle.std.specs.List.{list_any}
use Rattle.zs_ids.specs.declared.dataset.DsId.{DsId}
use Rattle.zs_ids.specs.declared.dataset.Name.{Name}
use Rattle.zs_ids.specs.declared.dataset.TheConstants.DsId.{ORIGIN}
use Rattle.zs_ids.specs.declared.limits.TheConstants.{DATASETS}
use Rattle.zs_ids.specs.Graph.{Dataset, Graph}
use Rattle.zs_ids.specs.GraphTree.{is_id, dataset_at, start_of, children_of, same_name}
use Rattle.zs_graph.specs.declared.fault.GraphFault.{GraphFault}
use Rattle.zs_graph.specs.declared.fault.GraphFault.TheVariants.{NoDataset, Exists, NotHead, NotSnapshot, HasClones, HasSnapshots, NotSiblings, SameTxg, TooMany, Memory}
use Rattle.zs_graph.specs.View.{GraphView}

-- a call answers the refusal, where there is one; where there is none it is done, or memory was wanting
abbrev pub Answers : {A : Type 0} → Option GraphFault → Result A GraphFault → Type 0
Answers (Some why) result = result ≡ Err why
Answers None (Ok answer) = Unit {0}
Answers None (Err why) = why ≡ Memory

-- a head has the name
abbrev pub has_head_named : Graph → Name → Bool
has_head_named g name = list_any (λ d. d.head && same_name d.owner name) g

-- a snapshot of this owner has the label
abbrev pub has_snapshot_named : Graph → Name → Name → Bool
has_snapshot_named g owner label = list_any (λ d. not d.head && (same_name d.owner owner && same_name d.label label)) g

-- there are as many datasets as may be, or the ids are used up
abbrev pub is_full : GraphView → Bool
is_full v = (length v.sets == DATASETS) || (v.next == 4294967295)

abbrev pub if_full : GraphView → Option GraphFault
if_full v = if is_full v then Some TooMany else None

-- the datasets have one parent
abbrev pub is_sibling : Option DsId → Option DsId → Bool
is_sibling None None = true
is_sibling (Some a) (Some b) = is_id a b
is_sibling None (Some b) = false
is_sibling (Some a) None = false

-- the dataset with this id, where there is one, is of this owner
abbrev pub is_owned_by : Name → Option Dataset → Bool
is_owned_by owner None = false
is_owned_by owner (Some d) = same_name d.owner owner

abbrev pub parent_in : Graph → Option DsId → Option Dataset
parent_in g None = None
parent_in g (Some id) = dataset_at g id

-- why no filesystem is made
abbrev pub fs_refusal : GraphView → Name → Option GraphFault
fs_refusal v name = if has_head_named v.sets name then Some Exists else if_full v

-- why no clone is made on a snapshot
abbrev pub clone_refusal : GraphView → DsId → Name → Option GraphFault
clone_refusal v snap name = on (dataset_at v.sets snap)
  where
    on : Option Dataset → Option GraphFault
    on None = Some NoDataset
    on (Some d) = if has_head_named v.sets name then Some Exists else (if d.head then Some NotSnapshot else if_full v)

-- why no snapshot of a head is taken in the transaction group t
abbrev pub snapshot_refusal : GraphView → DsId → Name → ℕ → Option GraphFault
snapshot_refusal v head label t = of (dataset_at v.sets head)
  where
    of : Option Dataset → Option GraphFault
    of None = Some NoDataset
    of (Some d) =
        if has_snapshot_named v.sets d.owner label
        then Some Exists
        else (if not d.head then Some NotHead else (if start_of v.sets d.parent == t then Some SameTxg else if_full v))

-- why a dataset is not destroyed
abbrev pub destroy_refusal : GraphView → DsId → Option GraphFault
destroy_refusal v id = of (dataset_at v.sets id)
  where
    of : Option Dataset → Option GraphFault
    of None = Some NoDataset
    of (Some d) =
        if is_id id ORIGIN || nat_lt 1 (length (children_of v.sets id))
        then Some HasClones
        else (if d.head && is_owned_by d.owner (parent_in v.sets d.parent) then Some HasSnapshots else None)

-- why two datasets are not swapped
abbrev pub swap_refusal : GraphView → DsId → DsId → Option GraphFault
swap_refusal v a b = of (dataset_at v.sets a) (dataset_at v.sets b)
  where
    of : Option Dataset → Option Dataset → Option GraphFault
    of None second = Some NoDataset
    of (Some x) None = Some NoDataset
    of (Some x) (Some y) =
        if not (x.head && y.head)
        then Some NotHead
        else (if is_id a b || not (is_sibling x.parent y.parent) then Some NotSiblings else None)

-- why no blocks are applied to a dataset
abbrev pub apply_refusal : GraphView → DsId → Option GraphFault
apply_refusal v head = to (dataset_at v.sets head)
  where
    to : Option Dataset → Option GraphFault
    to None = Some NoDataset
    to (Some d) = if d.head then None else Some NotHead
