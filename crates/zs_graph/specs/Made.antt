-- What each change makes of the datasets, where it is not refused.
use Rattle.std.specs.Prelude.{◌≡◌, ◌≤◌, ◌+◌, ℕ, true, List, Some, None}
use Rattle.zs_ids.specs.declared.key.Key.{Key}
use Rattle.zs_ids.specs.declared.block.Bp.{Bp}
use Rattle.zs_ids.specs.declared.dataset.DsId.{DsId}
use Rattle.zs_ids.specs.declared.dataset.Name.{Name}
use Rattle.zs_ids.specs.Graph.{Has, Dataset, Graph}
use Rattle.zs_ids.specs.GraphTree.{dataset_at}
use Rattle.zs_ids.specs.GraphValid.{origin}
use Rattle.zs_ids.specs.GraphChange.{cloned, with_fs, with_snapshot, destroyed, swapped, applied, MayClone, MaySnapshot, MayDestroy, MaySwap, MayPut, AreBlocksKept, AreFreed}
use Rattle.zs_graph.specs.declared.freed.Freed.{Freed}
use Rattle.zs_graph.specs.View.{GraphView, StaysValid}

-- no birth and no creation is above t
pub record IsUpTo (g : Graph) (t : ℕ) : Type 0 where
  pub births : (d : Dataset) (e : Key × Bp) → Has g d → Has d.entries e → e.1.birth ≤ t
  pub creations : (d : Dataset) → Has g d → d.creation ≤ t

-- a new dataset got the next id; the datasets are valid still, and nothing is freed
pub record IsAdded (t : ℕ) (old : GraphView) (id : DsId) (new : GraphView) : Type 0 where
  pub number : id.0 ≡ old.next
  pub next : new.next ≡ old.next + 1
  pub valid : StaysValid t old.sets new.sets
  pub frees_none : AreBlocksKept old.sets new.sets

-- a filesystem was made
pub record IsFsMade (old : GraphView) (name : Name) (id : DsId) (new : GraphView) : Type 0 where
  pub may : MayClone old.sets origin id name
  pub now : new.sets ≡ with_fs old.sets id name
  pub added : IsAdded 0 old id new

-- a clone was made on a snapshot
pub record IsCloned (old : GraphView) (snap : DsId) (name : Name) (id : DsId) (new : GraphView) : Type 0 where
  pub on : Dataset
  pub here : dataset_at old.sets snap ≡ Some on
  pub may : MayClone old.sets on id name
  pub now : new.sets ≡ cloned old.sets on id name
  pub added : IsAdded 0 old id new

-- a snapshot of a head was taken in the transaction group t
pub record IsSnapshotTaken (old : GraphView) (head : DsId) (label : Name) (t : ℕ) (id : DsId) (new : GraphView) : Type 0 where
  pub of : Dataset
  pub here : dataset_at old.sets head ≡ Some of
  pub may : MaySnapshot old.sets of id label t
  pub now : new.sets ≡ with_snapshot old.sets of id label t
  pub added : IsAdded t old id new

-- a dataset was destroyed, and what it alone held is freed
pub record IsDestroyed (old : GraphView) (id : DsId) (freed : Freed) (new : GraphView) : Type 0 where
  pub gone : Dataset
  pub here : dataset_at old.sets id ≡ Some gone
  pub may : MayDestroy old.sets gone freed.next
  pub now : new ≡ record old { sets = destroyed old.sets gone }
  pub valid : StaysValid 0 old.sets new.sets
  pub items : AreFreed old.sets new.sets freed.items

-- two heads were swapped; nothing is freed
pub record IsSwapped (old : GraphView) (a b : DsId) (new : GraphView) : Type 0 where
  pub first : Dataset
  pub second : Dataset
  pub first_here : dataset_at old.sets a ≡ Some first
  pub second_here : dataset_at old.sets b ≡ Some second
  pub may : MaySwap old.sets first second
  pub now : new ≡ record old { sets = swapped old.sets first second }
  pub valid : StaysValid 0 old.sets new.sets
  pub frees_none : AreBlocksKept old.sets new.sets

-- blocks written in the transaction group t may be put over those of the dataset with this id, where it is a head
abbrev pub MayPutAt : Graph → DsId → List (Key × Bp) → ℕ → Type 0
MayPutAt g head changes t = (d : Dataset) → dataset_at g head ≡ Some d → d.head ≡ true → MayPut g d changes t

-- blocks written in the transaction group t were put over those of a head, and what is no longer live is freed
pub record IsApplied (old : GraphView) (head : DsId) (changes : List (Key × Bp)) (t : ℕ) (freed : Freed) (new : GraphView) : Type 0 where
  pub to : Dataset
  pub here : dataset_at old.sets head ≡ Some to
  pub may : MayPut old.sets to changes t
  pub now : new ≡ record old { sets = applied old.sets to changes }
  pub items : AreFreed old.sets new.sets freed.items
  pub no_child : freed.next ≡ None
