-- A scan stays the datasets' own while these change: what each call does for its change, and the changes of which the scan
-- need not be told.
use Rattle.std.specs.Prelude.{◌≡◌, ℕ, ◌≤◌, ◌↔◌, List, [], Option}
use Rattle.zs_ids.specs.declared.key.Key.{Key}
use Rattle.zs_ids.specs.declared.block.Bp.{Bp}
use Rattle.zs_ids.specs.declared.block.Item.{Item}
use Rattle.zs_ids.specs.declared.dataset.DsId.{DsId}
use Rattle.zs_ids.specs.declared.dataset.Name.{Name}
use Rattle.zs_ids.specs.Graph.{Dataset, Graph}
use Rattle.zs_ids.specs.GraphValid.{Room}
use Rattle.zs_ids.specs.GraphChange.{cloned, with_snapshot, destroyed, swapped, applied, MayClone, MaySnapshot, MayDestroy, MaySwap, MayApply, AreBlocksKept, AreFreed}
use Rattle.zs_scan.specs.View.{ScanView, pieces_in}
use Rattle.zs_scan.specs.Covered.{IsScanOf, IsScanBut}

-- a snapshot of a head is taken: the scan stays the datasets' own
abbrev pub KeepsAtSnapshot : DsId → DsId → ScanView → ScanView → Type 0
KeepsAtSnapshot head snap old new =
    (room : Room) (g : Graph) (n h : ℕ) (of : Dataset) (label : Name) → of.id ≡ head → MaySnapshot g of snap label h
    → AreBlocksKept g (with_snapshot g of snap label h) → IsScanOf room g n h old → IsScanOf room (with_snapshot g of snap label h) h h new

-- a dataset is destroyed: the scan stays the datasets' own but for the pieces that this frees
abbrev pub KeepsAtDestroy : DsId → Option DsId → ScanView → ScanView → Type 0
KeepsAtDestroy id next old new =
    (room : Room) (g : Graph) (n h : ℕ) (gone : Dataset) (items : List Item) → gone.id ≡ id → MayDestroy g gone next
    → AreFreed g (destroyed g gone) items → IsScanOf room g n h old → IsScanBut (pieces_in items) room (destroyed g gone) h h new

-- two heads are swapped: the scan stays the datasets' own
abbrev pub KeepsAtSwap : DsId → DsId → ScanView → ScanView → Type 0
KeepsAtSwap a b old new =
    (room : Room) (g : Graph) (n h : ℕ) (first second : Dataset) → first.id ≡ a → second.id ≡ b → MaySwap g first second
    → AreBlocksKept g (swapped g first second) → IsScanOf room g n h old → IsScanOf room (swapped g first second) h h new

-- the scan is told of the pieces that were freed: it is the datasets' own again
abbrev pub KeepsFreed : List Item → ScanView → ScanView → Type 0
KeepsFreed items old new = (room : Room) (g : Graph) (n h : ℕ) → IsScanBut (pieces_in items) room g n h old → IsScanOf room g n h new

-- a clone is made, or a filesystem, which is a clone of the origin: the scan stays the datasets' own
abbrev pub CloneLaw : Type 0
CloneLaw =
    (room : Room) (g : Graph) (n h : ℕ) (v : ScanView) (snap : Dataset) (id : DsId) (name : Name) → IsScanOf room g n h v
    → MayClone g snap id name → AreBlocksKept g (cloned g snap id name) → IsScanOf room (cloned g snap id name) h h v

-- blocks that were written in h are applied to a head: the scan stays the datasets' own but for the pieces that this frees
abbrev pub ApplyLaw : Type 0
ApplyLaw =
    (room : Room) (g : Graph) (n h : ℕ) (v : ScanView) (head : Dataset) (changes : List (Key × Bp)) (items : List Item) → IsScanOf room g n h v
    → MayApply room g head changes h → AreFreed g (applied g head changes) items
    → IsScanBut (pieces_in items) room (applied g head changes) h h v

-- later transaction groups come: the scan stays the datasets' own
abbrev pub LaterLaw : Type 0
LaterLaw = (room : Room) (g : Graph) (n h k : ℕ) (v : ScanView) → h ≤ k → IsScanOf room g n h v → IsScanOf room g n k v

-- where no piece was freed nothing stands in the way of a scan that is the datasets' own
abbrev pub NoneFreedLaw : Type 0
NoneFreedLaw = (room : Room) (g : Graph) (n h : ℕ) (v : ScanView) → IsScanBut [] room g n h v ↔ IsScanOf room g n h v
