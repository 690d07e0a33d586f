-- What ties a scan to the datasets that it walks: it covers them, and what waits or flies is live.
use Rattle.std.specs.Prelude.{◌≡◌, ℕ, ◌≤◌, ◌++◌, ◌⊎◌, true, false, List, [], ◌∷◌, Some}
use Rattle.zs_ids.specs.declared.block.Piece.{Piece}
use Rattle.zs_ids.specs.declared.block.Item.{Item}
use Rattle.zs_ids.specs.Graph.{Graph, Has, IsLive, IsOfBlock}
use Rattle.zs_ids.specs.GraphValid.{Room, Valid, LiesIn}
use Rattle.zs_ledger.specs.declared.entry.Entry.{Entry}
use Rattle.zs_ledger.specs.Entry.{AreCopies}
use Rattle.zs_ledger.specs.Kept.{has_piece}
use Rattle.zs_phys.specs.declared.scope.Scope.{Scope}
use Rattle.zs_phys.specs.Scope.{in_scope}
use Rattle.zs_cover.specs.Laws.{IsCovered}
use Rattle.zs_scan.specs.declared.batch.Batch.{Batch}
use Rattle.zs_scan.specs.View.{ScanView, mark_of, is_done, is_stored}

-- the pieces that wait and those that fly are live, and their items have the size and sum of the piece's pointer
pub record AreLive (g : Graph) (v : ScanView) : Type 0 where
  pub waiting : (e : Piece × Item) → Has v.waiting e → IsOfBlock g e.1.piece e.1.sectors e.1.sum
  pub flying : (b : Batch) (i : Item) → Has v.flight b → Has b.items i → mark_of v.marks i.piece ≡ Some (Some b.number)
      → IsOfBlock g i.piece i.sectors i.sum

-- what waits or flies is of a block that is live, with its size and sum, or is one of these pieces, none of which is live
pub record AreLiveBut (gone : List Piece) (g : Graph) (v : ScanView) : Type 0 where
  pub dead : (p : Piece) → Has gone p → IsLive g p → ⊥
  pub waiting : (e : Piece × Item) → Has v.waiting e → Has gone e.1.piece ⊎ IsOfBlock g e.1.piece e.1.sectors e.1.sum
  pub flying : (b : Batch) (i : Item) → Has v.flight b → Has b.items i → mark_of v.marks i.piece ≡ Some (Some b.number)
      → Has gone i.piece ⊎ IsOfBlock g i.piece i.sectors i.sum

-- an item lies in the space of its mirror, and has the size of a block
pub record IsInRoom (room : Room) (item : Item) : Type 0 where
  pub lies : LiesIn room item.piece.place item.sectors
  pub some : 1 ≤ item.sectors
  pub most : item.sectors ≤ 256

-- the item of a block that some dataset has lies in the room
abbrev pub RoomLaw : Type 0
RoomLaw =
    (room : Room) (g : Graph) (n : ℕ) (piece : Piece) (sectors : ℕ) (sum : List ℕ) → Valid room g n → IsOfBlock g piece sectors sum
    → IsInRoom room (record { piece = piece; sectors = sectors; sum = sum })

-- the state that is kept for a crash is sound and covers the datasets, with what is stored as checked as done: queue and
-- flight are lost in a crash
abbrev pub IsStoredOf : Room → Graph → ℕ → ℕ → ScanView → Type 0
IsStoredOf room g n h v = IsCovered room g n h v.scope v.kept (is_stored v)

-- the scan belongs to the datasets, whose blocks are born by n and which lie in the room, where the tasks of the
-- transaction group h come next: its state is sound and covers them, with what is checked, waits or flies as done; so does
-- the state that is kept for a crash; what waits or flies is live; and what is in flight lies in the room, also what was
-- freed since
pub record IsScanOf (room : Room) (g : Graph) (n h : ℕ) (v : ScanView) : Type 0 where
  pub covered : IsCovered room g n h v.scope v.run (is_done v)
  pub stored : IsStoredOf room g n h v
  pub live : AreLive g v
  pub in_room : (b : Batch) (i : Item) → Has v.flight b → Has b.items i → IsInRoom room i

-- the scan is the datasets' own but for these pieces, which were freed and of which it has not been told
pub record IsScanBut (gone : List Piece) (room : Room) (g : Graph) (n h : ℕ) (v : ScanView) : Type 0 where
  pub covered : IsCovered room g n h v.scope v.run (is_done v)
  pub stored : IsStoredOf room g n h v
  pub live : AreLiveBut gone g v
  pub in_room : (b : Batch) (i : Item) → Has v.flight b → Has b.items i → IsInRoom room i

-- a call keeps the scan the datasets' own
abbrev pub Keeps : ScanView → ScanView → Type 0
Keeps old new = (room : Room) (g : Graph) (n h : ℕ) → IsScanOf room g n h old → IsScanOf room g n h new

-- an entry may be added to those that are checked: it is of a live block in scope that has none, and has the copies of a
-- mirror of the scope's width
pub record MayBeChecked (g : Graph) (scope : Scope) (checked : List Entry) (e : Entry) : Type 0 where
  pub block : IsOfBlock g e.piece e.sectors e.sum
  pub wanted : in_scope scope e.piece ≡ true
  pub unchecked : has_piece checked e.piece ≡ false
  pub copies : AreCopies scope.width e.copies

-- the entries may be added one after another
abbrev pub MayAllBeChecked : Graph → Scope → List Entry → List Entry → Type 0
MayAllBeChecked g scope checked [] = Unit {0}
MayAllBeChecked g scope checked (e ∷ es) = MayBeChecked g scope checked e × MayAllBeChecked g scope (checked ++ e ∷ []) es

-- every live piece in the scope is checked
abbrev pub AllAreChecked : Graph → Scope → List Entry → Type 0
AllAreChecked g scope checked = (p : Piece) → IsLive g p → in_scope scope p ≡ true → has_piece checked p ≡ true
