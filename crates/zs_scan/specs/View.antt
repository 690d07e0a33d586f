-- What contracts see of a scan.
use Rattle.std.specs.Prelude.{◌≡◌, ℕ, ◌==◌, ◌||◌, Bool, true, false, List, map, take, Option, Some, None, is_some, if◌then◌else◌}
use Rattle.std.specs.Ordering.{is_eq}
use Rattle.std.specs.Map.{lookup}
use Rattle.std.specs.BTreeMap.{is_at}
use Rattle.std.specs.List.{list_any}
use Rattle.zs_ids.specs.declared.block.Piece.{Piece}
use Rattle.zs_ids.specs.declared.block.Item.{Item}
use Rattle.zs_ledger.specs.declared.entry.Entry.{Entry}
use Rattle.zs_ledger.specs.Kept.{has_piece}
use Rattle.zs_phys.specs.declared.scope.Scope.{Scope}
use Rattle.zs_phys.specs.declared.phys.Phys.{Phys}
use Rattle.zs_ids.specs.Piece.{piece_cmp}
use Rattle.zs_scan.specs.declared.batch.Batch.{Batch}

-- a mark of a piece: none where it waits, and where it flies the number of its batch
abbrev pub Mark : Type 0
Mark = Option ℕ

pub record ScanView : Type 0 where
  -- what the scan examines, and where its walk stands
  pub scope : Scope
  pub run : Phys
  -- the state that a crash leaves: that of the last checkpoint, with what changes of the datasets, pausing and resuming have
  -- made of it since
  pub kept : Phys
  -- how many of the checked entries are stored with it
  pub stored : ℕ
  -- the transaction group of that checkpoint, or of the start, and after how many more the next one is due
  pub saved : ℕ
  pub every : ℕ
  -- what it has checked, in order, and for how many more entries there is room
  pub checked : List Entry
  pub room : ℕ
  -- the pieces that wait, each beside its item, in order of address, and how many may
  pub waiting : List (Piece × Item)
  pub limit : ℕ
  -- a mark for each piece that waits or flies, in order of address
  pub marks : List (Piece × Mark)
  -- the batches that were taken and have no verdict yet, in the order in which they were taken, and how many were taken
  pub flight : List Batch
  pub batches : ℕ

-- the two are one piece
abbrev pub is_same : Piece → Piece → Bool
is_same p q = is_eq (piece_cmp p q)

-- the mark of a piece, if it waits or flies
abbrev pub mark_of : List (Piece × Mark) → Piece → Option Mark
mark_of marks p = lookup (is_at (piece_cmp p)) marks

-- a piece with this mark waits
abbrev pub is_waiting : Option Mark → Bool
is_waiting None = false
is_waiting (Some None) = true
is_waiting (Some (Some b)) = false

-- a piece with this mark flies in the batch
abbrev pub flies_in : ℕ → Option Mark → Bool
flies_in b None = false
flies_in b (Some None) = false
flies_in b (Some (Some c)) = c == b

-- a piece with this mark flies
abbrev pub flies : Option Mark → Bool
flies None = false
flies (Some m) = is_some m

-- the marks are as they were, but for this piece
abbrev pub MarksAs : List (Piece × Mark) → List (Piece × Mark) → Piece → Option Mark → Type 0
MarksAs old new piece mark = (q : Piece) → mark_of new q ≡ (if is_same piece q then mark else mark_of old q)

-- the entry of a mark is of a piece that flies
abbrev pub is_flying : Piece × Mark → Bool
is_flying e = is_some e.1

-- a piece is done: it is checked, waits or flies
abbrev pub is_done : ScanView → Piece → Bool
is_done v p = has_piece v.checked p || is_some (mark_of v.marks p)

-- a piece is stored as checked: it has an entry among those that are stored
abbrev pub is_stored : ScanView → Piece → Bool
is_stored v p = has_piece (take v.stored v.checked) p

-- the pieces of some items
abbrev pub pieces_in : List Item → List Piece
pieces_in items = map (λ i. i.piece) items

-- an item is of the piece
abbrev pub has_item : List Item → Piece → Bool
has_item items p = list_any (λ i. is_same i.piece p) items
