-- What is true of every scan.
use Rattle.std.specs.Prelude.{◌≡◌, ◌≢◌, ℕ, ◌<◌, ◌≤◌, true, false, List, [], ◌∷◌, filter, length, Some}
use Rattle.std.specs.Map.{keys_of}
use Rattle.std.specs.List.Sorted.{IsStrictlySortedBy}
use Rattle.zs_ids.specs.declared.block.Piece.{Piece}
use Rattle.zs_ids.specs.declared.block.Item.{Item}
use Rattle.zs_ids.specs.Graph.{Has}
use Rattle.zs_ledger.specs.declared.entry.Entry.{Entry}
use Rattle.zs_ledger.specs.Entry.{HaveCopies}
use Rattle.zs_ledger.specs.Kept.{has_piece}
use Rattle.zs_phys.specs.declared.phys.Status.TheVariants.{Scanning}
use Rattle.zs_phys.specs.Scope.{in_scope}
use Rattle.zs_ids.specs.Piece.{piece_cmp}
use Rattle.zs_queue.specs.Waiting.{waits}
use Rattle.zs_scan.specs.declared.batch.Batch.{Batch}
use Rattle.zs_scan.specs.View.{Mark, ScanView, mark_of, is_waiting, is_flying, pieces_in, has_item}

-- no two entries are of one piece
abbrev pub AreOnce : List Entry → Type 0
AreOnce [] = Unit {0}
AreOnce (e ∷ es) = (has_piece es e.piece ≡ false) × AreOnce es

-- the numbers of batches rise, and are below the next one
abbrev pub RisesTo : ℕ → List Batch → Type 0
RisesTo next [] = Unit {0}
RisesTo next (b ∷ bs) = (b.number < next) × ((c : Batch) → Has bs c → b.number < c.number) × RisesTo next bs

-- a batch in flight has the number and an item of the piece
pub record IsInBatch (flight : List Batch) (number : ℕ) (p : Piece) : Type 0 where
  pub batch : Batch
  pub here : Has flight batch
  pub named : batch.number ≡ number
  pub is_item : has_item batch.items p ≡ true

-- what is true of every scan: waiting, flying and checked pieces are disjoint, and each stands once; those that wait or
-- fly are in scope; a piece flies in a batch that is in flight; where no scan runs none waits or flies; each entry has the
-- copies of a mirror of the scope's width
pub record IsOrderly (v : ScanView) : Type 0 where
  pub once : AreOnce v.checked
  pub unchecked : (p : Piece) (m : Mark) → mark_of v.marks p ≡ Some m → has_piece v.checked p ≡ false
  pub waits : (p : Piece) → waits v.waiting p ≡ is_waiting (mark_of v.marks p)
  pub ordered : IsStrictlySortedBy piece_cmp (keys_of v.waiting)
  pub named : (e : Piece × Item) → Has v.waiting e → e.1.piece ≡ e.0
  pub within : length v.waiting ≤ v.limit
  pub scoped : (p : Piece) (m : Mark) → mark_of v.marks p ≡ Some m → in_scope v.scope p ≡ true
  pub flies : (p : Piece) (b : ℕ) → mark_of v.marks p ≡ Some (Some b) → IsInBatch v.flight b p
  pub rising : (b : Batch) → Has v.flight b → IsStrictlySortedBy piece_cmp (pieces_in b.items)
  pub numbers : RisesTo v.batches v.flight
  pub idle : v.run.status ≢ Scanning → v.marks ≡ []
  pub copies : HaveCopies v.scope.width v.checked
  -- the state that is kept runs where this one does, and speaks of entries that there are
  pub same_status : v.kept.status ≡ v.run.status
  pub stored : v.stored ≤ length v.checked
  -- there is room for the entries of all that fly
  pub landing : length (filter is_flying v.marks) ≤ v.room
