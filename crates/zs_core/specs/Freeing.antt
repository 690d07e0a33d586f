-- What a scan loses where pieces are freed.
use Rattle.std.specs.Prelude.{◌≡◌, Bool, true, List, None, if◌then◌else◌}
use Rattle.std.specs.List.{list_any}
use Rattle.zs_ids.specs.declared.block.Piece.{Piece}
use Rattle.zs_ids.specs.Graph.{Graph, IsLive}
use Rattle.zs_queue.specs.Waiting.{without}
use Rattle.zs_scan.specs.View.{ScanView, is_same, mark_of}

-- one of the pieces is this one
abbrev pub is_one_of : List Piece → Piece → Bool
is_one_of pieces p = list_any (λ q. is_same q p) pieces

-- some pieces were freed: none of them waits or flies, and all else is as it was
pub record FreesAll (pieces : List Piece) (old new : ScanView) : Type 0 where
  pub rest : new ≡ record old { waiting = without old.waiting pieces; marks = new.marks; room = new.room }
  pub marks : (q : Piece) → mark_of new.marks q ≡ (if is_one_of pieces q then None else mark_of old.marks q)

-- the pieces are just those that were live and are not any more
pub record AreGone (pieces : List Piece) (old new : Graph) : Type 0 where
  pub gone : (p : Piece) → is_one_of pieces p ≡ true → IsLive old p × (IsLive new p → ⊥)
  pub all : (p : Piece) → IsLive old p → (IsLive new p → ⊥) → is_one_of pieces p ≡ true

-- with a change of the datasets just the pieces were freed that are not live any more
pub record HasLost (old new : Graph) (before after : ScanView) : Type 0 where
  pub pieces : List Piece
  pub gone : AreGone pieces old new
  pub freed : FreesAll pieces before after
