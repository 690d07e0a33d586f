-- What a ledger is seen as, and how its parts agree.
use Rattle.std.specs.Prelude.{◌≡◌, ℕ, Bool, ◌==◌, ◌&&◌, List, filter, length}
use Rattle.std.specs.List.{list_any}
use Rattle.zs_ids.specs.Piece.{is_piece}
use Rattle.zs_ids.specs.declared.block.Piece.{Piece}
use Rattle.zs_ledger.specs.declared.entry.Entry.{Entry}
use Rattle.zs_ledger.specs.declared.ledger.Spot.{Spot}
use Rattle.zs_ledger.specs.Entry.{has_error}

-- the entries in order of checking, and for how many more there is room
pub record Kept : Type 0 where
  pub entries : List Entry
  pub room : ℕ

-- an entry is of the piece
abbrev pub has_piece : List Entry → Piece → Bool
has_piece entries piece = list_any (λ e. is_piece piece e.piece) entries

-- the two spots are one
abbrev pub is_spot : Spot → Spot → Bool
is_spot s t = (s.vdev == t.vdev) && ((s.sector == t.sector) && (s.birth == t.birth))

-- the spot of a piece
abbrev pub spot_of : Piece → Spot
spot_of piece = record { vdev = piece.place.vdev; sector = piece.place.sector; birth = piece.birth }

-- the set has the spots of the entries' pieces, and the count is that of the entries with an error
pub record AgreesWith (entries : List Entry) (spots : List Spot) (errors : ℕ) : Type 0 where
  pub pieces : (p : Piece) → list_any (is_spot (spot_of p)) spots ≡ has_piece entries p
  pub counted : errors ≡ length (filter has_error entries)
