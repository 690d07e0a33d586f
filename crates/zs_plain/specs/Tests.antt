-- The tests by which this crate decides the definitions.
use Rattle.std.specs.Prelude.{◌==◌, ◌&&◌, ◌||◌, not, ℕ, Bool, false, List, Option, Some, None, nat_lt, flat_map}
use Rattle.std.specs.List.{list_any}
use Rattle.zs_ids.specs.declared.key.Key.{Key}
use Rattle.zs_ids.specs.declared.block.Bp.{Bp}
use Rattle.zs_ids.specs.Piece.{is_piece}
use Rattle.zs_ids.specs.declared.block.Piece.{Piece}
use Rattle.zs_ids.specs.declared.dataset.DsId.{DsId}
use Rattle.zs_ids.specs.Graph.{Dataset, pieces_of}
use Rattle.zs_ids.specs.GraphTree.{is_id}

-- the list has the id
abbrev pub has_id : List DsId → DsId → Bool
has_id ids id = list_any (λ x. is_id x id) ids

-- the list has the piece
abbrev pub has_piece : List Piece → Piece → Bool
has_piece pieces p = list_any (λ q. is_piece q p) pieces

-- the pieces of all entries
abbrev pub pieces_held : List (Key × Bp) → List Piece
pieces_held entries = flat_map (λ e. pieces_of e.1) entries

-- an entry born after a transaction group has the piece
abbrev pub is_own : ℕ → Piece → Key × Bp → Bool
is_own start p e = nat_lt start e.1.birth && has_piece (pieces_of e.1) p

-- the list has an id for the parent
abbrev pub stands_on_one : List DsId → Option DsId → Bool
stands_on_one ids None = false
stands_on_one ids (Some parent) = has_id ids parent

-- the dataset is not found yet, and stands on one of the roots, or on one that is found
abbrev pub is_next : List DsId → List DsId → Dataset → Bool
is_next roots found d = not (has_id found d.id) && (stands_on_one roots d.parent || stands_on_one found d.parent)
