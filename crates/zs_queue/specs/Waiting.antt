-- The words for the pieces that wait, seen as entries of a piece and its item in order of address.
use Rattle.std.specs.Prelude.{◌≡◌, ℕ, ◌==◌, ◌<◌, ◌≤◌, Bool, not, List, map, filter, take, length, is_some}
use Rattle.std.specs.List.{list_any}
use Rattle.std.specs.List.Sorted.{IsStrictlySortedBy}
use Rattle.std.specs.Ordering.{is_eq}
use Rattle.std.specs.Map.{lookup}
use Rattle.std.specs.BTreeMap.{insert_entry, is_at}
use Rattle.zs_ids.specs.Piece.{piece_cmp}
use Rattle.zs_ids.specs.declared.block.Piece.{Piece}
use Rattle.zs_ids.specs.declared.block.Item.{Item}
use Rattle.zs_ids.specs.Graph.{Has}

-- the piece waits
abbrev pub waits : List (Piece × Item) → Piece → Bool
waits items piece = is_some (lookup (is_at (piece_cmp piece)) items)

-- with the item in its place
abbrev pub with_item : List (Piece × Item) → Item → List (Piece × Item)
with_item items item = insert_entry piece_cmp items item.piece item

-- without these pieces
abbrev pub without : List (Piece × Item) → List Piece → List (Piece × Item)
without items pieces = filter (λ e. not (list_any (λ p. is_eq (piece_cmp p e.0)) pieces)) items

-- the entry is of the mirror
abbrev pub is_of : ℕ → Piece × Item → Bool
is_of vdev e = e.0.place.vdev == vdev

-- the items of the mirror in order of address, at most n of the lowest
abbrev pub lowest : List (Piece × Item) → ℕ → ℕ → List Item
lowest items vdev n = map (λ e. e.1) (take n (filter (is_of vdev) items))

-- what any batch of at most n pieces of a mirror keeps to
pub record IsBatch (items : List (Piece × Item)) (vdev n : ℕ) (batch : List Item) : Type 0 where
  -- each of its pieces waits
  pub waiting : (i : Item) → Has batch i → Has items (i.piece, i)
  -- they are of the mirror
  pub mirror : (i : Item) → Has batch i → i.piece.place.vdev ≡ vdev
  -- in strictly rising order of address
  pub rising : IsStrictlySortedBy piece_cmp (map (λ i. i.piece) batch)
  -- at most n
  pub most : length batch ≤ n
  -- and at least one, where one is asked for and one waits
  pub some : 0 < n → 0 < length (filter (is_of vdev) items) → 0 < length batch
