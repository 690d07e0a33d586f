-- What the plain queue's parts keep to.
use Rattle.std.specs.Prelude.{◌≡◌, ℕ, ◌<◌, ◌≤◌, List, length, filter, slice_index}
use Rattle.std.specs.Map.{keys_of}
use Rattle.std.specs.List.Sorted.{IsStrictlySortedBy}
use Rattle.zs_ids.specs.declared.block.Piece.{Piece}
use Rattle.zs_ids.specs.declared.block.Item.{Item}
use Rattle.zs_ids.specs.Graph.{Has}
use Rattle.zs_ids.specs.Piece.{piece_cmp}
use Rattle.zs_queue.specs.Waiting.{is_of}

-- each item stands beside its own piece
abbrev pub AreNamed : List (Piece × Item) → Type 0
AreNamed items = (e : Piece × Item) → Has items e → e.1.piece ≡ e.0

-- the pieces rise, each beside its item, no more than the limit, and `counts` has how many are of each mirror
pub record IsKept (items : List (Piece × Item)) (counts : List ℕ) (limit : ℕ) : Type 0 where
  pub ordered : IsStrictlySortedBy piece_cmp (keys_of items)
  pub named : AreNamed items
  pub within : length items ≤ limit
  pub bounded : limit < 4294967296
  pub tallied : (vdev : ℕ) → vdev < 256 → slice_index counts vdev ≡ length (filter (is_of vdev) items)
