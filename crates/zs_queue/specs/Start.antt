-- A mirror's entries as a run of the list.
use Rattle.std.specs.Prelude.{ℕ, List}
use Rattle.std.specs.List.{take_while}
use Rattle.std.specs.BTreeMap.Range.{entries_between}
use Rattle.std.specs.declared.ops.Bound.TheVariants.{Included, Unbounded}
use Rattle.zs_ids.specs.declared.block.Piece.{Piece}
use Rattle.zs_ids.specs.declared.block.Item.{Item}
use Rattle.zs_ids.specs.Piece.{piece_cmp}
use Rattle.zs_queue.specs.Waiting.{is_of}

-- the least piece of a mirror
abbrev pub least_of : ℕ → Piece
least_of vdev = record { place = record { vdev = vdev; sector = 0 }; birth = 0 }

-- from the mirror's least piece on, as long as the entries are of the mirror
abbrev pub run_of : List (Piece × Item) → ℕ → List (Piece × Item)
run_of items vdev = take_while (is_of vdev) (entries_between piece_cmp (Included (least_of vdev)) Unbounded items)
