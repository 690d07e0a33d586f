-- The test by which this crate decides whether a graph is valid in a room.
use Rattle.std.specs.Prelude.{◌&&◌, ◌||◌, not, ℕ, Bool, nat_le, List, length}
use Rattle.std.specs.List.{list_all}
use Rattle.zs_ids.specs.Graph.{Graph}
use Rattle.zs_ids.specs.GraphTree.{stands_on}
use Rattle.zs_ids.specs.GraphValid.{Room}
use Rattle.zs_ids.specs.declared.block.Piece.{Piece}
use Rattle.zs_plain.specs.TreeTests.{is_tree, are_apart, do_lie_in, each_once}
use Rattle.zs_plain.specs.BlockTests.{has_blocks, does_share}

-- each dataset shares what it should with each one on which it stands
abbrev pub do_share : Graph → Bool
do_share g = list_all (λ d. list_all (λ p. not (stands_on p.id d.parent) || does_share d p) g) g

-- the datasets are a whole graph up to n, of which `live` are the live pieces
abbrev pub is_valid : List Piece → Room → Graph → ℕ → Bool
is_valid live room g n =
    (is_tree g n && (list_all (λ d. has_blocks d n) g && (do_share g && are_apart g))) &&
    (list_all (λ d. do_lie_in room d.entries) g && nat_le (length (each_once live)) room.blocks)
