-- When two pieces are one, and their order.
use Rattle.std.specs.Prelude.{◌==◌, ◌&&◌, Bool}
use Rattle.std.specs.Ordering.{nat_cmp, ordering_then}
use Rattle.std.specs.declared.cmp.Ordering.{Ordering}
use Rattle.zs_ids.specs.declared.block.Piece.{Piece}

-- in lexicographic order of mirror, sector and birth, which is that of address
abbrev pub piece_cmp : Piece → Piece → Ordering
piece_cmp p q = ordering_then (ordering_then (nat_cmp p.place.vdev q.place.vdev) (nat_cmp p.place.sector q.place.sector)) (nat_cmp p.birth q.birth)

-- the two are one piece
abbrev pub is_piece : Piece → Piece → Bool
is_piece p q = (p.place.vdev == q.place.vdev) && ((p.place.sector == q.place.sector) && (p.birth == q.birth))
