-- The tests by which this crate decides whether datasets form a tree, share what they should, and lie apart in a room.
use Rattle.std.specs.Prelude.{◌==◌, ◌&&◌, ◌||◌, ◌+◌, not, ℕ, Bool, true, false, nat_lt, nat_le, List, [], ◌∷◌, length, Option, Some, None, slice_index, bytes_eq, if◌then◌else◌}
use Rattle.std.specs.List.{list_any, list_all}
use Rattle.zs_ids.specs.declared.key.Key.{Key}
use Rattle.zs_ids.specs.declared.block.Bp.{Bp}
use Rattle.zs_ids.specs.declared.block.Piece.{Piece}
use Rattle.zs_ids.specs.declared.dataset.DsId.{DsId}
use Rattle.zs_ids.specs.declared.dataset.Name.{Name}
use Rattle.zs_ids.specs.declared.dataset.TheConstants.DsId.{ORIGIN}
use Rattle.zs_ids.specs.declared.dataset.TheConstants.Name.{EMPTY}
use Rattle.zs_ids.specs.declared.limits.TheConstants.{DATASETS}
use Rattle.zs_ids.specs.Graph.{Dataset, Graph, pieces_of}
use Rattle.zs_ids.specs.GraphTree.{is_id, start_of, stands_on}
use Rattle.zs_ids.specs.GraphValid.{Room}
use Rattle.zs_plain.specs.Tests.{has_piece}

-- the names are one
abbrev pub is_name : Name → Name → Bool
is_name a b = a.len == b.len && bytes_eq a.bytes b.bytes

-- both hold, or neither
abbrev pub is_same : Bool → Bool → Bool
is_same a b = if a then b else not b

abbrev pub has_no_parent : Option DsId → Bool
has_no_parent None = true
has_no_parent (Some parent) = false

-- the dataset is the origin
abbrev pub is_origin : Dataset → Bool
is_origin d =
    (is_id d.id ORIGIN && (not d.head && (is_name d.owner EMPTY && is_name d.label EMPTY))) &&
    (has_no_parent d.parent && (d.creation == 1 && length d.entries == 0))

-- the dataset stands on this one, a snapshot and older
abbrev pub is_under : Dataset → Dataset → Bool
is_under d below = stands_on below.id d.parent && (not below.head && (d.head || nat_lt below.creation d.creation))

-- each id is below those after it
abbrev pub rise : Graph → Bool
rise [] = true
rise (d ∷ ds) = list_all (λ x. nat_lt d.id.0 x.id.0) ds && rise ds

-- two datasets of one kind, one owner and one label are one
abbrev pub are_named_apart : Dataset → Dataset → Bool
are_named_apart a b =
    not (is_same a.head b.head) || (not (is_name a.owner b.owner) || (not (is_name a.label b.label) || is_id a.id b.id))

-- what each dataset has to be by itself
abbrev pub is_placed : Graph → ℕ → Dataset → Bool
is_placed g n d =
    (is_origin d || list_any (λ below. is_under d below) g) && (nat_le d.creation n && (not d.head || (d.creation == 0 && is_name d.label EMPTY)))

abbrev pub is_tree : Graph → ℕ → Bool
is_tree g n =
    (list_any (λ d. is_origin d) g && list_all (λ d. is_placed g n d) g) &&
    (rise g && (nat_le (length g) DATASETS && list_all (λ a. list_all (λ b. are_named_apart a b) g) g))

-- the keys are one
abbrev pub is_key : Key → Key → Bool
is_key a b = a.object == b.object && (a.rank == b.rank && (a.leaf == b.leaf && a.depth == b.depth))

-- the blocks of two pointers meet
abbrev pub do_meet : ℕ → ℕ → Piece → Piece → Bool
do_meet a b p q =
    p.place.vdev == q.place.vdev && (nat_lt p.place.sector (q.place.sector + b) && nat_lt q.place.sector (p.place.sector + a))

abbrev pub do_overlap : Bp → Bp → Bool
do_overlap a b = list_any (λ p. list_any (λ q. do_meet a.sectors b.sectors p q) (pieces_of b)) (pieces_of a)

-- two entries of datasets with these ids are one, or lie apart
abbrev pub is_apart : DsId → Key × Bp → DsId → Key × Bp → Bool
is_apart c e d f = not (do_overlap e.1 f.1) || (is_id c d && is_key e.0 f.0)

-- the entry lies apart from each that is at home in the dataset, or is it
abbrev pub is_apart_from : DsId → Key × Bp → ℕ → Dataset → Bool
is_apart_from c e start d = list_all (λ f. not (nat_lt start f.1.birth) || is_apart c e d.id f) d.entries

-- each entry at home in the dataset lies apart from all others
abbrev pub lies_apart : Graph → ℕ → Dataset → Bool
lies_apart g start c =
    list_all (λ e. not (nat_lt start e.1.birth) || list_all (λ d. is_apart_from c.id e (start_of g d.parent) d) g) c.entries

abbrev pub are_apart : Graph → Bool
are_apart g = list_all (λ c. lies_apart g (start_of g c.parent) c) g

-- the block lies in the space of its mirror
abbrev pub lies_in : Room → ℕ → Piece → Bool
lies_in room sectors p =
    nat_lt p.place.vdev (length room.ends) && (nat_le room.start p.place.sector && nat_le (p.place.sector + sectors) (slice_index room.ends p.place.vdev))

abbrev pub do_lie_in : Room → List (Key × Bp) → Bool
do_lie_in room entries = list_all (λ e. list_all (λ p. lies_in room e.1.sectors p) (pieces_of e.1)) entries

-- the pieces, each once
abbrev pub each_once : List Piece → List Piece
each_once [] = []
each_once (p ∷ ps) = if has_piece ps p then each_once ps else p ∷ each_once ps
