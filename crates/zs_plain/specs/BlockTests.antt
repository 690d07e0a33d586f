-- The tests by which this crate decides whether a dataset's blocks are in order, and which it shares with its parent.
use Rattle.std.specs.Prelude.{◌==◌, ◌&&◌, ◌||◌, ◌-◌, ◌+◌, ◌%◌, ◌^◌, not, ℕ, Bool, true, nat_lt, nat_le, List, [], ◌∷◌, Option, Some, None, bytes_eq, take}
use Rattle.std.specs.List.{list_any, list_all}
use Rattle.std.specs.Ordering.{is_lt}
use Rattle.std.specs.Cmp.Lexicographic.{pointwise}
use Rattle.zs_ids.specs.declared.key.Key.{Key}
use Rattle.zs_ids.specs.declared.block.Bp.{Bp}
use Rattle.zs_ids.specs.declared.block.Place.{Place}
use Rattle.zs_ids.specs.Key.{key_cmp, root_key, parent_of}
use Rattle.zs_ids.specs.declared.limits.TheConstants.{OBJECTS}
use Rattle.zs_ids.specs.Graph.{Dataset}
use Rattle.zs_ids.specs.GraphValid.{last_birth, record_sizes}
use Rattle.zs_plain.specs.TreeTests.{is_key}

-- each key is below those after it
abbrev pub keys_rise : List (Key × Bp) → Bool
keys_rise [] = true
keys_rise (e ∷ es) = list_all (λ f. is_lt (key_cmp e.0 f.0)) es && keys_rise es

-- the blocks of that many sectors at two places share a sector
abbrev pub share_sector : ℕ → Place → Place → Bool
share_sector sectors p q = p.vdev == q.vdev && (nat_lt p.sector (q.sector + sectors) && nat_lt q.sector (p.sector + sectors))

-- the blocks of that many sectors at the places share no sector
abbrev pub are_places_apart : ℕ → List Place → Bool
are_places_apart sectors [] = true
are_places_apart sectors (p ∷ ps) = list_all (λ q. not (share_sector sectors p q)) ps && are_places_apart sectors ps

-- the pointer uses one to three places, which lie apart
abbrev pub has_places : Bp → Bool
has_places bp = nat_le 1 bp.count && (nat_le bp.count 3 && are_places_apart bp.sectors (take bp.count bp.places))

abbrev pub has_form : Bp → ℕ → ℕ → Bool
has_form bp sectors level = bp.sectors == sectors && (bp.level == level && has_places bp)

-- the key of a block at a level of an object, where `span` is how many leaves the block covers, and `leaves` how many
-- leaves the object may have
abbrev pub is_object_key : ℕ → ℕ → ℕ → Key → Bool
is_object_key span leaves level k =
    (nat_le 1 k.object && nat_le k.object OBJECTS) && (k.rank == 1 && (k.leaf % span == 0 && (nat_lt k.leaf leaves && k.depth + level == 3)))

-- the key of a block of dnodes
abbrev pub is_dnodes_key : Key → Bool
is_dnodes_key k = (k.object % 32 == 0 && nat_lt k.object 2048) && (k.rank == 0 && (k.leaf == 0 && k.depth == 1))

-- the block above a record that stands at this depth
abbrev pub is_inner : ℕ → ℕ → Key × Bp → Bool
is_inner levels level e =
    nat_lt 0 level && (nat_lt level levels && (is_object_key (64 ^ level) (64 ^ (levels - 1)) level e.0 && has_form e.1 8 level))

abbrev pub is_leaf : ℕ → ℕ → Key × Bp → Bool
is_leaf levels size e = nat_lt 0 levels && (is_object_key 1 (64 ^ (levels - 1)) 0 e.0 && has_form e.1 size 0)

abbrev pub is_block : ℕ → ℕ → Key × Bp → Bool
is_block levels size e =
    ((is_key e.0 root_key && has_form e.1 8 1) || (is_dnodes_key e.0 && has_form e.1 8 0)) || (is_inner levels (3 - e.0.depth) e || is_leaf levels size e)

-- an entry is at the key, not born before
abbrev pub has_block : List (Key × Bp) → Key → ℕ → Bool
has_block entries k birth = list_any (λ e. is_key e.0 k && nat_le birth e.1.birth) entries

abbrev pub has_parent : List (Key × Bp) → ℕ → Option Key → Bool
has_parent entries birth None = true
has_parent entries birth (Some k) = has_block entries k birth

-- the entry is a block of an object of that many levels and that record size, and stands below its parent
abbrev pub is_in_order : List (Key × Bp) → ℕ → ℕ → Key × Bp → Bool
is_in_order entries levels size e =
    is_block levels size e && has_parent entries e.1.birth (parent_of e.0 levels)

-- so are all entries of the object
abbrev pub fits_object : List (Key × Bp) → ℕ → ℕ → ℕ → Bool
fits_object entries object levels size =
    list_all (λ e. not (e.0.object == object) || is_in_order entries levels size e) entries

abbrev pub fits_levels : List (Key × Bp) → ℕ → ℕ → Bool
fits_levels entries object levels = list_any (λ size. fits_object entries object levels size) record_sizes

-- the numbers of levels that an object may have, and none for the root's and the dnodes' object
abbrev pub level_counts : List ℕ
level_counts = 0 ∷ 1 ∷ 2 ∷ 3 ∷ 4 ∷ []

abbrev pub has_levels : List (Key × Bp) → ℕ → Bool
has_levels entries object = list_any (λ levels. fits_levels entries object levels) level_counts

abbrev pub has_blocks : Dataset → ℕ → Bool
has_blocks d n =
    keys_rise d.entries && (list_all (λ e. nat_le e.1.birth (last_birth d n)) d.entries && list_all (λ e. has_levels d.entries e.0.object) d.entries)

abbrev pub is_place : Place → Place → Bool
is_place a b = a.vdev == b.vdev && a.sector == b.sector

-- the pointers are one
abbrev pub is_pointer : Bp → Bp → Bool
is_pointer a b =
    a.count == b.count &&
    (pointwise is_place a.places b.places &&
    (a.sectors == b.sectors && (a.birth == b.birth && (a.level == b.level && bytes_eq a.sum b.sum))))

abbrev pub is_entry : Key × Bp → Key × Bp → Bool
is_entry e f = is_key e.0 f.0 && is_pointer e.1 f.1

-- the dataset has the parent's keys, and what is not its own stands in the parent
abbrev pub does_share : Dataset → Dataset → Bool
does_share d parent =
    list_all (λ e. has_block d.entries e.0 0) parent.entries && list_all
    (λ e. not (nat_le e.1.birth parent.creation) || list_any (λ f. is_entry f e) parent.entries) d.entries
