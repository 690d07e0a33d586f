-- The items of blocks, and those that a change of the datasets frees, in the order in which the code comes to them.
use Rattle.std.specs.Prelude.{ℕ, Bool, false, List, [], Option, Some, None, ◌==◌, filter, flat_map, map, nat_lt, take, if◌then◌else◌, ◌<◌}
use Rattle.std.specs.Ordering.{is_le}
use Rattle.zs_ids.specs.declared.key.Key.{Key}
use Rattle.zs_ids.specs.declared.block.Bp.{Bp}
use Rattle.zs_ids.specs.declared.block.Item.{Item}
use Rattle.zs_ids.specs.declared.block.Place.{Place}
use Rattle.zs_ids.specs.Key.{key_cmp}
use Rattle.zs_ids.specs.Blocks.{bp_at}
use Rattle.zs_ids.specs.Graph.{Has}

-- the item of a block at one of its places
abbrev pub item_of : Bp → Place → Item
item_of bp place = record { piece = record { place = place; birth = bp.birth }; sectors = bp.sectors; sum = bp.sum }

-- the items of a block: one for each place that its pointer uses
abbrev pub items_of : Bp → List Item
items_of bp = map (item_of bp) (take bp.count bp.places)

-- those of a block that is born after `start`, where there is one
abbrev pub items_after : ℕ → Option Bp → List Item
items_after start None = []
items_after start (Some bp) = if nat_lt start bp.birth then items_of bp else []

-- those of the blocks at the keys of the changes that are born after `start`
abbrev pub items_at : List (Key × Bp) → ℕ → List (Key × Bp) → List Item
items_at entries start changes = flat_map (λ c. items_after start (bp_at entries c.0)) changes

-- the block, where there is one, is born in this transaction group
abbrev pub is_born : Option Bp → ℕ → Bool
is_born None birth = false
is_born (Some bp) birth = bp.birth == birth

-- what the dataset that stands on another one holds, where there is one
abbrev pub held_in : Option (List (Key × Bp)) → List (Key × Bp)
held_in None = []
held_in (Some entries) = entries

-- the items of a block, but none where a block born with it is held at its key
abbrev pub items_unheld : List (Key × Bp) → Key × Bp → List Item
items_unheld held e = if is_born (bp_at held e.0) e.1.birth then [] else items_of e.1

-- the blocks at or after a key that are born after `above`
abbrev pub blocks_from : List (Key × Bp) → Key → ℕ → List (Key × Bp)
blocks_from entries from above = filter (λ e. nat_lt above e.1.birth) (filter (λ e. is_le (key_cmp from e.0)) entries)

-- the items of the blocks at or after a key that are born after `start` and not held
abbrev pub items_from : List (Key × Bp) → Key → ℕ → List (Key × Bp) → List Item
items_from entries from start held = flat_map (items_unheld held) (blocks_from entries from start)

-- no key is below those of records
abbrev pub AreShallow : List (Key × Bp) → Type 0
AreShallow entries = (e : Key × Bp) → Has entries e → e.0.depth < 4
