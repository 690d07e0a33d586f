-- The order of keys, and the table of the blocks of a dataset.
use Rattle.std.specs.Prelude.{ℕ, ◌+◌, ◌-◌, ◌%◌, ◌^◌, nat_le, ◌==◌, if◌then◌else◌, Some, None, Option}
use Rattle.std.specs.Ordering.{nat_cmp, ordering_then}
use Rattle.std.specs.declared.cmp.Ordering.{Ordering}
use Rattle.zs_ids.specs.declared.key.Key.{Key}

-- keys in lexicographic order of object, rank, leaf and depth
abbrev pub key_cmp : Key → Key → Ordering
key_cmp a b =
    ordering_then (nat_cmp a.object b.object) (ordering_then (nat_cmp a.rank b.rank) (ordering_then (nat_cmp a.leaf b.leaf) (nat_cmp a.depth b.depth)))

-- the key of a dataset's root block
abbrev pub root_key : Key
root_key = record { object = 0; rank = 0; leaf = 0; depth = 0 }

-- the key of the block with the dnodes of 32 objects, of which n is one
abbrev pub dnode_key : ℕ → Key
dnode_key n = record { object = n - n % 32; rank = 0; leaf = 0; depth = 1 }

-- the key of record f of object n
abbrev pub record_key : ℕ → ℕ → Key
record_key n f = record { object = n; rank = 1; leaf = f; depth = 3 }

-- the block that has the pointer to the block at a key, in an object of that many levels: the root has none,
-- the root has those of the dnode blocks, an object's top block stands in its dnode, and every other block in
-- the block of the next level that covers its first leaf
abbrev pub parent_of : Key → ℕ → Option Key
parent_of k levels =
    if k.rank == 0
    then (if k.depth == 0 then None else Some root_key)
    else (if nat_le (levels + k.depth) 4
    then Some (dnode_key k.object)
    else Some (record k { leaf = k.leaf - k.leaf % 64 ^ (4 - k.depth); depth = k.depth - 1 }))
