-- The bytes of the blocks of a dataset: records, blocks of pointers and blocks of dnodes (after `dnode_phys_t`).
use Rattle.std.specs.Prelude.{ℕ, zero, suc, ◌+◌, ◌-◌, ◌*◌, ◌^◌, ◌==◌, nat_lt, ◌&&◌, not, Bool, List, [], ◌∷◌, ◌++◌, Option, Some, None, if◌then◌else◌, is_some, find, flat_map, replicate, unwrap_or}
use Rattle.byteorder.specs.Endian.{big_bytes}
use Rattle.zs_ids.specs.declared.key.Key.{Key}
use Rattle.zs_ids.specs.declared.block.Bp.{Bp}
use Rattle.zs_ids.specs.declared.limits.TheConstants.{SECTOR}
use Rattle.zs_sum.specs.Pointer.{bp_bytes}

-- 0 to n - 1
unfoldable pub upto : ℕ → List ℕ
upto zero = []
upto (suc n) = upto n ++ n ∷ []

-- some bytes n times
unfoldable pub repeated : ℕ → List ℕ → List ℕ
repeated zero bytes = []
repeated (suc n) bytes = bytes ++ repeated n bytes

-- a record of that many sectors: the eight bytes of its fill, most significant first, repeated
unfoldable pub record_bytes : ℕ → ℕ → List ℕ
record_bytes fill sectors = repeated (sectors * 64) (big_bytes 8 fill)

-- the numbers of a key fit their fields
abbrev pub is_key : Key → Bool
is_key k = nat_lt k.object (2 ^ 16) && nat_lt k.leaf (2 ^ 32) && nat_lt k.depth (2 ^ 8)

-- the pointer at a key; past the range of keys there is none
abbrev pub found_at : (Key → Option Bp) → Key → Option Bp
found_at get k = if is_key k then get k else None

-- a pointer inside a block: 64 zero bytes stand for none
unfoldable pub pointer_bytes : Option Bp → List ℕ
pointer_bytes None = replicate 64 0
pointer_bytes (Some bp) = bp_bytes bp

-- the i-th block below a root or an indirect block: a root has the dnode blocks, one for each 32 objects, and a
-- block at level l of an object has the blocks of the next level, each over 64^(l-1) leaves
abbrev pub child_of : Key → ℕ → Key
child_of k i =
    if k.rank == 0
    then record k { object = k.object + 32 * i; depth = k.depth + 1 }
    else record k { leaf = k.leaf + i * 64 ^ (2 - k.depth); depth = k.depth + 1 }

-- the block of object n at that depth over its first leaves
abbrev pub first_block : ℕ → ℕ → Key
first_block n depth = record { object = n; rank = 1; leaf = 0; depth = depth }

-- the depth of an object's top block: that of its least key
abbrev pub top_depth : (Key → Option Bp) → ℕ → Option ℕ
top_depth get n = find (λ d. is_some (found_at get (first_block n d))) (0 ∷ 1 ∷ 2 ∷ 3 ∷ [])

-- the exponent of a size of that many sectors, each of 2^9 bytes
abbrev pub exponent_of : ℕ → ℕ
exponent_of sectors = unwrap_or (find (λ e. 2 ^ e == sectors * SECTOR) (9 ∷ 10 ∷ 11 ∷ 12 ∷ 13 ∷ 14 ∷ 15 ∷ 16 ∷ 17 ∷ [])) 0

-- the exponent of an object's record size, which its record 0 has
abbrev pub record_exponent : Option Bp → ℕ
record_exponent None = 0
record_exponent (Some bp) = exponent_of bp.sectors

-- a dnode of 128 bytes: the levels, the exponent of the record size, zeros, and the pointer to the top block
abbrev pub dnode_with : (Key → Option Bp) → ℕ → Option ℕ → List ℕ
dnode_with get n None = replicate 128 0
dnode_with get n (Some depth) =
    (4 - depth) ∷ record_exponent (found_at get (first_block n 3)) ∷ replicate 62 0 ++ pointer_bytes (found_at get (first_block n depth))

-- the dnode of object n, 128 zero bytes where there is no such object
unfoldable pub dnode_bytes : (Key → Option Bp) → ℕ → List ℕ
dnode_bytes get n = dnode_with get n (top_depth get n)

-- the dnodes of 32 objects, from one on
abbrev pub dnodes_from : (Key → Option Bp) → ℕ → List ℕ
dnodes_from get object = flat_map (λ i. dnode_bytes get (object + i)) (upto 32)

-- the pointers to the 64 blocks below a root or an indirect block
abbrev pub pointers_below : (Key → Option Bp) → Key → List ℕ
pointers_below get k = flat_map (λ i. pointer_bytes (found_at get (child_of k i))) (upto 64)

-- the bytes of the metadata block at a key, where `get` has the pointers of the blocks below: 32 dnodes, or 64 pointers
unfoldable pub block_bytes_of : (Key → Option Bp) → Key → List ℕ
block_bytes_of get k =
    if (k.rank == 0) && not (k.depth == 0)
    then dnodes_from get k.object
    else pointers_below get k
