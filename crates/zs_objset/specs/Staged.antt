-- The blocks that a sync writes for one dataset.
use Rattle.std.specs.Prelude.{◌≡◌, ℕ, ◌-◌, ◌*◌, ◌==◌, List, [], ◌∷◌, length, map, Option, Some, None, if◌then◌else◌}
use Rattle.std.specs.Map.{lookup}
use Rattle.std.specs.BTreeMap.{is_at}
use Rattle.zs_ids.specs.declared.key.Key.{Key}
use Rattle.zs_ids.specs.declared.block.Place.{Place}
use Rattle.zs_ids.specs.declared.block.Bp.{Bp}
use Rattle.zs_ids.specs.declared.limits.TheConstants.{SECTOR}
use Rattle.zs_ids.specs.Key.{key_cmp}
use Rattle.zs_sum.specs.Sum.{sha256}
use Rattle.zs_txg.specs.declared.staged.StagedEntry.{StagedEntry}
use Rattle.zs_objset.specs.declared.block.StagedBlock.{StagedBlock}
use Rattle.zs_objset.specs.Bytes.{record_bytes, block_bytes_of}

-- the level of the block at a key
abbrev pub level_of : Key → ℕ
level_of k = if k.rank == 0 then 1 - k.depth else 3 - k.depth

-- no place
abbrev pub no_place : Place
no_place = record { vdev = 0; sector = 0 }

-- the pointer to a staged block with those bytes, born in transaction group t
abbrev pub pointer_of : ℕ → StagedEntry → List ℕ → Bp
pointer_of t e bytes = record {
  count = 1;
  places = e.place ∷ no_place ∷ no_place ∷ [];
  sectors = e.sectors;
  birth = t;
  level = level_of e.key;
  sum = sha256 bytes;
}

-- the bytes of a staged block: those of its fill, or where it has none those of a block of pointers
abbrev pub staged_bytes : (Key → Option Bp) → Key → ℕ → Option ℕ → List ℕ
staged_bytes get key sectors (Some fill) = record_bytes fill sectors
staged_bytes get key sectors None = block_bytes_of get key

-- how many bytes a staged block has: those of its sectors where it is a record, 4,096 where it is a block of pointers
abbrev pub size_of : ℕ → Option ℕ → ℕ
size_of sectors (Some fill) = SECTOR * sectors
size_of sectors None = 4096

-- a staged block with its pointer and bytes
abbrev pub block_of : (Key → Option Bp) → ℕ → StagedEntry → StagedBlock
block_of get t e = record {
  ds = e.ds;
  key = e.key;
  bp = pointer_of t e (staged_bytes get e.key e.sectors e.fill);
  bytes = staged_bytes get e.key e.sectors e.fill;
}

-- the pointers of some blocks, by key
abbrev pub pointers_of : List StagedBlock → List (Key × Bp)
pointers_of blocks = map (λ b. (b.key, b.bp)) blocks

-- the first, or where there is none the other
abbrev pub or_else : Option Bp → Option Bp → Option Bp
or_else None other = other
or_else (Some bp) other = Some bp

-- some pointers put over others
abbrev pub over : List (Key × Bp) → (Key → Option Bp) → Key → Option Bp
over pointers get key = or_else (lookup (is_at (key_cmp key)) pointers) (get key)

-- the blocks of some staged entries, where the pointers of all of them are put over `get`
abbrev pub AreBlocksOf : (Key → Option Bp) → ℕ → List StagedEntry → List StagedBlock → Type 0
AreBlocksOf get t entries blocks = blocks ≡ map (block_of (over (pointers_of blocks) get) t) entries

-- a block has as many bytes as its entry says
abbrev pub IsSized : StagedEntry → StagedBlock → Type 0
IsSized e b = length b.bytes ≡ size_of e.sectors e.fill

-- so has each block
abbrev pub AreSized : List StagedEntry → List StagedBlock → Type 0
AreSized entries blocks = map (λ b. length b.bytes) blocks ≡ map (λ e. size_of e.sectors e.fill) entries
