-- The numbers that a pool is made with.
use Rattle.std.specs.Prelude.{◌≡◌, ℕ, ◌+◌, ◌*◌, ◌/◌, ◌%◌, ◌≤◌, ◌<◌, List, [], ◌∷◌, length, slice_index}
use Rattle.zs_ids.specs.GraphValid.{Room}
use Rattle.zs_ids.specs.declared.limits.TheConstants.{BLOCKS, DEVICE_SECTORS, LEAST_BLOCKS, WAITING, WIDTH}
use Rattle.zs_machine.specs.declared.shape.Shape.{Shape}

-- the first sector of the space: 8 sectors of labels and two records come before it
abbrev pub data_start : ℕ → ℕ
data_start blocks = 8 + 2 * (128 + blocks / 4)

-- the numbers are in their ranges: one mirror, and for each device a size that suits the pool
pub record IsShape (s : Shape) : Type 0 where
  pub width : (1 ≤ s.width) × (s.width ≤ WIDTH)
  pub devices : s.devices ≡ s.width
  pub blocks : (LEAST_BLOCKS ≤ s.blocks) × (s.blocks ≤ BLOCKS) × (s.blocks % 4 ≡ 0)
  pub limit : (1 ≤ s.limit) × (s.limit ≤ WAITING)
  pub every : (1 ≤ s.every) × (s.every ≤ 1000)
  pub count : length s.sectors ≡ s.devices
  pub least : (k : ℕ) → k < length s.sectors → data_start s.blocks + 32 ≤ slice_index s.sectors k
  pub most : (k : ℕ) → k < length s.sectors → slice_index s.sectors k ≤ DEVICE_SECTORS

-- the space ends where the least device does
pub record IsLeast (end : ℕ) (sectors : List ℕ) : Type 0 where
  pub some : (k : ℕ) × (k < length sectors) × (slice_index sectors k ≡ end)
  pub least : (k : ℕ) → k < length sectors → end ≤ slice_index sectors k

-- the range lies in the space of every device
abbrev pub IsInSpace : Shape → ℕ → ℕ → Type 0
IsInSpace s sector count = (data_start s.blocks ≤ sector) × ((k : ℕ) → k < length s.sectors → sector + count ≤ slice_index s.sectors k)

-- the room of a pool of one mirror whose space ends at that sector, for that many blocks
abbrev pub room_in : Shape → ℕ → ℕ → Room
room_in s end blocks = record { start = data_start s.blocks; ends = end ∷ []; blocks = blocks }
