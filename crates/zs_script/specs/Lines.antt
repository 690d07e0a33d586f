-- The lines that a script may have: what holds of all that is read.
use Rattle.std.specs.Prelude.{◌≡◌, ℕ, ◌-◌, ◌%◌, ◌≤◌, List, [], ◌∷◌, All, IsTrue}
use Rattle.std.specs.Int.{is_power_of_two}
use Rattle.zs_ids.specs.declared.limits.TheConstants.{BLOCK_BYTES, BLOCKS, DEVICE_SECTORS, LEAST_BLOCKS, OBJECTS, SECTOR, WAITING, WIDTH}
use Rattle.zs_script.specs.declared.command.Command.{Command}
use Rattle.zs_script.specs.declared.command.Command.TheVariants as commands
use Rattle.zs_script.specs.declared.command.Line.{Line}

-- the numbers of a `pool` line
pub record IsPool (width limit every blocks : ℕ) : Type 0 where
  pub least_width : 1 ≤ width
  pub most_width : width ≤ WIDTH
  pub least_limit : 1 ≤ limit
  pub most_limit : limit ≤ WAITING
  pub least_every : 1 ≤ every
  pub most_every : every ≤ 1000
  pub least_blocks : LEAST_BLOCKS ≤ blocks
  pub most_blocks : blocks ≤ BLOCKS
  pub whole_blocks : blocks % 4 ≡ 0

-- the numbers of a `make` line; objects have one level in this version
pub record IsMake (object height size : ℕ) : Type 0 where
  pub least_object : 1 ≤ object
  pub most_object : object ≤ OBJECTS
  pub levels : height ≡ 1
  pub least_size : SECTOR ≤ size
  pub most_size : size ≤ BLOCK_BYTES
  pub power : IsTrue (is_power_of_two size)

-- the numbers of a record, in a `write` and in a `read` line
pub record IsRecord (object leaf : ℕ) : Type 0 where
  pub least_object : 1 ≤ object
  pub most_object : object ≤ OBJECTS
  pub most_leaf : leaf ≤ 262143

-- the number of a `walk` line
pub record IsWalk (turns : ℕ) : Type 0 where
  pub least_turns : 1 ≤ turns
  pub most_turns : turns ≤ 1000000

-- the numbers of an `issue` and of a `hold` line
pub record IsBatch (vdev pieces : ℕ) : Type 0 where
  pub most_vdev : vdev ≤ 255
  pub least_pieces : 1 ≤ pieces
  pub most_pieces : pieces ≤ 1024

-- the numbers of a `rot` line
pub record IsRot (dev sector count : ℕ) : Type 0 where
  pub most_dev : dev ≤ 255
  pub most_sector : sector ≤ DEVICE_SECTORS - 1
  pub least_count : 1 ≤ count
  pub most_count : count ≤ 65536

-- the first command
abbrev pub IsFirst : Command → Type 0
IsFirst (commands.Pool pool width limit every blocks) = IsPool width limit every blocks
IsFirst _ = ⊥

-- a later command
abbrev pub IsLater : Command → Type 0
IsLater (commands.Fs name) = Unit {0}
IsLater (commands.Snap head label) = Unit {0}
IsLater (commands.Clone ds name) = Unit {0}
IsLater (commands.Destroy ds) = Unit {0}
IsLater (commands.Swap first second) = Unit {0}
IsLater (commands.Make ds object levels size fill) = IsMake object levels size
IsLater (commands.Write ds object leaf fill) = IsRecord object leaf
IsLater (commands.Read ds object leaf) = IsRecord object leaf
IsLater commands.Sync = Unit {0}
IsLater commands.Scrub = Unit {0}
IsLater commands.Pause = Unit {0}
IsLater commands.Resume = Unit {0}
IsLater commands.Stop = Unit {0}
IsLater (commands.Walk turns) = IsWalk turns
IsLater (commands.Issue vdev pieces) = IsBatch vdev pieces
IsLater (commands.Hold vdev pieces) = IsBatch vdev pieces
IsLater commands.Land = Unit {0}
IsLater commands.Finish = Unit {0}
IsLater (commands.Rot dev sector count) = IsRot dev sector count
IsLater commands.Errors = Unit {0}
IsLater commands.List = Unit {0}
IsLater commands.Status = Unit {0}
IsLater _ = ⊥

-- a `pool` line, and then lines of other commands
abbrev pub IsScript : List Line → Type 0
IsScript [] = ⊥
IsScript (line ∷ lines) = IsFirst line.command × All (λ later. IsLater later.command) lines
