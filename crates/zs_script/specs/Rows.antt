-- The lines of a script: for each command word, the words behind it. Each word is read from left to right, and the
-- first fault decides.
use Rattle.std.specs.Prelude.{ℕ, ◌-◌, ◌^◌, List, [], ◌∷◌, Result, Ok, Err}
use Rattle.zs_ids.specs.declared.limits.TheConstants.{DEVICE_SECTORS, OBJECTS, WAITING, WIDTH}
use Rattle.zs_script.specs.Faults.{◌>>=◌}
use Rattle.zs_script.specs.Fields.{number_of, size_of, blocks_of, name_of, ds_of}
use Rattle.zs_script.specs.declared.command.Command.{Command}
use Rattle.zs_script.specs.declared.command.Command.TheVariants as commands
use Rattle.zs_script.specs.declared.command.Why.{Why}
use Rattle.zs_script.specs.declared.command.Why.TheVariants as why
use Rattle.zs_script.specs.declared.verb.Verb.{Verb}
use Rattle.zs_script.specs.declared.verb.Verb.TheVariants as verbs

-- a number of 64 bits, as a pool's number and a fill
abbrev pub any_number : List ℕ → Result ℕ Why
any_number word = number_of 0 (2 ^ 64 - 1) word

-- an object's number
abbrev pub object_of : List ℕ → Result ℕ Why
object_of word = number_of 1 OBJECTS word

-- how many levels an object has; objects have one level in this version
abbrev pub levels_of : List ℕ → Result ℕ Why
levels_of word = number_of 1 1 word

-- a record's number
abbrev pub leaf_of : List ℕ → Result ℕ Why
leaf_of word = number_of 0 262143 word

-- how many turns a walk may take
abbrev pub turns_of : List ℕ → Result ℕ Why
turns_of word = number_of 1 1000000 word

-- a mirror's number
abbrev pub vdev_of : List ℕ → Result ℕ Why
vdev_of word = number_of 0 255 word

-- how many pieces a batch may have
abbrev pub pieces_of : List ℕ → Result ℕ Why
pieces_of word = number_of 1 1024 word

-- a device's number
abbrev pub dev_of : List ℕ → Result ℕ Why
dev_of word = number_of 0 255 word

-- a sector of a device
abbrev pub sector_of : List ℕ → Result ℕ Why
sector_of word = number_of 0 (DEVICE_SECTORS - 1) word

-- how many sectors a range may have
abbrev pub sectors_of : List ℕ → Result ℕ Why
sectors_of word = number_of 1 65536 word

-- the words of `pool`
unfoldable pub pool_with : List ℕ → List ℕ → List ℕ → List ℕ → List ℕ → Result Command Why
pool_with pool width limit every blocks = do
  pool ← any_number pool
  width ← number_of 1 WIDTH width
  limit ← number_of 1 WAITING limit
  every ← number_of 1 1000 every
  blocks ← blocks_of blocks
  Ok (commands.Pool pool width limit every blocks)

-- `pool ID W LIMIT EVERY BLOCKS`
unfoldable pub pool_of : List (List ℕ) → Result Command Why
pool_of (_ ∷ pool ∷ width ∷ limit ∷ every ∷ blocks ∷ []) = pool_with pool width limit every blocks
pool_of _ = Err why.Count

-- `fs NAME`
unfoldable pub fs_of : List (List ℕ) → Result Command Why
fs_of (_ ∷ name ∷ []) = do
  name ← name_of name
  Ok (commands.Fs name)
fs_of _ = Err why.Count

-- `snap HEAD LABEL`
unfoldable pub snap_of : List (List ℕ) → Result Command Why
snap_of (_ ∷ head ∷ label ∷ []) = do
  head ← name_of head
  label ← name_of label
  Ok (commands.Snap head label)
snap_of _ = Err why.Count

-- `clone DS NAME`
unfoldable pub clone_of : List (List ℕ) → Result Command Why
clone_of (_ ∷ ds ∷ name ∷ []) = do
  ds ← ds_of ds
  name ← name_of name
  Ok (commands.Clone ds name)
clone_of _ = Err why.Count

-- `destroy DS`
unfoldable pub destroy_of : List (List ℕ) → Result Command Why
destroy_of (_ ∷ ds ∷ []) = do
  ds ← ds_of ds
  Ok (commands.Destroy ds)
destroy_of _ = Err why.Count

-- `swap HEAD HEAD`
unfoldable pub swap_of : List (List ℕ) → Result Command Why
swap_of (_ ∷ first ∷ second ∷ []) = do
  first ← name_of first
  second ← name_of second
  Ok (commands.Swap first second)
swap_of _ = Err why.Count

-- the words of `make`
unfoldable pub make_with : List ℕ → List ℕ → List ℕ → List ℕ → List ℕ → Result Command Why
make_with ds object levels size fill = do
  ds ← ds_of ds
  object ← object_of object
  levels ← levels_of levels
  size ← size_of size
  fill ← any_number fill
  Ok (commands.Make ds object levels size fill)

-- `make DS OBJ LEVELS SIZE FILL`
unfoldable pub make_of : List (List ℕ) → Result Command Why
make_of (_ ∷ ds ∷ object ∷ levels ∷ size ∷ fill ∷ []) = make_with ds object levels size fill
make_of _ = Err why.Count

-- the words of `write`
unfoldable pub write_with : List ℕ → List ℕ → List ℕ → List ℕ → Result Command Why
write_with ds object leaf fill = do
  ds ← ds_of ds
  object ← object_of object
  leaf ← leaf_of leaf
  fill ← any_number fill
  Ok (commands.Write ds object leaf fill)

-- `write DS OBJ LEAF FILL`
unfoldable pub write_of : List (List ℕ) → Result Command Why
write_of (_ ∷ ds ∷ object ∷ leaf ∷ fill ∷ []) = write_with ds object leaf fill
write_of _ = Err why.Count

-- `read DS OBJ LEAF`
unfoldable pub read_of : List (List ℕ) → Result Command Why
read_of (_ ∷ ds ∷ object ∷ leaf ∷ []) = do
  ds ← ds_of ds
  object ← object_of object
  leaf ← leaf_of leaf
  Ok (commands.Read ds object leaf)
read_of _ = Err why.Count

-- `walk N`
unfoldable pub walk_of : List (List ℕ) → Result Command Why
walk_of (_ ∷ turns ∷ []) = do
  turns ← turns_of turns
  Ok (commands.Walk turns)
walk_of _ = Err why.Count

-- `issue V N`
unfoldable pub issue_of : List (List ℕ) → Result Command Why
issue_of (_ ∷ vdev ∷ pieces ∷ []) = do
  vdev ← vdev_of vdev
  pieces ← pieces_of pieces
  Ok (commands.Issue vdev pieces)
issue_of _ = Err why.Count

-- `hold V N`
unfoldable pub hold_of : List (List ℕ) → Result Command Why
hold_of (_ ∷ vdev ∷ pieces ∷ []) = do
  vdev ← vdev_of vdev
  pieces ← pieces_of pieces
  Ok (commands.Hold vdev pieces)
hold_of _ = Err why.Count

-- `rot DEV SECTOR COUNT`
unfoldable pub rot_of : List (List ℕ) → Result Command Why
rot_of (_ ∷ dev ∷ sector ∷ count ∷ []) = do
  dev ← dev_of dev
  sector ← sector_of sector
  count ← sectors_of count
  Ok (commands.Rot dev sector count)
rot_of _ = Err why.Count

-- a command word alone
unfoldable pub alone_of : Command → List (List ℕ) → Result Command Why
alone_of command (_ ∷ []) = Ok command
alone_of command _ = Err why.Count

-- the command of a line's words
unfoldable pub command_of : Verb → List (List ℕ) → Result Command Why
command_of verbs.Pool words = pool_of words
command_of verbs.Fs words = fs_of words
command_of verbs.Snap words = snap_of words
command_of verbs.Clone words = clone_of words
command_of verbs.Destroy words = destroy_of words
command_of verbs.Swap words = swap_of words
command_of verbs.Make words = make_of words
command_of verbs.Write words = write_of words
command_of verbs.Read words = read_of words
command_of verbs.Sync words = alone_of commands.Sync words
command_of verbs.Scrub words = alone_of commands.Scrub words
command_of verbs.Pause words = alone_of commands.Pause words
command_of verbs.Resume words = alone_of commands.Resume words
command_of verbs.Stop words = alone_of commands.Stop words
command_of verbs.Walk words = walk_of words
command_of verbs.Issue words = issue_of words
command_of verbs.Hold words = hold_of words
command_of verbs.Land words = alone_of commands.Land words
command_of verbs.Finish words = alone_of commands.Finish words
command_of verbs.Rot words = rot_of words
command_of verbs.Errors words = alone_of commands.Errors words
command_of verbs.List words = alone_of commands.List words
command_of verbs.Status words = alone_of commands.Status words
