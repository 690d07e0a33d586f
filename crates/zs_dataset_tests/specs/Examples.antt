-- Three small graphs, over which the tests walk: a head with one record, the same head with a snapshot, and these with a
-- clone of the snapshot.
use Rattle.std.specs.Prelude.{ℕ, true, false, List, [], ◌∷◌, Some, replicate}
use Rattle.zs_ids.specs.declared.key.Key.{Key}
use Rattle.zs_ids.specs.declared.block.Bp.{Bp}
use Rattle.zs_ids.specs.declared.block.Place.{Place}
use Rattle.zs_ids.specs.declared.dataset.DsId.{DsId}
use Rattle.zs_ids.specs.declared.dataset.Name.{Name}
use Rattle.zs_ids.specs.declared.dataset.TheConstants.DsId.{ORIGIN}
use Rattle.zs_ids.specs.declared.dataset.TheConstants.Name.{EMPTY}
use Rattle.zs_ids.specs.Key.{root_key, dnode_key, record_key}
use Rattle.zs_ids.specs.Graph.{Dataset, Graph}
use Rattle.zs_ids.specs.GraphValid.{Room, origin}
use Rattle.zs_phys.specs.declared.scope.Scope.{Scope}
use Rattle.zs_phys.specs.declared.scope.Kind.TheVariants.{Scrub}

-- a block at a sector of the first mirror, of that many sectors
abbrev pub sector_at : ℕ → Place
sector_at sector = record { vdev = 0; sector = sector }

unfoldable pub block : ℕ → ℕ → ℕ → Bp
block sector sectors level = record {
  count = 1;
  places = sector_at sector ∷ sector_at 0 ∷ sector_at 0 ∷ [];
  sectors = sectors;
  birth = 3;
  level = level;
  sum = replicate 32 0;
}

-- a root, its block of dnodes, and record 0 of object 1, born in 3
abbrev pub one_record : List (Key × Bp)
one_record = (root_key, block 296 8 1) ∷ (dnode_key 1, block 304 8 0) ∷ (record_key 1 0, block 312 1 0) ∷ []

-- the ids of the head and of its snapshot, and their name
abbrev pub head_id : DsId
head_id = record { 0 = 1 }

abbrev pub snapshot_id : DsId
snapshot_id = record { 0 = 2 }

abbrev pub name : Name
name = record EMPTY { len = 1 }

-- those of the clone
abbrev pub clone_id : DsId
clone_id = record { 0 = 3 }

abbrev pub clone_name : Name
clone_name = record EMPTY { len = 2 }

-- a head on a dataset, and a snapshot of it in 4
abbrev pub head_with : DsId → List (Key × Bp) → Dataset
head_with parent entries = record { id = head_id; head = true; owner = name; label = EMPTY; parent = Some parent; creation = 0; entries = entries }

abbrev pub snapshot_with : List (Key × Bp) → Dataset
snapshot_with entries = record { id = snapshot_id; head = false; owner = name; label = name; parent = Some ORIGIN; creation = 4; entries = entries }

-- a clone of the snapshot
abbrev pub clone_with : List (Key × Bp) → Dataset
clone_with entries = record { id = clone_id; head = true; owner = clone_name; label = EMPTY; parent = Some snapshot_id; creation = 0; entries = entries }

-- a head, a head with a snapshot, and these with a clone
abbrev pub one_head : List (Key × Bp) → Graph
one_head entries = origin ∷ head_with ORIGIN entries ∷ []

abbrev pub head_and_snapshot : List (Key × Bp) → List (Key × Bp) → Graph
head_and_snapshot head snapshot = origin ∷ head_with snapshot_id head ∷ snapshot_with snapshot ∷ []

abbrev pub head_and_clone : List (Key × Bp) → List (Key × Bp) → List (Key × Bp) → Graph
head_and_clone head snapshot clone = origin ∷ head_with snapshot_id head ∷ snapshot_with snapshot ∷ clone_with clone ∷ []

-- the room of a pool of one mirror of 512 sectors
abbrev pub room : Room
room = record { start = 296; ends = 512 ∷ []; blocks = 64 }

-- a scrub of what is born before a transaction group, in a pool of one mirror of two devices
abbrev pub scrub_up_to : ℕ → Scope
scrub_up_to max = record { kind = Scrub; min = 0; max = max; width = 2; dirty0 = [] ∷ [] ∷ [] }
