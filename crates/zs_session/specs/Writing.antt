-- What the writes of a sync's blocks leave of the journals of the first mirror's devices.
use Rattle.std.specs.Prelude.{◌≡◌, ◌≢◌, ◌<◌, ◌≤◌, ◌+◌, ℕ, List, [], ◌∷◌, length, slice_index_or}
use Rattle.zs_ids.specs.Graph.{Has, pieces_of}
use Rattle.zs_io.specs.Told.{Told}
use Rattle.zs_lane.specs.declared.mark.Mark.{Mark}
use Rattle.zs_lane.specs.declared.mark.Mark.TheVariants.{Synced}
use Rattle.zs_lane.specs.Children.{DeviceView}
use Rattle.zs_mirror.specs.Mirror.{IsMirror, nowhere}
use Rattle.zs_objset.specs.declared.block.StagedBlock.{StagedBlock}
use Rattle.zs_scan.specs.Walks.{item_of}
use Rattle.zs_sum.specs.Sum.{sha256}
use Rattle.zs_session.specs.Devices.{Journals}
use Rattle.zs_session.specs.Plays.{Gains, GainsTo, data_marks}

-- a block has its sum and lies on the devices of the first mirror
pub record IsWritable (count width : ℕ) (block : StagedBlock) (devices : ℕ → DeviceView) : Type 0 where
  pub sum : sha256 block.bytes ≡ block.bp.sum
  pub placed : Has (pieces_of block.bp) (item_of block.bp).piece
  pub first : (item_of block.bp).piece.place.vdev ≡ 0
  pub lies : IsMirror count width (item_of block.bp).piece.place (length block.bytes) devices

-- so does each of some blocks
abbrev pub AreWritable : ℕ → ℕ → List StagedBlock → (ℕ → DeviceView) → Type 0
AreWritable count width blocks devices = (b : StagedBlock) → Has blocks b → IsWritable count width b devices

-- the journals of the first devices have these marks more, and the others none
pub record GainsAll (width : ℕ) (marks : List Mark) (old new : Journals) : Type 0 where
  pub gains : (dev : ℕ) → dev < width → Gains marks (old dev) (new dev)
  pub others : (dev : ℕ) → width ≤ dev → new dev ≡ old dev

-- each of the first devices was synced, at these places
pub record SyncsFirst (width : ℕ) (places : List ℕ) (old new : Journals) : Type 0 where
  pub synced : (dev : ℕ) → dev < width → GainsTo (Synced ∷ []) (slice_index_or places dev nowhere) (old dev) (new dev)
  pub others : (dev : ℕ) → width ≤ dev → (new dev ≡ old dev) × (slice_index_or places dev nowhere ≡ nowhere)

-- the blocks were written and synced, with the last calls at these places
pub record PutsAt (width : ℕ) (blocks : List StagedBlock) (places : List ℕ) (old new : Journals) : Type 0 where
  pub gains : (dev : ℕ) → dev < width → Gains (data_marks blocks) (old dev) (new dev)
  pub last : (dev : ℕ) → dev < width → blocks ≢ [] → Told (old dev) (λ j. slice_index_or places dev nowhere + 1 ≡ length j + length (data_marks blocks))
  pub none : blocks ≡ [] → (dev : ℕ) → slice_index_or places dev nowhere ≡ nowhere
  pub others : (dev : ℕ) → width ≤ dev → (new dev ≡ old dev) × (slice_index_or places dev nowhere ≡ nowhere)
