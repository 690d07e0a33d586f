-- The plain list of datasets: what each holds, what is live, and which entries are at home in a dataset.
use Rattle.std.specs.Prelude.{◌≡◌, ℕ, Bool, List, [], ◌∷◌, Option, map, take, ◌⊎◌}
use Rattle.zs_ids.specs.declared.key.Key.{Key}
use Rattle.zs_ids.specs.declared.block.Bp.{Bp}
use Rattle.zs_ids.specs.declared.block.Piece.{Piece}
use Rattle.zs_ids.specs.declared.dataset.DsId.{DsId}
use Rattle.zs_ids.specs.declared.dataset.Name.{Name}

-- the list has x
abbrev pub Has : {A : Type 0} → List A → A → Type 0
Has [] x = ⊥
Has (y ∷ ys) x = (y ≡ x) ⊎ Has ys x

-- a dataset (after `dsl_dataset_phys_t`): a head or a snapshot, its names, the snapshot on which it stands,
-- the transaction group in which a snapshot was taken (0 for a head), and what it holds, in order of key
pub record Dataset : Type 0 where
  pub id : DsId
  pub head : Bool
  pub owner : Name
  pub label : Name
  pub parent : Option DsId
  pub creation : ℕ
  pub entries : List (Key × Bp)

-- the datasets of a pool
abbrev pub Graph : Type 0
Graph = List Dataset

-- the pieces of a block: one at each place that its pointer uses
abbrev pub pieces_of : Bp → List Piece
pieces_of bp = map (λ p. record { place = p; birth = bp.birth }) (take bp.count bp.places)

-- the dataset has an entry with this piece
pub record IsHeldBy (d : Dataset) (p : Piece) : Type 0 where
  pub entry : Key × Bp
  pub is_entry : Has d.entries entry
  pub is_piece : Has (pieces_of entry.1) p

-- some dataset holds the piece
pub record IsLive (g : Graph) (p : Piece) : Type 0 where
  pub holder : Dataset
  pub is_dataset : Has g holder
  pub holds : IsHeldBy holder p

-- some dataset has a block of this piece, with this size and sum
pub record IsOfBlock (g : Graph) (piece : Piece) (sectors : ℕ) (sum : List ℕ) : Type 0 where
  pub holder : Dataset
  pub is_dataset : Has g holder
  pub at : Key × Bp
  pub is_entry : Has holder.entries at
  pub is_piece : Has (pieces_of at.1) piece
  pub size : sectors ≡ at.1.sectors
  pub same_sum : sum ≡ at.1.sum
