-- How an entry's home is found from a dataset that holds the entry.
use Rattle.std.specs.Prelude.{◌≡◌, ◌⊎◌}
use Rattle.zs_ids.specs.declared.key.Key.{Key}
use Rattle.zs_ids.specs.declared.block.Bp.{Bp}
use Rattle.zs_ids.specs.declared.dataset.DsId.{DsId}
use Rattle.zs_ids.specs.Graph.{Has, Dataset, Graph}
use Rattle.zs_ids.specs.GraphTree.{Above}

-- the dataset is this one, or a strict ancestor of it
abbrev pub AtOrAbove : Graph → DsId → DsId → Type 0
AtOrAbove g a b = (a ≡ b) ⊎ Above g a b

-- An entry's home is found by climbing from a dataset: it is that dataset or a strict ancestor, and each dataset from
-- the one to the other, both with them, holds the entry.
pub record IsFoundFrom (g : Graph) (home : DsId) (e : Key × Bp) (from : Dataset) : Type 0 where
  pub upward : AtOrAbove g home from.id
  pub way : (d : Dataset) → Has g d → AtOrAbove g home d.id → AtOrAbove g d.id from.id → Has d.entries e
