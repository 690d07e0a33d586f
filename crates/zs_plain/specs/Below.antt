-- What stands below some datasets.
use Rattle.std.specs.Prelude.{List}
use Rattle.zs_ids.specs.declared.dataset.DsId.{DsId}
use Rattle.zs_ids.specs.Graph.{Has, Graph}
use Rattle.zs_ids.specs.GraphTree.{Above}

-- a strict ancestor of the dataset is one of the roots
pub record IsBelow (g : Graph) (roots : List DsId) (id : DsId) : Type 0 where
  pub root : DsId
  pub is_root : Has roots root
  pub above : Above g root id
