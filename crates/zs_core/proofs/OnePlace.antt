-- Each pointer of a pool uses one place.
use Rattle.std.proofs.Common.{ℕ, List}
use Rattle.zs_ids.specs.Graph.{Graph}
use Rattle.zs_ids.specs.GraphValid.{HasOnePlace}
use Rattle.zs_txg.specs.declared.staged.Staging.{Staging}
use Rattle.zs_txg.specs.Txg.{Slot}
use Rattle.zs_core.specs.Datasets.{AreDatasets}

-- the pointers of formed datasets
pub one_of : (g : Graph) (n start next : ℕ) (staged : List (Slot × Staging)) → AreDatasets g n start next staged → HasOnePlace g
one_of g n start next staged a = record {
  each = λ d h e i. let w = ((a.formed d h).formed).each e i in record { single = w.single; unused = w.unused };
}
