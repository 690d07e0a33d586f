use Rattle.zs_walk.specs.Walking.{MayWalk}
use Rattle.zs_dataset_tests.proofs.walk.is_walk.Given as goal

abbrev pub invariant-loop-step : goal.invariant-loop-step
invariant-loop-step g l = MayWalk (g.G.Datasets.datasets l.graph) l.scope l.phys
