use Rattle.zs_walk.specs.Walking.{MayWalk}
use Rattle.zs_dataset_tests.proofs.scan.is_walk.Given as goal

abbrev pub invariant-loop-turn : goal.invariant-loop-turn
invariant-loop-turn g l = MayWalk (g.G.Datasets.datasets l.graph) l.scan.scope l.scan.run
