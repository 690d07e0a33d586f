use Rattle.zs_dtl.specs.Logs.{AreBounds, IsMissed}
use Rattle.zs_dtl.proofs.dirt.Dirt.bounds.Given as goal

abbrev pub invariant-loop-dev : goal.invariant-loop-dev
invariant-loop-dev l = AreBounds (IsMissed l.self-inside.logs.items l.online l.dev) l.bounds
