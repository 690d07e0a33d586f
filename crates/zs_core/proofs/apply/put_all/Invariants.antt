-- The blocks of the datasets so far were put.
use Rattle.zs_core.proofs.PutAll.{IsPutUpTo}
use Rattle.zs_core.proofs.apply.put_all.Given as goal

abbrev pub invariant-loop-own : goal.invariant-loop-own
invariant-loop-own g l = IsPutUpTo g.space l.txg l.changes l.fn.graph l.fn.scan l.own-index l.graph l.scan
