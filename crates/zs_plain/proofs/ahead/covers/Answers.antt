use Rattle.zs_plain.proofs.AheadDecides.{covering_from}
use Rattle.zs_plain.proofs.ahead.covers.Goals as goal

pub returns : goal.returns
returns c =
    covering_from c.args.g.now c.args.scope.now c.args.s.now c.in_ok-later.later.items c.deref.result.now c.args.done.now c.is_covering-covers.result c.in_ok-later.ensures c.deref.ensures.value c.is_covering-covers.ensures
