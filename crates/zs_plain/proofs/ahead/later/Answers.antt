use Rattle.zs_plain.proofs.AheadDecides.{later_from}
use Rattle.zs_plain.proofs.ahead.later.Goals as goal

pub returns : goal.returns
returns c =
    later_from c.args.g.now c.args.s.now c.in_ok-roots.roots.items c.deref.result.now c.in_ok-found.found.items c.in_ok-roots.ensures c.deref.ensures.value c.in_ok-found.ensures
