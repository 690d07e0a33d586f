use Rattle.zs_plain.proofs.AheadDecides.{ahead_from}
use Rattle.zs_plain.proofs.ahead.is_ahead.Goals as goal

pub returns : goal.returns
returns c =
    ahead_from c.args.g.now c.args.s.now c.in_ok-later.later.items c.deref.result.now c.args.id c.args.entry.now c.is_ahead_of-ahead.result c.in_ok-later.ensures c.deref.ensures.value c.is_ahead_of-ahead.ensures
