use Rattle.zs_ledger.proofs.Agrees.{reordered}
use Rattle.zs_ledger.proofs.ledger.Ledger.reserve.Goals as goal

pub invariant_of-self-2 : goal.invariant_of-self-2
invariant_of-self-2 c = reordered _ _ _ _ _ c.reserve.ensures.items c.reserve-2.ensures.keys.0 c.self.invariant
