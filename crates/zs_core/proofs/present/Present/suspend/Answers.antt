use Rattle.zs_core.proofs.Tended.{facts_halted}
use Rattle.zs_core.proofs.present.Present.suspend.Goals as goal

pub invariant_of-self : goal.invariant_of-self
invariant_of-self c = facts_halted c.self.inside c.self.invariant
