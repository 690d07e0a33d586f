-- Where memory was wanting for the reply, the pool is suspended.
use Rattle.std.proofs.Common.{◌∙◌, sym, ap, subst}
use Rattle.zs_machine.specs.Steps.{IsSyncing}
use Rattle.zs_core.proofs.Halting.{halted_on}
use Rattle.zs_core.proofs.pool.Pool.committed.Goals as goal

pub invariant_of-self : goal.invariant_of-self
invariant_of-self c = halted_on c.self.inside.present c.suspend.new.self c.online-online.result c.self.inside.history.items c.note_halted.new.history.items _ _ _ _ c.note_halted.ensures.items c.note_halted.ensures.len c.note_halted.ensures.capacity c.self.invariant (ap (λ v. v.core.state.suspended) c.self.view_is ∙ c.requires.up) c.online-online.ensures (subst IsSyncing (sym (ap (λ v. v.core.state.stage) c.self.view_is ∙ c.requires.labelling)) tt) c.suspend.ensures
