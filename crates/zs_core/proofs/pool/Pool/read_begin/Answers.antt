-- What was planned lies in the pool's space, and a refusal is the machine's.
use Rattle.std.specs.Prelude.{◌≡◌, Ok, Err, refl}
use Rattle.std.specs.declared.result.Result.{Result}
use Rattle.std.proofs.Common.{◌∙◌, sym, ap}
use Rattle.zs_script.specs.declared.refusal.Refusal.{Refusal}
use Rattle.zs_script.specs.declared.refusal.Refusal.TheVariants.{Suspended}
use Rattle.zs_machine.specs.declared.event.ReadPlan.{ReadPlan}
use Rattle.zs_core.specs.declared.pool.PoolFault.{PoolFault}
use Rattle.zs_core.specs.declared.pool.PoolFault.TheVariants as fault
use Rattle.zs_machine.proofs.Histories.{event_added}
use Rattle.zs_core.proofs.Planned.{why_refused}
use Rattle.zs_core.proofs.pool.Pool.read_begin.Goals as goal

abbrev reason : Result ReadPlan PoolFault → Refusal
reason (Err (fault.Refused why)) = why
reason (Err fault.Memory) = Suspended
reason (Ok plan) = Suspended

reason_is : (why told : Refusal) (r : Result ReadPlan PoolFault) → r ≡ Err (fault.Refused why) → r ≡ Err (fault.Refused told) → why ≡ told
reason_is why told r was is = sym (ap reason was) ∙ ap reason is

pub returns-in-Planned-clause-within : goal.returns-in-Planned-clause-within
returns-in-Planned-clause-within c = rw (← c.self.view_is) (rw c.in-Planned.is at c.in_ok-begun.ensures.within)

pub returns-in-Refused-clause-told : goal.returns-in-Refused-clause-told
returns-in-Refused-clause-told c = λ told is.
    rw (← c.self.view_is, ← reason_is c.in-Refused.refusal told _ refl is) (
      why_refused c.self.inside.present.state c.read_begin.new.self.state c.args.by c.args.ds.now c.args.object c.args.leaf c.in-Refused.refusal (rw c.in-Refused.is at c.in_ok-begun.ensures.step),
      rw c.in_ok-line.ensures at (event_added _ _ _ _ c.note-in-Refused.ensures.items c.in_ok-reserve.ensures.items),
    )
