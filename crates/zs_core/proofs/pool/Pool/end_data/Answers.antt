-- The group is applied, or the pool is suspended; the history goes on as the machine asks.
use Rattle.std.proofs.Common.{◌∙◌, refl, sym, ap, subst}
use Rattle.zs_ids.specs.declared.block.Marks.{Marks}
use Rattle.zs_machine.specs.Steps.{IsSyncing}
use Rattle.zs_machine.proofs.Histories.{history_on}
use Rattle.zs_core.proofs.Flying.{fly_still}
use Rattle.zs_core.proofs.Halting.{applied_room, halted_on}
use Rattle.zs_core.proofs.pool.Pool.end_data.Goals as goal

pub invariant_of-self : goal.invariant_of-self
invariant_of-self c = halted_on c.self.inside.present c.suspend.new.self c.online-online.result c.self.inside.history.items c.note_halted.new.history.items _ _ _ _ c.note_halted.ensures.items c.note_halted.ensures.len c.note_halted.ensures.capacity c.self.invariant (ap (λ v. v.core.state.suspended) c.self.view_is ∙ c.requires.up) c.online-online.ensures (subst IsSyncing (sym (ap (λ v. v.core.state.stage) c.self.view_is ∙ c.requires.writing)) tt) c.suspend.ensures

pub apply-requires : goal.apply-requires
apply-requires c = (refl, (ap (λ v. v.core.state.suspended) c.self.view_is ∙ c.requires.up, ap (λ v. v.core.state.stage) c.self.view_is ∙ c.requires.writing))

pub invariant_of-self-in_default-apply : goal.invariant_of-self-in_default-apply
invariant_of-self-in_default-apply c = halted_on c.self.inside.present c.apply.new.self c.online-online.result c.self.inside.history.items c.note_halted-in_default-apply.new.history.items _ _ _ _ c.note_halted-in_default-apply.ensures.items c.note_halted-in_default-apply.ensures.len c.note_halted-in_default-apply.ensures.capacity c.self.invariant (ap (λ v. v.core.state.suspended) c.self.view_is ∙ c.requires.up) c.online-online.ensures (subst IsSyncing (sym (ap (λ v. v.core.state.stage) c.self.view_is ∙ c.requires.writing)) tt) c.in_default-apply.ensures.err

pub invariant_of-self-2 : goal.invariant_of-self-2
invariant_of-self-2 c =
    let writing = ap (λ v. v.core.state.stage) c.self.view_is ∙ c.requires.writing in
    let failed = ap (λ (m : Marks). m.failed) c.in-Ok.ensures ∙ c.requires.failed in (
      history_on c.self.inside.present.state c.apply.new.self.state c.self.inside.history.items c.note.new.history.items _ c.note.ensures.items (c.self.invariant).0 (refl, ap (λ v. v.core.state.suspended) c.self.view_is ∙ c.requires.up, c.online-online.ensures, failed, c.in-Ok-apply.ensures.step) tt,
      applied_room c.self.inside.present.state.stage c.apply.new.self.state.stage _ _ _ _ writing (c.self.invariant).1 c.note.ensures.len c.note.ensures.capacity c.in-Ok-apply.ensures.stage,
      fly_still c.self.inside.present.scan.flight c.apply.new.self.scan.flight c.self.inside.history.items c.note.new.history.items _ c.note.ensures.items (c.self.invariant).2 c.apply.ensures.flight refl,
    )
