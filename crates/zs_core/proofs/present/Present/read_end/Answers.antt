-- The first such read ends, with the reply that plan and bytes give.
use Rattle.std.proofs.Common.{refl}
use Rattle.zs_core.specs.Kept.{view_of}
use Rattle.zs_core.proofs.Finding.{ends_read, ends_step}
use Rattle.zs_core.proofs.present.Present.read_end.Goals as goal

pub returns-clause-step : goal.returns-clause-step
returns-clause-step g c =
    rw (← c.self.view_is) (ends_step (view_of c.self.inside).state _ _ _ _ _ _ _ _ (rw c.deref.ensures.value at c.in_ok-found.ensures.found) c.remove-read.ensures.value (c.remove-read.ensures.by_index).2 c.answer_of.ensures.answer refl)

pub returns-clause-ended : goal.returns-clause-ended
returns-clause-ended g c =
    rw (← c.self.view_is) (ends_read _ _ _ _ _ _ _ _ _ (rw c.deref.ensures.value at c.in_ok-found.ensures.found) c.remove-read.ensures.value (c.remove-read.ensures.by_index).2 c.answer_of.ensures.reply)
