use Rattle.std.proofs.lemmas.List.{get_or-replicate}
use Rattle.zs_queue.proofs.Parts.{kept_empty}
use Rattle.zs_queue.proofs.plain.PlainQueueWaiting.clear.Goals as goal

pub invariant_of-self : goal.invariant_of-self
invariant_of-self c = rw c.clear.ensures.empty (record { kept = kept_empty _ _ c.args.self.now.kept.bounded (λ v v_in. get_or-replicate 256 v 0 0 v_in) })
