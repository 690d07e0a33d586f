use Rattle.std.proofs.lemmas.List.{get_or-replicate}
use Rattle.std.proofs.Common.{arith}
use Rattle.zs_queue.proofs.Parts.{kept_empty}
use Rattle.zs_queue.proofs.plain.PlainQueue.new.Goals as goal

pub invariant_of-result : goal.invariant_of-result
invariant_of-result c = rw c.new.ensures.empty (record { kept = kept_empty _ _ (omega arith) (λ v v_in. get_or-replicate 256 v 0 0 v_in) })
