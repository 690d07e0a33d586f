use Rattle.std.proofs.Common.{arith, ◌<◌, ◌≤◌, length, get_or}
use Rattle.std.proofs.lemmas.Grind.{common_steps}
use Rattle.zs_queue.proofs.Parts.{count_few, kept_put}
use Rattle.zs_queue.proofs.plain.PlainQueueWaiting.put.Goals as goal

pub invariant_of-self-2 : goal.invariant_of-self-2
invariant_of-self-2 c = record { kept = kept_put _ _ _ c.args.item _ (omega arith) (omega arith) (omega arith) c.requires.absent c.in_ok-insert.ensures.entries c.insert.ensures.ordered c.args.self.now.kept }

pub overflow_add-self : goal.overflow_add-self
overflow_add-self c =
    let few : get_or c.args.self.now.counts c.args.item.piece.place.vdev 0 ≤ length c.args.self.now.map.entries = count_few _ _ _ _ (omega arith) c.args.self.now.kept in
    let bounded : c.args.self.now.limit < 4294967296 = c.args.self.now.kept.bounded in
    grind (arith, common_steps)
