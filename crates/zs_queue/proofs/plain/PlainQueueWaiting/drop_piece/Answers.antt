use Rattle.std.proofs.Common.{rules, arith, ◌≡◌, ◌∙◌, true}
use Rattle.zs_queue.specs.Waiting.{waits}
use Rattle.zs_queue.proofs.Parts.{counted, kept_drop, remove_is}
use Rattle.zs_queue.proofs.plain.PlainQueueWaiting.drop_piece.Goals as goal

pub returns-then-is_none-clause-items : goal.returns-then-is_none-clause-items
returns-then-is_none-clause-items c = c.remove.ensures.entries ∙ remove_is _ _ c.args.self.now.kept.ordered

pub overflow_sub-self : goal.overflow_sub-self
overflow_sub-self c =
    let there : waits c.args.self.now.map.entries c.args.piece ≡ true = search rules in
    counted _ _ _ c.args.piece (omega arith) there c.args.self.now.kept

pub invariant_of-self-2 : goal.invariant_of-self-2
invariant_of-self-2 c =
    let there : waits c.args.self.now.map.entries c.args.piece ≡ true = search rules in
    record { kept = kept_drop _ _ _ c.args.piece _ (omega arith) (omega arith) there c.remove.ensures.entries c.remove.ensures.ordered c.args.self.now.kept }

pub returns-clause-items : goal.returns-clause-items
returns-clause-items c = c.remove.ensures.entries ∙ remove_is _ _ c.args.self.now.kept.ordered
