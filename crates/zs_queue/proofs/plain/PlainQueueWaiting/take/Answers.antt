use Rattle.std.proofs.Common.{◌∙◌, ap, arith, map, take, List}
use Rattle.zs_ids.specs.declared.block.Piece.{Piece}
use Rattle.zs_ids.specs.declared.block.Item.{Item}
use Rattle.zs_queue.specs.Waiting.{without}
use Rattle.zs_queue.proofs.Lowest.{run_is}
use Rattle.zs_queue.proofs.Parts.{all_gone, one_less}
use Rattle.zs_queue.proofs.plain.PlainQueueWaiting.take.Goals as goal

pub returns-clause-batch : goal.returns-clause-batch
returns-clause-batch c = c.in_ok-batch.ensures ∙ ap (λ (l : List (Piece × Item)). map (λ (e : Piece × Item). e.1) (take c.args.n l)) (run_is _ _ c.args.self.now.kept.ordered)

pub loop-item-preserved : goal.loop-item-preserved
loop-item-preserved c = record {
  rest = one_less _ _ _ c.deref-item-items.result.now c.loop-item.item-index _ (omega arith) c.drop_piece.ensures.items c.loop-item.invariant.rest;
  limit = c.drop_piece.ensures.limit ∙ c.loop-item.invariant.limit;
}

pub returns-clause-rest : goal.returns-clause-rest
returns-clause-rest c =
    all_gone _ _ c.deref-item-items.result.now c.loop-item.item-index (omega arith)
    (c.loop-item.invariant.rest ∙ ap (λ (l : List Item). without c.args.self.now.map.entries (map (λ (i : Item). i.piece) l)) c.deref-item-items.ensures.value)
