use Rattle.std.proofs.Common.{◌∙◌, [], ◌∷◌, List, ap, sym, subst}
use Rattle.zs_ids.specs.declared.block.Piece.{Piece}
use Rattle.zs_ids.specs.declared.block.Item.{Item}
use Rattle.zs_queue.specs.Waiting.{without}
use Rattle.zs_scan.specs.View.{ScanView}
use Rattle.zs_scan.specs.Walks.{IsWanted}
use Rattle.zs_scan.proofs.Putting.{put_orderly, undone, undone_orderly, dropped_again, not_waiting}
use Rattle.zs_scan.proofs.scan.Scan.put.Goals as goal

pub invariant_of-self-in-Ok : goal.invariant_of-self-in-Ok
invariant_of-self-in-Ok c =
    put_orderly _ c.args.item _ _ _ c.self.invariant (record { ordered = c.put_waiting.new.queue.kept.ordered; named = c.put_waiting.new.queue.kept.named; within = c.put_waiting.new.queue.kept.within })
    (subst (λ (o : ScanView). IsWanted o c.args.item) (sym c.self.view_is) c.requires) c.in_ok-put_waiting.ensures.ok c.in-Ok.ensures.ok c.in-Ok.ensures.flying

pub invariant_of-self-in-Err : goal.invariant_of-self-in-Err
invariant_of-self-in-Err c =
    let may = subst (λ (o : ScanView). IsWanted o c.args.item) (sym c.self.view_is) c.requires in
    undone_orderly _ _ _ _ c.self.invariant
    (c.drop_piece.ensures.items ∙ ap (λ (l : List (Piece × Item)). without l (c.args.item.piece ∷ [])) c.in_ok-put_waiting.ensures.ok ∙ dropped_again c.self.inside.queue.map.entries c.args.item.piece c.args.item (not_waiting _ c.args.item.piece c.self.invariant may.fresh))
    (c.drop_piece.ensures.limit ∙ c.put_waiting.ensures.limit) c.in-Err.ensures.err

pub returns-in-Err-clause-err : goal.returns-in-Err-clause-err
returns-in-Err-clause-err c =
    let may = subst (λ (o : ScanView). IsWanted o c.args.item) (sym c.self.view_is) c.requires in
    undone _ _ _ _ _ c.self.view_is
    (c.drop_piece.ensures.items ∙ ap (λ (l : List (Piece × Item)). without l (c.args.item.piece ∷ [])) c.in_ok-put_waiting.ensures.ok ∙ dropped_again c.self.inside.queue.map.entries c.args.item.piece c.args.item (not_waiting _ c.args.item.piece c.self.invariant may.fresh))
    (c.drop_piece.ensures.limit ∙ c.put_waiting.ensures.limit) c.in-Err.ensures.err
