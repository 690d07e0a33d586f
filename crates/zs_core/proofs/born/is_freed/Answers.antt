-- The search is by the piece.
use Rattle.std.proofs.Common.{rules}
use Rattle.std.proofs.lemmas.List.Sorted.{answers_always}
use Rattle.zs_ids.specs.declared.block.Item.{Item}
use Rattle.zs_core.proofs.FoundItems.{found_item, no_item_found, comparisons_rise}
use Rattle.zs_core.proofs.born.is_freed.Goals as goal

pub returns-in-Ok : goal.returns-in-Ok
returns-in-Ok c =
    found_item c.args.freed.now c.in-Ok.field-0 c.args.item.now.piece c.in-Ok.ensures.bound (c.in-Ok.ensures.position (λ (i : Item). i.piece) (answers_always _ _ _ (λ f a r h called. search rules)))

pub returns-in-Err : goal.returns-in-Err
returns-in-Err c =
    no_item_found c.args.freed.now c.in-Err.field-0 c.args.item.now.piece (c.in-Err.ensures.position (λ (i : Item). i.piece) (answers_always _ _ _ (λ f a r h called. search rules)) (comparisons_rise c.args.freed.now c.args.item.now.piece c.requires.sorted))
