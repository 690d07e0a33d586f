use Rattle.std.proofs.Common.{rules, not}
use Rattle.std.proofs.lemmas.Fn.{filter_same}
use Rattle.zs_ids.specs.declared.block.Item.{Item}
use Rattle.zs_scan.specs.View.{has_item}
use Rattle.zs_core.proofs.born.drop_freed.Goals as goal

pub returns : goal.returns
returns c = filter_same _ (λ (i : Item). not (has_item c.args.freed.now i.piece)) _ (λ x b f k. search rules) _ _ c.retain.ensures.filtered
