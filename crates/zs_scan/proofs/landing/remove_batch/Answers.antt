use Rattle.std.proofs.Common.{rules, ◌∙◌, ◌==◌, not}
use Rattle.std.proofs.lemmas.Fn.{filter_same}
use Rattle.zs_scan.proofs.Batches.{others_stay}
use Rattle.zs_scan.proofs.landing.remove_batch.Goals as goal

pub returns : goal.returns
returns c = filter_same _ (λ b. not (b.number == c.args.number)) _ (λ x b f k. search rules) _ _ c.retain.ensures.filtered

pub returns-then-is_first : goal.returns-then-is_first
returns-then-is_first c = c.pop_front.ensures.rest ∙ others_stay c.requires.0 _ c.args.number c.requires.1 (c.is_first.ensures.0 c.if-is_first.true)
