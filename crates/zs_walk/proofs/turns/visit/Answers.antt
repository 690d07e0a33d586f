use Rattle.std.proofs.Common.{◌<◌, ◌≤◌, max, sym, ◌∙◌, arith}
use Rattle.zs_phys.specs.Turn.Comes.{rests, leaves, skips, enters}
use Rattle.zs_phys.specs.Turn.HasNoWork.{none_left}
use Rattle.zs_walk.proofs.Visits.{first_is, none_is, walks, idles, met, meets_is, ends_is}
use Rattle.zs_walk.proofs.turns.visit.Goals as goal

pub returns-then-not-is_walking-clause-turn : goal.returns-then-not-is_walking-clause-turn
returns-then-not-is_walking-clause-turn g c = rests (idles _ (sym c.if-not-is_walking.ensures))

pub returns-in-Destroyed-clause-turn : goal.returns-in-Destroyed-clause-turn
returns-in-Destroyed-clause-turn g c = leaves (walks _ (sym c.if-not-is_walking.ensures)) c.in-Destroyed.is

pub returns-in-None-clause-turn : goal.returns-in-None-clause-turn
returns-in-None-clause-turn g c =
    rests (none_left c.in-Nowhere.is (sym c.as_slice.ensures.entries ∙ none_is _ c.in-None.ensures.value))

pub returns-then-max-scope-clause-turn : goal.returns-then-max-scope-clause-turn
returns-then-max-scope-clause-turn g c =
    let over : c.args.scope.now.max ≤ max c.args.scope.now.min c.in-Some.first.now.min = omega (arith, c.if-max-scope.true, c.max.ensures) in
    skips c.in-Some.first.now _ (walks _ (sym c.if-not-is_walking.ensures)) c.in-Nowhere.is (sym c.as_slice.ensures.entries ∙ first_is _ _ c.in-Some.ensures.value) over

pub returns-else-max-scope-clause-turn : goal.returns-else-max-scope-clause-turn
returns-else-max-scope-clause-turn g c =
    let under : max c.args.scope.now.min c.in-Some.first.now.min < c.args.scope.now.max = omega (arith, c.if-max-scope.false, c.max.ensures) in
    enters c.in-Some.first.now _ (walks _ (sym c.if-not-is_walking.ensures)) c.in-Nowhere.is (sym c.as_slice.ensures.entries ∙ first_is _ _ c.in-Some.ensures.value) under

pub returns-in-Some-next_block-clause-turn : goal.returns-in-Some-next_block-clause-turn
returns-in-Some-next_block-clause-turn g c =
    meets_is _ _ _ c.requires c.in-Dataset.id c.in-Dataset.key _ _ (walks _ (sym c.if-not-is_walking.ensures)) c.in-Dataset.is (sym c.next_block.ensures ∙ c.in-Some-next_block.is)

pub returns-in-Some-next_block-clause-met : goal.returns-in-Some-next_block-clause-met
returns-in-Some-next_block-clause-met g c =
    met _ _ _ c.requires _ (meets_is _ _ _ c.requires c.in-Dataset.id c.in-Dataset.key _ _ (walks _ (sym c.if-not-is_walking.ensures)) c.in-Dataset.is (sym c.next_block.ensures ∙ c.in-Some-next_block.is))

pub returns-in-None-next_block-clause-turn : goal.returns-in-None-next_block-clause-turn
returns-in-None-next_block-clause-turn g c =
    ends_is _ _ _ c.requires c.in-Dataset.id c.in-Dataset.key (walks _ (sym c.if-not-is_walking.ensures)) c.in-Dataset.is (sym c.next_block.ensures ∙ c.in-None-next_block.is)
