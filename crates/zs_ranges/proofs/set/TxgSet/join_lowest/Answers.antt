use Rattle.std.proofs.Common.{arith, ◌∙◌, sym, subst}
use Rattle.zs_ranges.specs.Set.{IsCanonical}
use Rattle.zs_ranges.proofs.Joined.{joined_by_set, joined_canonical}
use Rattle.zs_ranges.proofs.set.TxgSet.join_lowest.Goals as goal

pub invariant_of-self : goal.invariant_of-self
invariant_of-self c =
    subst IsCanonical (sym (c.drop-drain.ensures.items ∙ c.drain.ensures.kept ∙ joined_by_set _ _ _ _ _ c.requires (omega arith) c.index.ensures c.index-2.ensures)) (joined_canonical _ _ c.self.invariant)

pub returns-clause-joined : goal.returns-clause-joined
returns-clause-joined c =
    rw (← c.self.view_is) (c.drop-drain.ensures.items ∙ c.drain.ensures.kept ∙ joined_by_set _ _ _ _ _ c.requires (omega arith) c.index.ensures c.index-2.ensures)

pub returns-clause-canonical : goal.returns-clause-canonical
returns-clause-canonical c =
    subst IsCanonical (sym (c.drop-drain.ensures.items ∙ c.drain.ensures.kept ∙ joined_by_set _ _ _ _ _ c.requires (omega arith) c.index.ensures c.index-2.ensures)) (joined_canonical _ _ c.self.invariant)
