use Rattle.std.proofs.Common.{arith, refl}
use Rattle.zs_ranges.proofs.Rises.{put_over, put_after}
use Rattle.zs_ranges.proofs.merge.put_behind.Goals as goal

pub returns-then-saturating_add-s-clause-ok : goal.returns-then-saturating_add-s-clause-ok
returns-then-saturating_add-s-clause-ok c =
    rw c.in_ok-push-2.ensures.items (put_after _ c.len-n.result c.index-before.result.now _ (omega arith) (omega arith) c.index-before.ensures c.requires.canonical c.requires.behind (omega arith) c.requires.filled)

pub returns-clause-ok : goal.returns-clause-ok
returns-clause-ok c =
    put_over _ c.len-n.result c.index-before.result.now _ _ (omega arith) (omega arith) c.index-before.ensures c.requires.canonical c.requires.behind (omega arith) c.requires.filled refl (grind arith) (omega arith) (omega arith)
