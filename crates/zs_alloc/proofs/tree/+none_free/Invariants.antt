-- each half has fewer sectors
use Rattle.zs_alloc.proofs.tree.+none_free.Given as goal

abbrev pub decreases-none_free : goal.decreases-none_free
decreases-none_free a = a.len
