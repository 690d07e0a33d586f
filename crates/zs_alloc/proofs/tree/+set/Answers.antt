use Rattle.std.proofs.Common.{arith, length-append}
use Rattle.zs_alloc.specs.Runs.{flags_of}
use Rattle.zs_alloc.proofs.Joins.{joined_runs}
use Rattle.zs_alloc.proofs.Halves.{set_both}
use Rattle.zs_alloc.proofs.tree.+set.Goals as goal

pub joined-requires-clause-fits : goal.joined-requires-clause-fits
joined-requires-clause-fits t c =
    let near = rw c.deref-in-Both.ensures at c.runs_of.ensures in
    let far = rw c.deref-in-Both-2.ensures at c.runs_of-in-Both.ensures in
    let left = rw c.deref_mut.ensures.value at c.set.ensures.set in
    let right = rw c.deref_mut-in-Both.ensures.value at c.set-in-Both.ensures.set in
    let short = rw c.in-Both.is at c.requires.short in
    let both = length-append (flags_of c.in-Both.left.value) (flags_of c.in-Both.right.value) in
    omega (arith, near.len, far.len, left.len, right.len, short, both)

pub returns-in-Both-clause-set : goal.returns-in-Both-clause-set
returns-in-Both-clause-set t c =
    let half = rw c.deref.ensures at c.runs_of-half.ensures in
    rw c.in-Both.is (set_both _ _ _ _ _ _ _ _ half.len (rw (c.deref_mut.ensures.value, c.min.ensures, c.min-in-Both.ensures) at c.set.ensures.set) (rw (c.deref_mut-in-Both.ensures.value, c.max.ensures, c.max-in-Both.ensures) at c.set-in-Both.ensures.set))

pub returns-in-Both-clause-summed : goal.returns-in-Both-clause-summed
returns-in-Both-clause-summed t c =
    (c.set.ensures.summed, c.set-in-Both.ensures.summed, rw c.joined.ensures (joined_runs _ _ _ _ (rw c.deref-in-Both.ensures at c.runs_of.ensures) (rw c.deref-in-Both-2.ensures at c.runs_of-in-Both.ensures)))
