use Rattle.std.proofs.Common.{arith, length-append}
use Rattle.zs_alloc.specs.Runs.{flags_of}
use Rattle.zs_alloc.proofs.Joins.{first_near, first_seam, first_far, some_far}
use Rattle.zs_alloc.proofs.Halves.{some_fits}
use Rattle.zs_alloc.proofs.tree.+first_run.Goals as goal

pub returns-then-n-near-clause-first : goal.returns-then-n-near-clause-first
returns-then-n-near-clause-first t c =
    let near = rw c.deref.ensures at c.runs_of-near.ensures in
    rw c.in-Both.is (λ has. first_near _ _ _ _ near (rw c.deref-in-Both.ensures at c.runs_of-far.ensures) _ _ c.requires.some ((rw c.deref-then-n-near.ensures at c.first_run.ensures.first) (some_fits _ _ _ near c.if-n-near.true)))

pub overflow_add-near : goal.overflow_add-near
overflow_add-near t c =
    let near = rw c.deref.ensures at c.runs_of-near.ensures in
    let far = rw c.deref-in-Both.ensures at c.runs_of-far.ensures in
    let short = rw c.in-Both.is at c.requires.short in
    let both = length-append (flags_of c.in-Both.left.value) (flags_of c.in-Both.right.value) in
    omega (arith, near.behind.bound, far.before_bound, short, both)

pub returns-then-n-near-2-clause-first : goal.returns-then-n-near-2-clause-first
returns-then-n-near-2-clause-first t c =
    rw c.in-Both.is (λ has. first_seam _ _ _ _ (rw c.deref.ensures at c.runs_of-near.ensures) (rw c.deref-in-Both.ensures at c.runs_of-far.ensures) _ c.requires.some c.if-n-near.false c.if-n-near-2.true)

pub overflow_add-result : goal.overflow_add-result
overflow_add-result t c =
    let near = rw c.deref.ensures at c.runs_of-near.ensures in
    let bound = rw c.deref-in-Both-2.ensures at c.first_run-in-Both.ensures.bound in
    let short = rw c.in-Both.is at c.requires.short in
    let both = length-append (flags_of c.in-Both.left.value) (flags_of c.in-Both.right.value) in
    omega (arith, near.len, bound, short, both)

pub returns-else-n-near-2-clause-first : goal.returns-else-n-near-2-clause-first
returns-else-n-near-2-clause-first t c =
    let near = rw c.deref.ensures at c.runs_of-near.ensures in
    let far = rw c.deref-in-Both.ensures at c.runs_of-far.ensures in
    rw c.in-Both.is (λ has. first_far _ _ _ _ near far _ _ c.requires.some c.if-n-near.false c.if-n-near-2.false ((rw c.deref-in-Both-2.ensures at c.first_run-in-Both.ensures.first) (some_far _ _ _ _ near far _ c.requires.some c.if-n-near.false c.if-n-near-2.false has)))
