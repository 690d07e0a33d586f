use Rattle.zs_alloc.proofs.Halves.{no_right, yes_both, no_far, no_near}
use Rattle.zs_alloc.proofs.tree.+is_run.Goals as goal

pub returns-then-half-first-clause-no : goal.returns-then-half-first-clause-no
returns-then-half-first-clause-no t c =
    let near = rw c.deref.ensures at c.runs_of-half.ensures in
    rw c.in-Both.is (no_right _ _ _ _ _ _ near.len c.if-half-first.true (rw c.deref-then-half-first.ensures at c.is_run-then-half-first.ensures.no))

pub returns-then-is_run-clause-yes : goal.returns-then-is_run-clause-yes
returns-then-is_run-clause-yes t c =
    let near = rw c.deref.ensures at c.runs_of-half.ensures in
    let left = rw c.deref-in-Both.ensures at (c.if-is_run.ensures).yes in
    rw c.in-Both.is (yes_both _ _ _ _ _ _ near.len c.if-half-first.false c.if-end-half.false left (rw c.deref-then-is_run.ensures at c.is_run-then-is_run.ensures.yes))

pub returns-then-is_run-clause-no : goal.returns-then-is_run-clause-no
returns-then-is_run-clause-no t c =
    let near = rw c.deref.ensures at c.runs_of-half.ensures in
    rw c.in-Both.is (no_far _ _ _ _ _ _ near.len c.if-half-first.false c.if-end-half.false (rw c.deref-then-is_run.ensures at c.is_run-then-is_run.ensures.no))

pub returns-else-is_run-clause-no : goal.returns-else-is_run-clause-no
returns-else-is_run-clause-no t c =
    let near = rw c.deref.ensures at c.runs_of-half.ensures in
    rw c.in-Both.is (no_near _ _ _ _ _ _ near.len c.if-half-first.false c.if-end-half.false (rw c.deref-in-Both.ensures at c.is_run-in-Both.ensures.no))
