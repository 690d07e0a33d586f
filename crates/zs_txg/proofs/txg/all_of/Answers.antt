use Rattle.std.proofs.Common.{◌≡◌, ◌∙◌, sym, ap, map, Some, None}
use Rattle.zs_txg.specs.Txg.{first_after, entry_of}
use Rattle.zs_txg.specs.Late.{with_late}
use Rattle.zs_txg.proofs.Walk.{walk_begins, walk_step, walk_shorter, walk_past, walk_ends, found_end, found_more, lt_from}
use Rattle.zs_txg.proofs.txg.all_of.Goals as goal

pub loop-e-init : goal.loop-e-init
loop-e-init c =
    rw c.new-found.ensures.items (ap (λ l. map entry_of l) (walk_begins c.below-after.result (with_late c.args.over.now.entries c.args.late.now.items) c.args.ds c.below-after.ensures))

pub returns-then-lt : goal.returns-then-lt
returns-then-lt c =
    let h : first_after (with_late c.args.over.now.entries c.args.late.now.items) c.loop-e.after ≡ Some c.in-Some.e = rw (← c.deref.ensures.value) (sym c.first.ensures ∙ c.in-Some.is) in
    found_end _ _ _ c.loop-e.invariant (walk_past c.loop-e.after _ c.in-Some.e c.args.ds c.rises.ensures.order h (lt_from _ _ c.if-lt.ensures))

pub loop-e-smaller : goal.loop-e-smaller
loop-e-smaller c =
    let h : first_after (with_late c.args.over.now.entries c.args.late.now.items) c.loop-e.after ≡ Some c.in-Some.e = rw (← c.deref.ensures.value) (sym c.first.ensures ∙ c.in-Some.is) in
    walk_shorter c.loop-e.after _ c.in-Some.e c.rises.ensures.order h

pub loop-e-preserved : goal.loop-e-preserved
loop-e-preserved c =
    let h : first_after (with_late c.args.over.now.entries c.args.late.now.items) c.loop-e.after ≡ Some c.in-Some.e = rw (← c.deref.ensures.value) (sym c.first.ensures ∙ c.in-Some.is) in
    found_more _ _ _ _ _ _ c.in_ok-add.ensures (walk_step c.loop-e.after _ c.in-Some.e c.args.ds c.rises.ensures.order h) c.loop-e.invariant

pub returns : goal.returns
returns c =
    let h : first_after (with_late c.args.over.now.entries c.args.late.now.items) c.loop-e.after ≡ None = rw (← c.deref.ensures.value) (sym c.first.ensures ∙ c.in_default.is) in
    found_end _ _ _ c.loop-e.invariant (walk_ends c.loop-e.after _ c.args.ds h)
