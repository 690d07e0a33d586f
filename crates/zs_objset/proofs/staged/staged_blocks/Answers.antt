use Rattle.std.proofs.Common.{◌∙◌, ◌++◌, ap, rules}
use Rattle.std.specs.Option.{option_to_list}
use Rattle.std.proofs.lemmas.List.{nil_from_length}
use Rattle.zs_ids.specs.Blocks.{bp_at}
use Rattle.zs_objset.proofs.Steps.{done_begins, done_more, done_all, done_sized}
use Rattle.zs_objset.proofs.staged.staged_blocks.Goals as goal

pub loop-entry-init : goal.loop-entry-init
loop-entry-init g c =
    rw (← c.in_ok-todo.ensures.entries) (done_begins (bp_at (g.T.Blocks.entries c.args.map.now)) c.args.txg.now.txg c.in_ok-todo.todo.items _ _ c.new-pointers.ensures.empty c.in_ok-blocks.ensures.items)

pub loop-entry-preserved : goal.loop-entry-preserved
loop-entry-preserved g c =
    done_more (bp_at (g.T.Blocks.entries c.args.map.now)) c.args.txg.now.txg _ _ _ c.in-Some.entry _ _ _ _
    (rw (← c.in_ok-todo.ensures.entries) c.in_ok-todo.ensures.order)
    (c.pop.ensures.items ∙ ap (λ o. c.pop.new.self.items ++ option_to_list o) c.in-Some.is)
    c.loop-entry.invariant
    (rw (← c.txg.ensures) c.in_ok-add.ensures.block)
    c.in_ok-add.ensures.sized
    (rw (← c.txg.ensures) c.in_ok-add.ensures.listed)

pub returns-clause-blocks : goal.returns-clause-blocks
returns-clause-blocks g c =
    rw c.reverse.ensures.items (done_all (bp_at (g.T.Blocks.entries c.args.map.now)) c.args.txg.now.txg _ _ _ _ c.loop-entry.invariant (nil_from_length _ (let z = c.in_default.ensures.cases in let k = c.loop-entry.todo.ok in search (rules, z))))

pub returns-clause-sized : goal.returns-clause-sized
returns-clause-sized g c =
    rw c.reverse.ensures.items (done_sized (bp_at (g.T.Blocks.entries c.args.map.now)) c.args.txg.now.txg _ _ _ _ c.loop-entry.invariant (nil_from_length _ (let z = c.in_default.ensures.cases in let k = c.loop-entry.todo.ok in search (rules, z))))
