use Rattle.std.proofs.Common.{sym, ◌∙◌}
use Rattle.zs_walk.proofs.Children.{children_rise, queue_none, queue_more, queue_room, queue_less, queue_done}
use Rattle.zs_walk.proofs.turns.queue_children.Goals as goal

pub loop-child-init : goal.loop-child-init
loop-child-init g c = queue_none _ _ _

pub push-requires : goal.push-requires
push-requires g c =
    queue_room _ _ _ _ _ _ (children_rise _ c.args.id c.requires.order) (sym c.child_after.ensures ∙ c.in-Some.is) c.loop-child.invariant c.requires.room

pub loop-child-smaller : goal.loop-child-smaller
loop-child-smaller g c =
    queue_less c.args.min _ c.args.todo.now _ _ c.loop-child.todo (children_rise _ c.args.id c.requires.order) (sym c.child_after.ensures ∙ c.in-Some.is)

pub loop-child-preserved : goal.loop-child-preserved
loop-child-preserved g c =
    rw c.push.ensures (queue_more _ _ _ _ _ _ (children_rise _ c.args.id c.requires.order) (sym c.child_after.ensures ∙ c.in-Some.is) c.loop-child.invariant)

pub returns : goal.returns
returns g c =
    queue_done _ _ _ _ _ (sym c.child_after.ensures ∙ c.in_default.is) c.loop-child.invariant
