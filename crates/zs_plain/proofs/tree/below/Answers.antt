use Rattle.zs_plain.proofs.Below.{step_fewer, step_more, step_last}
use Rattle.zs_plain.proofs.tree.below.Goals as goal

pub loop-id-smaller : goal.loop-id-smaller
loop-id-smaller c =
    step_fewer c.args.g.now c.args.roots.now c.loop-id.found.items c.deref.result.now c.next_below.result c.deref.ensures.value c.next_below.ensures c.in-Some.id c.push.new.self.items c.in-Some.is c.in_ok-push.ensures.items

pub loop-id-preserved : goal.loop-id-preserved
loop-id-preserved c =
    step_more c.args.g.now c.args.roots.now c.loop-id.found.items c.deref.result.now c.next_below.result c.deref.ensures.value c.next_below.ensures c.in-Some.id c.push.new.self.items c.in-Some.is c.in_ok-push.ensures.items c.loop-id.invariant

pub returns : goal.returns
returns c =
    step_last c.args.g.now c.args.roots.now c.loop-id.found.items c.deref.result.now c.next_below.result c.deref.ensures.value c.next_below.ensures c.in_default.is c.loop-id.invariant
