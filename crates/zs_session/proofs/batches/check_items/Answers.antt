use Rattle.zs_session.specs.Devices.{journals}
use Rattle.zs_session.proofs.Sets.{set_twice, calls_stop, calls_memory}
use Rattle.zs_session.proofs.Checks.{lies_at, checks_more, copies_more}
use Rattle.std.proofs.Common.{rules}
use Rattle.zs_session.proofs.batches.check_items.Goals as goal

pub check_item-requires : goal.check_item-requires
check_item-requires g c = record {
  lies = lies_at _ _ c.args.width c.args.items.now c.loop-item.item-index _ (g.C.Children.device c.args.rig.now.set) (g.C.Children.device c.loop-item.rig.set) c.loop-item-test.true c.loop-item.invariant.calls c.requires.lie;
}

pub loop-item-preserved : goal.loop-item-preserved
loop-item-preserved g c = record {
  checks = checks_more c.args.width c.args.online c.args.items.now c.loop-item.item-index _ c.loop-item.entries.items c.push.new.self.items c.in_ok-check_item.field-0
      (journals (g.C.Children.device c.args.rig.now.set)) (journals (g.C.Children.device c.loop-item.rig.set)) (journals (g.C.Children.device c.check_item.new.rig.set))
      c.loop-item-test.true c.loop-item.invariant.checks c.in_ok-check_item.ensures.checked c.in_ok-push.ensures.items;
  copies = copies_more c.args.width c.loop-item.entries.items c.push.new.self.items c.in_ok-check_item.field-0 c.loop-item.invariant.copies c.in_ok-check_item.ensures.checked.copies_are c.in_ok-push.ensures.items;
  calls = set_twice _ _ _ _ _ _ c.loop-item.invariant.calls c.in_ok-check_item.ensures.calls.set;
}

pub returns-in_err-check_item-clause-calls : goal.returns-in_err-check_item-clause-calls
returns-in_err-check_item-clause-calls g c = calls_stop _ _ _ _ _ _ _ _ (search rules) c.loop-item.invariant.calls c.in_err-check_item.ensures.calls

pub returns-in_err-push-clause-calls : goal.returns-in_err-push-clause-calls
returns-in_err-push-clause-calls g c = calls_memory _ _ _ _ _ (search rules) (set_twice _ _ _ _ _ _ c.loop-item.invariant.calls c.in_ok-check_item.ensures.calls.set)
