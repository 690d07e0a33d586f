use Rattle.std.proofs.Common.{◌∙◌}
use Rattle.zs_device_tests.proofs.TestSets.{one_lane}
use Rattle.zs_device_tests.proofs.label.put_on.Goals as goal

pub put_label-answer-requires-clause-label : goal.put_label-answer-requires-clause-label
put_label-answer-requires-clause-label c = one_lane _ c.lane_with-lane.result c.in_ok-set.set.items c.args.rec.now c.label_for-label.result (c.lane_with-lane.ensures ∙ c.in_ok-bytes.ensures)
    c.in_ok-set.ensures.items c.label_for-label.ensures.valid c.label_for-label.ensures.number c.label_for-label.ensures.blocks c.label_for-label.ensures.long
    c.label_for-label.ensures.sum
