use Rattle.std.proofs.Common.{◌∙◌}
use Rattle.zs_device_tests.proofs.TestSets.{two_lanes}
use Rattle.zs_device_tests.proofs.label.best.Goals as goal

pub best_label-requires-clause-sizes : goal.best_label-requires-clause-sizes
best_label-requires-clause-sizes c = two_lanes _ c.lane_with-first.result c.lane_with-second.result c.in_ok-set.set.items (c.lane_with-first.ensures ∙ c.requires.first)
    (c.lane_with-second.ensures ∙ c.requires.second) c.in_ok-set.ensures.items
