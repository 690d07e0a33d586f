use Rattle.zs_device_tests.proofs.ThreeLanes.{three_lanes}
use Rattle.zs_device_tests.proofs.mirror.mirror.Goals as goal

pub returns-clause-mirror : goal.returns-clause-mirror
returns-clause-mirror c = three_lanes _ c.in_ok-first.first c.in_ok-second.second c.in_ok-third.third c.in_ok-first.ensures c.in_ok-second.ensures c.in_ok-third.ensures
    c.in_ok-set.set.items c.in_ok-set.ensures.items
