use Rattle.std.proofs.Common.{◌<◌, length, arith}
use Rattle.zs_scan.proofs.Emptied.{emptied_more}
use Rattle.zs_scan.proofs.scope.clear_all.Goals as goal

pub loop-set-preserved : goal.loop-set-preserved
loop-set-preserved c =
    let below : c.loop-set.set-index < length c.args.sets.now = omega arith in
    emptied_more c.args.sets.now _ _ _ below c.loop-set.invariant c.clear.ensures
