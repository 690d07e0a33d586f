use Rattle.std.proofs.Common.{arith}
use Rattle.zs_txg.proofs.Sums.{late_sorted, late_length}
use Rattle.zs_txg.proofs.txg.rises.Goals as goal

pub returns-clause-order : goal.returns-clause-order
returns-clause-order c = late_sorted c.args.map.now.entries c.args.late.now.items c.len-map.ensures.ordered

pub returns-clause-few : goal.returns-clause-few
returns-clause-few c =
    let h = late_length c.args.map.now.entries c.args.late.now.items in
    omega (arith, h, c.len-late.ensures, c.len-late.type_inv, c.len-map.ensures.len, c.len-map.type_inv)
