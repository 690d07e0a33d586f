use Rattle.std.proofs.Common.{◌/◌, arith}
use Rattle.zs_alloc.proofs.Halves.{none_halves, none_runs}
use Rattle.zs_alloc.proofs.tree.+none_free.Goals as goal

pub returns-clause-flags : goal.returns-clause-flags
returns-clause-flags t c =
    rw ((c.in_ok-left-2.ensures).ok, (c.in_ok-right-2.ensures).ok, (c.in_ok-left.ensures).flags, (c.in_ok-right.ensures).flags) (none_halves c.args.len (c.args.len / 2) (omega arith))

pub returns-clause-summed : goal.returns-clause-summed
returns-clause-summed t c =
    (rw (c.in_ok-left-2.ensures).ok (c.in_ok-left.ensures).summed, rw (c.in_ok-right-2.ensures).ok (c.in_ok-right.ensures).summed, rw (returns-clause-flags t c) (none_runs c.args.len))
