use Rattle.std.proofs.Common.{◌*◌, ◌%◌, ◌^◌}
use Rattle.zs_record.specs.Head.{leaves_each}
use Rattle.zs_record.proofs.Masks.{shift, next_mirror}
use Rattle.zs_record.proofs.mirrors.leaves_each.Goals as goal

pub loop-preserved : goal.loop-preserved
loop-preserved c =
    next_mirror c.args.width (1 * 2 ^ c.args.width % 4294967296) c.args.count c.loop.counter c.loop.left (leaves_each c.args.width c.args.count c.args.mask)
    (shift c.args.width c.requires) c.loop-test.true c.if-left-devices.false c.loop.invariant
