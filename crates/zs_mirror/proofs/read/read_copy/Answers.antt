use Rattle.std.proofs.Common.{rules}
use Rattle.std.specs.Cmp.Lexicographic.{other_text}
use Rattle.zs_mirror.proofs.Devices.{untouched_of}
use Rattle.zs_mirror.proofs.ReadCopies.{was_other}
use Rattle.zs_mirror.proofs.read.read_copy.Goals as goal

pub returns-else-eq-clause-read : goal.returns-else-eq-clause-read
returns-else-eq-clause-read g c = was_other _ c.args.at _ c.args.sum.now c.in-Ok.read.sum c.read_summed.new.buf c.in-Ok.read.place _ _ (search rules)
    (other_text c.in-Ok.read.sum c.args.sum.now c.if-eq.ensures) c.in-Ok.ensures.sum c.in-Ok.ensures.mark c.in-Ok.ensures.place c.in-Ok.ensures.bytes
    (untouched_of _ _ c.read_summed.ensures.call.time c.read_summed.ensures.unwritten) c.in-Ok.ensures.call.cause.ok
