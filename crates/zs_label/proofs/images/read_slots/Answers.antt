use Rattle.zs_label.proofs.Moments.{leaves_same}
use Rattle.zs_label.proofs.Reading.{was_read}
use Rattle.std.proofs.Common.{length, rules}
use Rattle.zs_label.proofs.images.read_slots.Goals as goal

pub returns-in-Ok-clause-done : goal.returns-in-Ok-clause-done
returns-in-Ok-clause-done g c = was_read c.read.new.buf (length c.args.slots.now) (g.C.Children.device c.args.set.now c.args.dev) (g.C.Children.device c.read.new.self c.args.dev)
    c.requires.long (search rules) c.in-Ok.ensures.mark c.in-Ok.ensures.bytes c.in-Ok.ensures.call.cause.ok c.read.ensures.unwritten.told
    (leaves_same _ _ c.read.ensures.call.time c.read.ensures.unwritten.crash) c.read.ensures.call.goes_on
