use Rattle.std.proofs.Common.{arith}
use Rattle.std.proofs.lemmas.Grind.{common_steps}
use Rattle.zs_session.proofs.Heads.{head_done, head_failed, head_wanting, size_is}
use Rattle.zs_session.proofs.images.is_blank.Goals as goal

pub returns-in-Ok-clause-calls : goal.returns-in-Ok-clause-calls
returns-in-Ok-clause-calls g c =
    let size = size_is g.D.Device c.args.lanes.now.items c.args.dev in
    head_done g.D.Device c.args.dev _ _ c.args.lanes.now.items c.read.new.self.items _ _ c.in-Ok.ensures.only c.in-Ok.ensures.unwritten c.in-Ok.ensures.call
    c.in-Ok.ensures.mark (grind (arith, common_steps, size))

pub returns-in-Err-Failed-clause-calls : goal.returns-in-Err-Failed-clause-calls
returns-in-Err-Failed-clause-calls g c =
    head_failed g.D.Device c.args.dev c.in-Err-Failed.field-0-0 c.args.lanes.now.items c.read.new.self.items c.in-Err-Failed.ensures.only c.in-Err-Failed.ensures.unwritten
    (rw c.in-Err-Failed.field-0-is at c.in-Err-Failed.ensures.call)

pub returns-in-Err-Memory-clause-calls : goal.returns-in-Err-Memory-clause-calls
returns-in-Err-Memory-clause-calls g c =
    head_wanting g.D.Device c.args.dev c.args.lanes.now.items c.read.new.self.items c.in-Err-Memory.ensures.only c.in-Err-Memory.ensures.unwritten
    (rw c.in-Err-Memory.field-0-is at c.in-Err-Memory.ensures.call)
