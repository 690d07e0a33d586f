use Rattle.std.proofs.Common.{◌∙◌, ap, subst, length, arith, option_map}
use Rattle.zs_io.specs.Told.{Torn, BothTold, over}
use Rattle.zs_lane.specs.declared.mark.Mark.TheVariants.{Wrote, Failed}
use Rattle.zs_lane.proofs.Keep.{pushed, tells_as, after_write, after_failure}
use Rattle.zs_lane.proofs.lane.Lane.write_summed.Goals as goal

pub returns-in-Ok-clause-keeps : goal.returns-in-Ok-clause-keeps
returns-in-Ok-clause-keeps g c o keeps =
    after_write o c.args.self.now.journal c.add.new.journal.items (g.D.Device.told c.args.self.now.device) (g.D.Device.told c.write_at.new.self) keeps
    c.args.at c.args.bytes.now c.args.sum.now
    (pushed _ _ _ (Wrote c.args.at (length c.args.bytes.now) c.args.sum.now) c.self.inside.journal.items c.add.ensures c.room.ensures.items (ap (λ l. l.journal) c.self.view_is))
    (c.in-Ok.ensures.written ∙ ap (λ l. option_map (over c.args.at c.args.bytes.now) (g.D.Device.told l.device)) c.self.view_is)
    (λ b is. omega (arith, c.requires.range, (g.met.D.Device.told_is c.args.self.now.device b is).0))
    c.requires.sum

pub returns-in-Err-Failed-clause-keeps : goal.returns-in-Err-Failed-clause-keeps
returns-in-Err-Failed-clause-keeps g c o keeps =
    after_failure o c.args.self.now.journal c.add-in-Err-Failed.new.journal.items (g.D.Device.told c.args.self.now.device) (g.D.Device.told c.write_at.new.self) keeps
    (pushed _ _ _ Failed c.self.inside.journal.items c.add-in-Err-Failed.ensures c.room.ensures.items (ap (λ l. l.journal) c.self.view_is))
    (tells_as (g.D.Device.told c.args.self.now.device) (g.D.Device.told c.write_at.new.self) (Torn c.args.at c.args.bytes.now)
    (subst (λ l. BothTold (Torn c.args.at c.args.bytes.now) (g.D.Device.told l.device) (g.D.Device.told c.write_at.new.self)) c.self.view_is c.in-Err-Failed.ensures.torn))
