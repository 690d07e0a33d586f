use Rattle.std.proofs.Common.{◌∙◌, ap, is_some, sym}
use Rattle.zs_lane.specs.declared.mark.Mark.TheVariants.{Synced, Failed}
use Rattle.zs_lane.proofs.Keep.{pushed, after_sync, after_failure}
use Rattle.zs_lane.proofs.lane.Lane.sync.Goals as goal

pub returns-in-Ok-clause-keeps : goal.returns-in-Ok-clause-keeps
returns-in-Ok-clause-keeps g c o keeps =
    after_sync o c.args.self.now.journal c.add.new.journal.items (g.D.Device.told c.args.self.now.device) (g.D.Device.told c.sync.new.self) keeps
    (pushed _ _ _ Synced c.self.inside.journal.items c.add.ensures c.room.ensures.items (ap (λ l. l.journal) c.self.view_is))
    (c.in-Ok.ensures.told ∙ ap (λ l. g.D.Device.told l.device) c.self.view_is)

pub returns-in-Err-Failed-clause-keeps : goal.returns-in-Err-Failed-clause-keeps
returns-in-Err-Failed-clause-keeps g c o keeps =
    after_failure o c.args.self.now.journal c.add-in-Err-Failed.new.journal.items (g.D.Device.told c.args.self.now.device) (g.D.Device.told c.sync.new.self) keeps
    (pushed _ _ _ Failed c.self.inside.journal.items c.add-in-Err-Failed.ensures c.room.ensures.items (ap (λ l. l.journal) c.self.view_is))
    (ap is_some (sym (c.in-Err-Failed.ensures.told ∙ ap (λ l. g.D.Device.told l.device) c.self.view_is)))
