use Rattle.std.proofs.Common.{◌≡◌, ℕ, ◌+◌, ◌∙◌, ap, is_some, sym, length, arith}
use Rattle.std.specs.List.{slice_range}
use Rattle.zs_sum.specs.Sum.{sha256}
use Rattle.zs_lane.specs.declared.mark.Mark.TheVariants.{Read, Failed}
use Rattle.zs_lane.proofs.Keep.{pushed, after_read, after_failure}
use Rattle.zs_lane.proofs.lane.Lane.read_summed.Goals as goal

pub returns-in-Ok-clause-keeps : goal.returns-in-Ok-clause-keeps
returns-in-Ok-clause-keeps g c o keeps =
    let same_long : length c.read_at.new.buf ≡ length c.args.buf.now = c.read_at.auto.buf in
    after_read o c.args.self.now.journal c.add.new.journal.items (g.D.Device.told c.args.self.now.device) (g.D.Device.told c.read_at.new.self) keeps
    c.args.at (length c.read_at.new.buf) c.sum-sum.result
    (pushed _ _ _ (Read c.args.at (length c.read_at.new.buf) c.sum-sum.result) c.self.inside.journal.items c.add.ensures c.room.ensures.items (ap (λ l. l.journal) c.self.view_is))
    (c.in-Ok.ensures.told ∙ ap (λ l. g.D.Device.told l.device) c.self.view_is)
    (λ b is. (
      omega (arith, same_long, c.requires, (g.met.D.Device.told_is c.args.self.now.device b is).0),
      c.sum-sum.ensures ∙ ap sha256 (c.in-Ok.ensures.bytes b (ap (λ l. g.D.Device.told l.device) c.self.view_is ∙ is) ∙ ap (λ (k : ℕ). slice_range b c.args.at (c.args.at + k)) (sym same_long)),
    ))

pub returns-in-Err-Failed-clause-keeps : goal.returns-in-Err-Failed-clause-keeps
returns-in-Err-Failed-clause-keeps g c o keeps =
    after_failure o c.args.self.now.journal c.add-in-Err-Failed.new.journal.items (g.D.Device.told c.args.self.now.device) (g.D.Device.told c.read_at.new.self) keeps
    (pushed _ _ _ Failed c.self.inside.journal.items c.add-in-Err-Failed.ensures c.room.ensures.items (ap (λ l. l.journal) c.self.view_is))
    (ap is_some (sym (c.in-Err-Failed.ensures.told ∙ ap (λ l. g.D.Device.told l.device) c.self.view_is)))
