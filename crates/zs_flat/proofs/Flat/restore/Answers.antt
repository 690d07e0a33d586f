-- What stood at the key is put in where it is still, or taken out.
use Rattle.std.proofs.Common.{None, sym, ◌∙◌}
use Rattle.zs_flat.proofs.Restored.{put_back, restored}
use Rattle.zs_flat.proofs.Flat.restore.Goals as goal

pub returns-in-Some : goal.returns-in-Some
returns-in-Some c = λ before bp left is d.
    put_back before c.args.self.now.map c.insert.new.self (c.args.key, bp) left c.in-Some.bp c.insert.result (sym c.in-Some.is ∙ is) c.insert.ensures.updates c.insert.ensures.absent d

pub returns-in-None : goal.returns-in-None
returns-in-None c = λ before bp left is d.
    restored before c.args.self.now.map c.remove.new.self (c.args.key, bp) left None (sym c.in-None.is ∙ is) c.remove.ensures.updates d
